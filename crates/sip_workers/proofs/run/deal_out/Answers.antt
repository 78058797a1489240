use Rattle.std.proofs.Common.{◌≡◌, ◌∙◌, ◌++◌, ◌<◌, ◌≤◌, ◌&&◌, true, ap, arith, flat_map, length, map, replicate, rules}
use Rattle.std.proofs.lemmas.Bool.{and_parts}
use Rattle.std.proofs.lemmas.List.{take_all}
use Rattle.std.specs.List.{sum_by}
use Rattle.crossbeam_channel.specs.Claims.{view}
use Rattle.sip_workers.proofs.Whole.{each-once}
use Rattle.sip_workers.specs.Deals.{end_of, jobs_of, no_more}
use Rattle.sip_workers.specs.Gathers.{job_in}
use Rattle.sip_workers.proofs.run.deal_out.Goals as goal

pub returns-clause-once : goal.returns-clause-once
returns-clause-once g c = λ all.
    (let batches = g.J.Dealt.batches in
    let jobs = c.args.plan.now.jobs.now in
    let known = view c.join_all.new.own in
    let threads = c.in_ok-threads.threads.items in
    let count = c.len-2.result in
    let one = and_parts (c.put_all-dealt.result && c.put_ends-ended.result) c.in_ok-home.took all in
    let two = and_parts c.put_all-dealt.result c.put_ends-ended.result one.0 in
    let started : c.in_ok-threads.started ≡ true = search rules in
    let many = (c.in_ok-threads.ensures.all started).0 in
    let same : count ≡ length threads = search rules in
    let some : 0 < count = omega (arith, same, many, c.requires.some) in
    let put : known.put ≡ batches ++ replicate count no_more =
    c.join_all.ensures.stays.1 ∙ c.put_ends-ended.ensures.all two.1
    ∙ ap (λ l. l ++ replicate count no_more) (c.put_all-dealt.ensures.all two.0) in
    let whole : flat_map (jobs_of jobs) batches ≡ jobs = c.requires.cut.whole ∙ take_all (length jobs) jobs (omega arith) in
    let taken = c.in_ok-home.ensures.ended one.1 in
    let took : count ≤ sum_by end_of known.taken = omega (arith, same, taken) in
    each-once jobs batches known.put known.taken c.tell_whole.ensures.whole.0 count (map job_in c.in_ok-home.home.reports.items)
    put some c.requires.cut.some whole took c.tell_whole.ensures.whole.1 c.in_ok-home.ensures.made.made_of)

pub returns-clause-seats : goal.returns-clause-seats
returns-clause-seats g c =
    let started : c.in_ok-threads.started ≡ true = search rules in
    rw (c.in_ok-threads.ensures.firsts started) at c.in_ok-home.ensures.seats
