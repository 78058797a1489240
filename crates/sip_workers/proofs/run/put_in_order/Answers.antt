use Rattle.std.proofs.Common.{◌≡◌, ap, rules}
use Rattle.sip_workers.proofs.Learning.{made-here}
use Rattle.sip_workers.proofs.Once.{gathered-made, gathered-told, only-memory}
use Rattle.sip_workers.proofs.Storing.{all-have-stores}
use Rattle.sip_workers.specs.Deals.{EachOnce}
use Rattle.sip_workers.specs.Runs.{of_gather}
use Rattle.sip_workers.specs.declared.gather_refusal.GatherRefusal.TheVariants as gather
use Rattle.sip_workers.specs.declared.refusal.RunRefusal.TheVariants as run
use Rattle.sip_workers.proofs.run.put_in_order.Goals as goal

pub returns-in_err-made-clause-memory : goal.returns-in_err-made-clause-memory
returns-in_err-made-clause-memory g c = λ whole.
    (let refusal = c.in_err-made.field-0.0 in
    let jobs = c.args.plan.now.jobs.now in
    let results = c.in_ok-results.results.items in
    let once : EachOnce jobs results = rw c.in_ok-results.ensures (c.requires.once whole) in
    let only : refusal ≡ gather.Memory =
    only-memory jobs results c.requires.rises once refusal c.in_err-made.ensures.made in
    let known : of_gather refusal ≡ run.Memory = ap of_gather only in
    search (known, rules))

pub returns-clause-outcomes : goal.returns-clause-outcomes
returns-clause-outcomes g c =
    gathered-made g.W.Wire.gives g.C.Clock.shows c.args.plan.now.cache.now (g.G.Gate.told c.args.plan.now.gate.now)
    c.in_ok-results.results.items
    (rw c.in_ok-results.ensures c.requires.told) c.args.plan.now.jobs.now c.in_ok-made.made.items c.in_ok-made.ensures.made

pub see_one_history-requires-clause-told_here : goal.see_one_history-requires-clause-told_here
see_one_history-requires-clause-told_here g c =
    let gives = g.W.Wire.gives in
    let shows = g.C.Clock.shows in
    let cache = c.args.plan.now.cache.now in
    let jobs = c.args.plan.now.jobs.now in
    let made = c.in_ok-made.made.items in
    rw c.as_slice.ensures.value
    (made-here gives shows cache jobs made
    (gathered-made gives shows cache (g.G.Gate.told c.args.plan.now.gate.now) c.in_ok-results.results.items
    (rw c.in_ok-results.ensures c.requires.told) jobs made
    c.in_ok-made.ensures.made))

pub returns-clause-one_history : goal.returns-clause-one_history
returns-clause-one_history g c = λ firsts come.
    (let it = c.see_one_history.ensures in
    record {
      history = it.history;
      is = it.is;
      begin = rw c.as_slice.ensures.value at it.begin;
      stores = all-have-stores g.W.Wire.gives g.C.Clock.shows c.args.plan.now.cache.now it.history firsts
          c.args.home.seats.items come it.whole;
    })

pub returns-clause-gate : goal.returns-clause-gate
returns-clause-gate g c =
    gathered-told g.W.Wire.gives g.C.Clock.shows c.args.plan.now.cache.now (g.G.Gate.told c.args.plan.now.gate.now)
    c.in_ok-results.results.items (rw c.in_ok-results.ensures c.requires.told) c.args.plan.now.jobs.now c.in_ok-made.made.items
    c.in_ok-made.ensures.made
