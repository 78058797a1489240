use Rattle.std.proofs.Common.{ap}
use Rattle.crossbeam_channel.specs.Claims.{view}
use Rattle.sip_workers.proofs.Joining.{made-more}
use Rattle.sip_workers.proofs.threads.join_one.Goals as goal

pub returns-clause-made : goal.returns-clause-made
returns-clause-made g c =
    let plan = c.args.plan.now in
    let its = c.args.thread.promise in
    let part = c.join-right.result in
    rw c.in_ok-append.ensures.items
    (made-more g.W.Wire.gives g.C.Clock.shows plan.jobs.now its.jobs.now plan.cache.now its.cache.now
    (g.G.Gate.told plan.gate.now) (g.G.Gate.told its.gate.now) (view c.args.own.now)
    (view part.right) (view c.take_in.new.right) c.args.home.now.reports.items c.in_ok-made.made.items c.take_in.ensures.both
    c.requires.promised.jobs_are c.requires.promised.cache_is (ap g.G.Gate.told c.requires.promised.gate_is) c.requires.made
    (rw c.in_ok-made.was at c.join-right.ensures.2))
