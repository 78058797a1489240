use Rattle.std.proofs.Common.{sym}
use Rattle.std.proofs.lemmas.List.Elements.{All-append}
use Rattle.sip_workers.proofs.Taking.{reports-new}
use Rattle.sip_workers.specs.Deals.{IsReport}
use Rattle.sip_workers.proofs.part.more.Goals as goal

pub returns-clause-here : goal.returns-clause-here
returns-clause-here g c =
    let gives = g.W.Wire.gives in
    let shows = g.C.Clock.shows in
    let cache = c.args.plan.now.cache.now in
    let told = g.G.Gate.told c.args.plan.now.gate.now in
    let results = c.in_ok-results.results.items in
    let says = rw c.in_ok-new.ensures.are at c.in_ok-new.ensures.told in
    let gate = rw (sym c.in_ok-results.ensures.jobs) at c.in_ok-results.ensures.told in
    rw c.in_ok-append.ensures.items
    (All-append (IsReport gives shows cache told) c.in_ok-all.all.items c.in_ok-new.new.items
    (rw c.in_ok-all.was at c.requires.here)
    (rw c.in_ok-new.ensures.are (reports-new gives shows cache _ told results says c.in_ok-results.ensures.notices gate)))
