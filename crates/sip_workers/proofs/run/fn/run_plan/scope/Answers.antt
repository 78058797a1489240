use Rattle.std.proofs.Common.{arith}
use Rattle.std.proofs.lemmas.List.Elements.{length_all_zip}
use Rattle.sip_workers.proofs.Storing.{come-here}
use Rattle.sip_workers.specs.Deals.{ComesHome}
use Rattle.sip_workers.proofs.run.fn.run_plan.scope.Goals as goal

pub put_in_order-requires : goal.put_in_order-requires
put_in_order-requires g c =
    let gives = g.W.Wire.gives in
    let shows = g.C.Clock.shows in
    let cache = c.captures.plan.now.cache.now in
    let seats = c.captures.seats.items in
    let homes = c.in_ok-home.home.seats.items in
    let come = c.in_ok-home.ensures.seats in
    let long = length_all_zip (ComesHome gives shows cache) seats homes come in
    record {
      rises = c.requires.3;
      told = c.in_ok-home.ensures.told;
      once = c.in_ok-home.ensures.once;
      some = omega (arith, long, c.requires.2);
      here = come-here gives shows cache seats homes come;
    }
