use Rattle.std.proofs.Common.{[], ◌∷◌, append_assoc}
use Rattle.std.proofs.lemmas.List.Elements.{All-push}
use Rattle.sip_workers.specs.Deals.{IsTold}
use Rattle.sip_workers.proofs.report.reports_of.Goals as goal

pub results-preserved : goal.results-preserved
results-preserved g c =
    let l = c.results in
    let rest = c.next.new.self.rest.items in
    record {
      are = rw (c.in_ok-push.ensures.items, c.of.ensures.is, append_assoc l.all.items (c.in-Some.it ∷ []) rest)
          (rw c.in-Some.ensures.steps.0 at l.invariant.are);
      told = rw c.in_ok-push.ensures.items
          (All-push (IsTold g.W.Wire.gives g.C.Clock.shows) l.all.items c.of.result l.invariant.told c.of.ensures.told);
    }
