use Rattle.std.proofs.Common.{[], ◌∷◌, append_assoc}
use Rattle.std.proofs.lemmas.List.Elements.{All-tail}
use Rattle.sip_workers.specs.Deals.{IsTold}
use Rattle.sip_workers.proofs.report.results_of.Goals as goal

pub reports-preserved : goal.reports-preserved
reports-preserved g c =
    let l = c.reports in
    let rest = c.next.new.self.rest.items in
    let here = rw c.in-Some.ensures.steps.0 at l.invariant.told in
    record {
      are = rw (c.in_ok-push.ensures.items, c.into_result.ensures, append_assoc l.all.items (c.in-Some.it ∷ []) rest)
          (rw c.in-Some.ensures.steps.0 at l.invariant.are);
      told = All-tail (IsTold g.W.Wire.gives g.C.Clock.shows) c.in-Some.it rest here;
    }
