use Rattle.std.proofs.Common.{◌≡◌, ◌++◌}
use Rattle.std.specs.List.{All}
use Rattle.sip_workers.specs.Deals.{IsTold}
use Rattle.sip_workers.proofs.report.reports_of.Given as goal

abbrev pub invariant-results : goal.invariant-results
invariant-results g l = record {
  are : l.all.items ++ l.it-iterator.rest.items ≡ l.fn.results.items;
  told : All (IsTold g.W.Wire.gives g.C.Clock.shows) l.all.items;
}
