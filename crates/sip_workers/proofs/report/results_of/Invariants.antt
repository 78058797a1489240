use Rattle.std.proofs.Common.{◌≡◌, ◌++◌}
use Rattle.std.specs.List.{All}
use Rattle.sip_workers.specs.Deals.{IsTold}
use Rattle.sip_workers.proofs.report.results_of.Given as goal

abbrev pub invariant-reports : goal.invariant-reports
invariant-reports g l = record {
  are : l.all.items ++ l.it-iterator.rest.items ≡ l.fn.reports.items;
  told : All (IsTold g.W.Wire.gives g.C.Clock.shows) l.it-iterator.rest.items;
}
