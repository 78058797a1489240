use Rattle.sip_report.proofs.Verdicts.{below-from, below-to, well-at, well-to}
use Rattle.sip_report.proofs.verdict.law_verdicts.Goals as goal

pub returns-clause-well : goal.returns-clause-well
returns-clause-well c limits took targets = (well-at limits took targets, well-to limits took targets)

pub returns-clause-critical : goal.returns-clause-critical
returns-clause-critical c limits took targets = (below-from limits took targets, below-to limits took targets)
