use Rattle.sip_fault.specs.Faults.{CanBeUri, CanBeVia}
use Rattle.sip_fault.proofs.Reaches.{one_fault}
use Rattle.sip_fault.proofs.laws.law_one_fault_of_a_text.Goals as goal

pub returns-clause-uri : goal.returns-clause-uri
returns-clause-uri c = λ text at at' is is'. one_fault CanBeUri text at at' is is'

pub returns-clause-via : goal.returns-clause-via
returns-clause-via c = λ text at at' is is'. one_fault CanBeVia text at at' is is'
