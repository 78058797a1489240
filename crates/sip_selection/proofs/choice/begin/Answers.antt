use Rattle.sip_selection.specs.Consulting.{nothing}
use Rattle.sip_selection.proofs.choice.begin.Goals as goal

pub returns-in-V4-clause-consulted : goal.returns-in-V4-clause-consulted
returns-in-V4-clause-consulted g c = nothing c.requires.ready

pub returns-in-V6-clause-consulted : goal.returns-in-V6-clause-consulted
returns-in-V6-clause-consulted g c = nothing c.requires.ready
