use Rattle.std.proofs.Common.{ap, ◌++◌, Ok}
use Rattle.sip_selection.specs.Known.{made}
use Rattle.sip_selection.specs.Stages.{in_front}
use Rattle.sip_selection.proofs.choice.resume.Goals as goal

pub by_naptr-requires-clause-needs : goal.by_naptr-requires-clause-needs
by_naptr-requires-clause-needs g c = λ all question extends is.
    c.requires.needs all question extends (rw c.in-Rules.is (ap (made (in_front c.args.walk.now.targets.items)) is))

pub along-requires-clause-needs : goal.along-requires-clause-needs
along-requires-clause-needs g c = rw (c.in-Along.is, ← c.as_ref.ensures) at c.requires.needs

pub to_domain-requires-clause-needs : goal.to_domain-requires-clause-needs
to_domain-requires-clause-needs g c = λ all question extends is.
    c.requires.needs all question extends (rw c.in-Domain.is (ap (made (λ more. Ok (c.args.walk.now.targets.items ++ more))) is))
