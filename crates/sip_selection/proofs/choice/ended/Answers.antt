use Rattle.std.proofs.Common.{ap, Ok}
use Rattle.sip_selection.specs.Known.{made}
use Rattle.sip_selection.specs.Stages.{in_front}
use Rattle.sip_selection.proofs.choice.ended.Goals as goal

pub to_domain-requires-clause-needs : goal.to_domain-requires-clause-needs
to_domain-requires-clause-needs g c = λ all question extends is.
    let here = rw c.default_port.ensures at is in
    c.requires.needs all question extends
    (rw (c.if-position.false, c.if-position-2.false, c.in-Ok.is) (ap (made (in_front c.args.walk.now.targets.items)) (ap (made Ok) here)))
