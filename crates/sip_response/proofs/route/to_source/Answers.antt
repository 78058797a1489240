use Rattle.std.proofs.Common.{sym}
use Rattle.sip_response.specs.Routes.{rport, received}
use Rattle.sip_response.proofs.route.to_source.Goals as goal

pub returns-in-Some : goal.returns-in-Some
returns-in-Some c =
    rw c.to_received.ensures
    (rport c.args.address c.in-Some.source c.requires.maddr c.requires.received (sym c.in-Some.ensures))

pub returns-in-None : goal.returns-in-None
returns-in-None c =
    rw c.to_received-in-None.ensures (received c.args.address c.requires.maddr c.requires.received (sym c.in-None.ensures))
