use Rattle.std.proofs.Common.{arith}
use Rattle.sip_uri.proofs.ClassTable.{octet_stands}
use Rattle.sip_uri.proofs.classes.ClassOctetClass.has.Goals as goal

pub returns : goal.returns
returns c = rw (c.from.ensures, c.bit.ensures) (octet_stands c.args.self c.args.octet (omega arith))
