use Rattle.std.proofs.Common.{arith}
use Rattle.dns_name.proofs.OctetTable.{octet_stands}
use Rattle.dns_name.proofs.text.is_text_octet.Goals as goal

pub returns : goal.returns
returns c = rw c.from.ensures (octet_stands c.args.octet (omega arith))
