use Rattle.dns_name.proofs.PlainRuns.{pointed_name}
use Rattle.dns_name.proofs.message.read_plain.Goals as goal

pub returns-in-Some-Pointer : goal.returns-in-Some-Pointer
returns-in-Some-Pointer c =
    let piece = rw c.in-Some-Pointer.field-0-is at c.in-Some-Pointer.ensures in
    pointed_name c.args.bytes.now c.read_plain_run.new.octets c.args.at c.in-Some-Pointer.target c.in_ok-length.length piece
    c.in_ok-length.ensures.name c.in_ok-length.ensures.within
