use Rattle.dns_name.proofs.Wire.{IsWire-from_name}
use Rattle.dns_name.proofs.name.Name.from_wire.Goals as goal

pub invariant_of-result : goal.invariant_of-result
invariant_of-result c = IsWire-from_name _ c.requires.0 c.requires.1 c.requires.2

pub returns : goal.returns
returns c =
    let wire = IsWire-from_name c.args.octets c.requires.0 c.requires.1 c.requires.2 in
    wire.whole
