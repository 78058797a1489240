use Rattle.std.proofs.Common.{arith, ◌+◌}
use Rattle.std.specs.Int.{w16, w32}
use Rattle.dns_message.proofs.Offsets.{NumberAt-part}
use Rattle.dns_message.proofs.resource.fixed_at.Goals as goal

pub returns : goal.returns
returns c =
    let bytes = c.args.bytes.now in
    let offset = c.args.offset in
    let octets = c.in_ok-octets.octets.now in
    let got = c.in_ok-octets.ensures.lookup.0 in
    record {
      type_number_at = NumberAt-part w16 bytes octets offset (offset + 10) 0 offset c.in_ok-u16_at.field-0 got.2 got.0 got.1 (omega arith)
          c.in_ok-u16_at.ensures;
      class_number_at = NumberAt-part w16 bytes octets offset (offset + 10) 2 (offset + 2) c.in_ok-u16_at-2.field-0 got.2 got.0 got.1
          (omega arith) c.in_ok-u16_at-2.ensures;
      ttl_at = NumberAt-part w32 bytes octets offset (offset + 10) 4 (offset + 4) c.in_ok-u32_at.field-0 got.2 got.0 got.1 (omega arith)
          c.in_ok-u32_at.ensures;
      size_at = NumberAt-part w16 bytes octets offset (offset + 10) 8 (offset + 8) c.in_ok-u16_at-3.field-0 got.2 got.0 got.1 (omega arith)
          c.in_ok-u16_at-3.ensures;
    }
