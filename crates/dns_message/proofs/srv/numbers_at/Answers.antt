use Rattle.std.proofs.Common.{arith, ◌+◌}
use Rattle.std.specs.Int.{w16}
use Rattle.dns_message.proofs.Offsets.{NumberAt-part}
use Rattle.dns_message.proofs.srv.numbers_at.Goals as goal

pub returns : goal.returns
returns c =
    let bytes = c.args.bytes.now in
    let offset = c.args.offset in
    let octets = c.in_ok-octets.octets.now in
    let got = c.in_ok-octets.ensures.lookup.0 in (
      NumberAt-part w16 bytes octets offset (offset + 6) 0 offset c.in_ok-u16_at.field-0 got.2 got.0 got.1 (omega arith) c.in_ok-u16_at.ensures,
      NumberAt-part w16 bytes octets offset (offset + 6) 2 (offset + 2) c.in_ok-u16_at-2.field-0 got.2 got.0 got.1 (omega arith)
          c.in_ok-u16_at-2.ensures,
      NumberAt-part w16 bytes octets offset (offset + 6) 4 (offset + 4) c.in_ok-u16_at-3.field-0 got.2 got.0 got.1 (omega arith)
          c.in_ok-u16_at-3.ensures,
    )
