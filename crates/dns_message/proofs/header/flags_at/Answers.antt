use Rattle.std.proofs.Common.{◌≡◌, ◌/◌, ◌%◌, slice_index, arith, sym}
use Rattle.dns_message.proofs.Flags.{high_octet, low_octet}
use Rattle.dns_message.proofs.header.flags_at.Goals as goal

pub returns : goal.returns
returns c =
    let bytes = c.args.bytes.now in
    let high = c.in_ok-high.ensures.lookup in
    let low = c.in_ok-low.ensures.lookup in
    let high-is : slice_index bytes 2 ≡ c.in_ok-high.field-0.now = sym (high.3.1 0) in
    let low-is : slice_index bytes 3 ≡ c.in_ok-low.field-0.now = sym (low.3.1 0) in
    record {
      within = omega arith;
      id = c.in_ok-id.ensures;
      high = record {
        opcode = omega arith;
        is =
            rw high-is (high_octet c.in_ok-high.field-0.now (omega (arith, high-is, c.type_inv.bytes 2)));
      };
      low = record {
        z = c.in_ok-low.field-0.now / 16 % 8;
        free = omega arith;
        rcode = omega arith;
        is = rw low-is (low_octet c.in_ok-low.field-0.now (omega (arith, low-is, c.type_inv.bytes 3)));
      };
    }
