use Rattle.std.proofs.Common.{◌+◌, ◌≤◌, length, refl, arith}
use Rattle.ip_text.proofs.Cutting.{goes_far}
use Rattle.ip_text.proofs.parts.next_part.Goals as goal

pub loop-at-preserved : goal.loop-at-preserved
loop-at-preserved c =
    let so_far = c.loop-at.invariant in
    let within : c.loop-at.at + 8 ≤ length c.args.text.now = omega (arith, c.loop-at-test.true, so_far.within) in
    record {
      within = within;
      passed = goes_far c.args.octet c.args.text.now c.loop-at.at 8 (c.loop-at.at + 8) so_far.passed refl within
          (c.lacks_eight.ensures c.if-lacks_eight.true);
    }
