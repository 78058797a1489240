use Rattle.std.proofs.Common.{arith, rules}
use Rattle.std.proofs.lemmas.Grind.{common_steps}
use Rattle.ip_text.proofs.Groups.{with_zeros}
use Rattle.ip_text.proofs.ipv6.filled.Goals as goal

pub returns : goal.returns
returns c =
    let one = with_zeros c.args.front.items c.args.end.now c.try_extend_from_slice.new.self.items c.try_extend_from_slice-2.new.self.items
    (omega arith) (grind (arith, common_steps)) (search rules) in
    grind (arith, one.0, one.1)
