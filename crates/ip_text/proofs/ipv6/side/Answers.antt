use Rattle.std.proofs.Common.{◌<◌, length, arith}
use Rattle.std.proofs.lemmas.Bool.Decides.{nat_tests}
use Rattle.ip_text.proofs.V6Fronts.{no_colons_in_side}
use Rattle.ip_text.proofs.ipv6.side.Goals as goal

pub returns-in-Some : goal.returns-in-Some
returns-in-Some c = λ others e.
    let some : 0 < length c.args.text.now = grind (arith, nat_tests, c.if-is_empty.ensures) in
    absurd (no_colons_in_side c.args.text.now c.groups_in_front.new.octets.items _
    (rw c.in-Some.is at c.in_ok-groups_in_front.ensures) others e some)
