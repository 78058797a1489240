use Rattle.std.proofs.Common.{arith, ap, length}
use Rattle.std.proofs.lemmas.Bool.Decides.{nat_tests}
use Rattle.dns_name.proofs.Wire.{root_has_one}
use Rattle.dns_name.proofs.name.Name.is_root.Goals as goal

pub returns : goal.returns
returns c =
    let one = root_has_one c.args.self.now in
    let size = ap length c.wire.ensures.value in
    grind (arith, nat_tests, one, size)
