use Rattle.std.proofs.Common.{refl}
use Rattle.resolution_paths.proofs.More.{adds-one}
use Rattle.resolution_paths.proofs.paths.push_path.Goals as goal

pub returns-clause-path : goal.returns-clause-path
returns-clause-path g c = λ start went.
    adds-one _ _ _ _ c.in_ok-push.ensures.items
    (record { by = refl; addresses = c.in_ok-addresses.ensures.addresses start went })
