use Rattle.std.proofs.Common.{List, ℕ, map}
use Rattle.dns_name.specs.Labels.{small_letters}
use Rattle.dns_name.specs.Texts.{parted}
use Rattle.dns_name.proofs.TextNames.{IsName-small}
use Rattle.dns_name.proofs.text.long_name_of.Goals as goal

pub finish-requires : goal.finish-requires
finish-requires c =
    let parts : List (List ℕ) = parted c.args.text.now in
    (map small_letters parts, IsName-small parts c.requires, c.builder_of.ensures)

pub returns : goal.returns
returns c = rw c.builder_of.ensures at c.finish.ensures
