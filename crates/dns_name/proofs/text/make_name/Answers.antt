use Rattle.std.proofs.Common.{List, ℕ, map, ◌∙◌}
use Rattle.dns_name.specs.Labels.{small_letters, IsWire}
use Rattle.dns_name.specs.Texts.{parted}
use Rattle.dns_name.proofs.TextNames.{IsName-small}
use Rattle.dns_name.proofs.Wire.{IsWire-from_name}
use Rattle.dns_name.proofs.text.make_name.Goals as goal
use Rattle.dns_name.proofs.text.make_name.Goals.{After-put_name}

-- what is put is the name of the labels
wire : (c : After-put_name) → IsWire c.put_name.new.octets
wire c =
    let parts : List (List ℕ) = parted c.args.text.now in
    IsWire-from_name c.put_name.new.octets (map small_letters parts) (IsName-small parts c.requires) c.put_name.ensures

pub invariant_of-name-2 : goal.invariant_of-name-2
invariant_of-name-2 c = wire (goal.at.invariant_of-name-2 c).After-put_name

pub returns-clause-ok : goal.returns-clause-ok
returns-clause-ok c =
    let is = wire (goal.at.returns-clause-ok c).After-put_name in
    is.whole ∙ c.put_name.ensures
