use Rattle.std.proofs.Common.{[], refl, ◌∙◌}
use Rattle.dns_name.proofs.Padding.{IsPadded-one}
use Rattle.dns_name.proofs.Wire.{same_labels}
use Rattle.dns_name.proofs.name.Name.root.Goals as goal

pub inline-requires : goal.inline-requires
inline-requires c = IsPadded-one _ refl refl

pub returns : goal.returns
returns c = same_labels c.from_wire.result [] (c.from_wire.ensures ∙ c.inline.ensures)
