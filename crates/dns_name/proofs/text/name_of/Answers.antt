use Rattle.std.proofs.Common.{List, ℕ, map, refl, ◌∙◌}
use Rattle.dns_name.specs.Labels.{small_letters}
use Rattle.dns_name.specs.Texts.{parted}
use Rattle.dns_name.proofs.Padding.{IsPadded-zeros}
use Rattle.dns_name.proofs.TextNames.{IsName-small}
use Rattle.dns_name.proofs.text.name_of.Goals as goal

pub put_labels-requires-clause-zeros : goal.put_labels-requires-clause-zeros
put_labels-requires-clause-zeros c = IsPadded-zeros _ refl refl

pub from_wire-requires : goal.from_wire-requires
from_wire-requires c =
    let parts : List (List ℕ) = parted c.args.text.now in
    (map small_letters parts, IsName-small parts c.requires, c.inline.ensures ∙ c.put_labels.ensures.spelled)

pub returns : goal.returns
returns c = c.from_wire.ensures ∙ c.inline.ensures ∙ c.put_labels.ensures.spelled
