use Rattle.std.proofs.Common.{◌≡◌, sym, ap, ◌∙◌}
use Rattle.std.proofs.lemmas.Bool.Decides.{same_from_decides}
use Rattle.dns_name.specs.Labels.{labels_of, wire_of, same_name}
use Rattle.dns_name.proofs.Wire.{same_name-decides}
use Rattle.dns_name.proofs.name.NamePartialEq.eq.Goals as goal
use Rattle.dns_name.proofs.name.NamePartialEq.eq.Goals.{After-is_same}

-- the octets of a name are those that spell it
same_octets : (c : After-is_same) → c.args.self.now ≡ c.args.other.now → c.self.inside.octets ≡ c.other.inside.octets
same_octets c same =
    sym c.self.invariant.whole ∙ ap wire_of (c.self.view_is ∙ same ∙ sym c.other.view_is) ∙ c.other.invariant.whole

same_labels : (c : After-is_same) → c.self.inside.octets ≡ c.other.inside.octets → c.args.self.now ≡ c.args.other.now
same_labels c same = sym c.self.view_is ∙ ap labels_of same ∙ c.other.view_is

pub returns-clause-value : goal.returns-clause-value
returns-clause-value c =
    same_from_decides c.is_same.result (same_name c.args.self.now c.args.other.now)
    (λ yes'. same_labels c (c.is_same.ensures.0 yes'), λ same. c.is_same.ensures.1 (same_octets c same))
    (same_name-decides c.args.self.now c.args.other.now)

pub returns-clause-same : goal.returns-clause-same
returns-clause-same c =
    (λ yes'. same_labels c (c.is_same.ensures.0 yes'), λ same. c.is_same.ensures.1 (same_octets c same))
