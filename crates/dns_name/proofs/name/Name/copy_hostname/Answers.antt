use Rattle.std.proofs.Common.{◌≡◌, true, false, ℕ, [], ◌∷◌, List, map, None, sym, ◌∙◌, inl, inr}
use Rattle.std.specs.Str.{bytes_eq}
use Rattle.std.proofs.lemmas.Slice.Eq.{bytes_eq-Decides}
use Rattle.std.proofs.lemmas.Result.{on_ok_weaker}
use Rattle.dns_name.specs.Labels.{small_letters, wire_of}
use Rattle.dns_name.specs.Texts.{TextOf, parted, dotted_fault, without_closing_dot}
use Rattle.dns_name.proofs.Wire.{same_labels}
use Rattle.dns_name.proofs.TextNames.{Named, named}
use Rattle.dns_name.proofs.name.Name.copy_hostname.Goals as goal
use Rattle.dns_name.proofs.name.Name.copy_hostname.Goals.{Then-eq, Else-eq}

-- ---- a dot alone

is_dot : (c : Then-eq) → bytes_eq c.args.octets.now (46 ∷ []) ≡ true
is_dot c = rw c.as_slice.ensures at (sym c.if-eq.ensures)

pub returns-then-eq-clause-ok : goal.returns-then-eq-clause-ok
returns-then-eq-clause-ok c = λ name text_of.
    let here = (goal.at.returns-then-eq-clause-ok c).Then-eq in
    elim (named name c.args.octets.now text_of) [
      | inl none ↦ c.root.ensures ∙ sym none.0
      | inr n ↦ (let dot : true ≡ false = sym (is_dot here) ∙ n.no_dot in absurd cc)
    ]

-- ---- labels and dots

no_dot : (c : Else-eq) → bytes_eq c.args.octets.now (46 ∷ []) ≡ false
no_dot c = rw c.as_slice.ensures at (sym c.if-eq.ensures)

-- what is known of a name of the octets
labels_of : (c : Else-eq) → (name : List (List ℕ)) → TextOf name c.args.octets.now → Named name c.args.octets.now
labels_of c name text_of =
    elim (named name c.args.octets.now text_of) [
      | inl dot ↦ (let no : true ≡ false = sym ((bytes_eq-Decides c.args.octets.now (46 ∷ [])).1 dot.1) ∙ no_dot c in absurd cc)
      | inr n ↦ n
    ]

faultless : (c : Else-eq) → dotted_fault (parted (without_closing_dot c.args.octets.now)) ≡ None
faultless c = (labels_of c c.requires.0 c.requires.1).faultless

pub make_name-requires : goal.make_name-requires
make_name-requires c = rw c.without_closing_dot.ensures (faultless (goal.at.make_name-requires c).Else-eq)

-- what is made has the labels of the octets
pub returns-clause-ok : goal.returns-clause-ok
returns-clause-ok c = λ name text_of.
    let is = (labels_of (goal.at.returns-clause-ok c).Else-eq name text_of).is in
    let labels : List (List ℕ) = map small_letters (parted (without_closing_dot c.args.octets.now)) in
    let made : wire_of c.make_name.new.name ≡ wire_of labels → c.make_name.new.name ≡ name =
    λ spelled. same_labels c.make_name.new.name labels spelled ∙ sym is in
    on_ok_weaker c.make_name.result (λ spelled. made (rw c.without_closing_dot.ensures at spelled)) c.make_name.ensures.ok
