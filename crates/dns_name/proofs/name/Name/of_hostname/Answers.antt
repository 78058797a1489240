use Rattle.std.proofs.Common.{◌≡◌, true, false, ℕ, [], ◌∷◌, List, map, None, sym, ◌∙◌, inl, inr}
use Rattle.std.specs.Str.{bytes_eq}
use Rattle.std.proofs.lemmas.Slice.Eq.{bytes_eq-Decides}
use Rattle.dns_name.specs.Labels.{small_letters, wire_of}
use Rattle.dns_name.specs.Texts.{TextOf, root, parted, dotted_fault, without_closing_dot}
use Rattle.std.proofs.lemmas.Result.{IfOk-weaker}
use Rattle.dns_name.proofs.Wire.{same_labels}
use Rattle.dns_name.proofs.TextNames.{TextOf-parted, Named, named}
use Rattle.dns_name.proofs.name.Name.of_hostname.Goals as goal
use Rattle.dns_name.proofs.name.Name.of_hostname.Goals.{Then-eq, Else-eq, After-name_of}

-- ---- a dot alone

is_dot : (c : Then-eq) → bytes_eq c.args.octets.now (46 ∷ []) ≡ true
is_dot c = rw c.as_slice.ensures at (sym c.if-eq.ensures)

pub returns-then-eq-clause-found : goal.returns-then-eq-clause-found
returns-then-eq-clause-found c =
    let here = (goal.at.returns-then-eq-clause-found c).Then-eq in
    rw c.root.ensures (root ((bytes_eq-Decides c.args.octets.now (46 ∷ [])).0 (is_dot here)))

pub returns-then-eq-clause-read : goal.returns-then-eq-clause-read
returns-then-eq-clause-read c = λ name text_of.
    let here = (goal.at.returns-then-eq-clause-read c).Then-eq in
    elim (named name c.args.octets.now text_of) [
      | inl none ↦ c.root.ensures ∙ sym none.0
      | inr n ↦ (let dot : true ≡ false = sym (is_dot here) ∙ n.no_dot in absurd cc)
    ]

-- ---- labels and dots

no_dot : (c : Else-eq) → bytes_eq c.args.octets.now (46 ∷ []) ≡ false
no_dot c = rw c.as_slice.ensures at (sym c.if-eq.ensures)

-- what is known of a name of the octets
labels_of : (c : Else-eq) → (name : List (List ℕ)) → TextOf name c.args.octets.now → Named name c.args.octets.now
labels_of c name text_of =
    elim (named name c.args.octets.now text_of) [
      | inl dot ↦ (let no : true ≡ false = sym ((bytes_eq-Decides c.args.octets.now (46 ∷ [])).1 dot.1) ∙ no_dot c in absurd cc)
      | inr n ↦ n
    ]

faultless : (c : Else-eq) → dotted_fault (parted (without_closing_dot c.args.octets.now)) ≡ None
faultless c = (labels_of c c.requires.0 c.requires.1).faultless

pub name_of-requires : goal.name_of-requires
name_of-requires c = rw c.without_closing_dot.ensures (faultless (goal.at.name_of-requires c).Else-eq)

-- what is named has the labels of the octets
found : (c : After-name_of) (name : List (List ℕ)) → wire_of name ≡ wire_of (map small_letters (parted c.without_closing_dot.result.now))
    → name ≡ map small_letters (parted (without_closing_dot c.args.octets.now))
found c name spelled =
    same_labels name (map small_letters (parted (without_closing_dot c.args.octets.now))) (rw c.without_closing_dot.ensures at spelled)

pub returns-clause-found : goal.returns-clause-found
returns-clause-found c =
    let text_of = TextOf-parted c.args.octets.now (faultless (goal.at.returns-clause-found c).Else-eq) in
    IfOk-weaker c.name_of.result _ _ (λ name spelled. rw (found c name spelled) text_of) c.name_of.ensures

pub returns-clause-read : goal.returns-clause-read
returns-clause-read c = λ name text_of.
    let is = (labels_of (goal.at.returns-clause-read c).Else-eq name text_of).is in
    IfOk-weaker c.name_of.result _ _ (λ name' spelled. found c name' spelled ∙ sym is) c.name_of.ensures
