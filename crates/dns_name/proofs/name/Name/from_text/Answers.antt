use Rattle.std.proofs.Common.{◌≡◌, true, false, List, [], ◌∷◌, ℕ, map, Some, None, sym, ap, ◌∙◌, inl, inr}
use Rattle.std.specs.Str.{bytes_eq}
use Rattle.std.proofs.lemmas.Slice.Eq.{bytes_eq-Decides}
use Rattle.dns_name.specs.Labels.{small_letters}
use Rattle.dns_name.specs.Texts.{root, parted, dotted_fault, without_closing_dot}
use Rattle.dns_name.proofs.Wire.{same_labels}
use Rattle.dns_name.proofs.TextNames.{TextOf-parted, named}
use Rattle.dns_name.proofs.name.Name.from_text.Goals as goal
use Rattle.dns_name.proofs.name.Name.from_text.Goals.{In_ok-name_of, In_ok-check_labels, Then-eq, Else-eq}

-- ---- a dot alone

is_dot : (c : Then-eq) → bytes_eq c.args.text.now (46 ∷ []) ≡ true
is_dot c = rw (c.as_bytes-text.ensures.value, c.as_slice.ensures) at (sym c.if-eq.ensures)

pub returns-then-eq-clause-found : goal.returns-then-eq-clause-found
returns-then-eq-clause-found c =
    let here = (goal.at.returns-then-eq-clause-found c).Then-eq in
    rw c.root.ensures (root ((bytes_eq-Decides c.args.text.now (46 ∷ [])).0 (is_dot here)))

pub returns-then-eq-clause-read : goal.returns-then-eq-clause-read
returns-then-eq-clause-read c = λ name text_of.
    let here = (goal.at.returns-then-eq-clause-read c).Then-eq in
    elim (named name c.args.text.now text_of) [
      | inl none ↦ c.root.ensures ∙ sym none.0
      | inr n ↦ (let dot : true ≡ false = sym (is_dot here) ∙ n.no_dot in absurd cc)
    ]

-- ---- labels and dots

no_dot : (c : Else-eq) → bytes_eq c.args.text.now (46 ∷ []) ≡ false
no_dot c = rw (c.as_bytes-text.ensures.value, c.as_slice.ensures) at (sym c.if-eq.ensures)

pub returns-in_err-check_labels-clause-read : goal.returns-in_err-check_labels-clause-read
returns-in_err-check_labels-clause-read c = λ name text_of.
    let text : List ℕ = c.args.text.now in
    let dotted' : c.without_closing_dot-dotted.result.now ≡ without_closing_dot text =
    c.without_closing_dot-dotted.ensures ∙ ap without_closing_dot c.as_bytes-text.ensures.value in
    let fault = rw dotted' at c.in_err-check_labels.ensures in
    let lone = no_dot (goal.at.returns-in_err-check_labels-clause-read c).Else-eq in
    elim (named name text text_of) [
      | inl dot ↦ (let no : true ≡ false = sym ((bytes_eq-Decides text (46 ∷ [])).1 dot.1) ∙ lone in absurd cc)
      | inr n ↦ (let no : Some c.in_err-check_labels.field-0.0 ≡ None = fault ∙ n.faultless in absurd cc)
    ]

faultless : (c : In_ok-check_labels) → (c.without_closing_dot-dotted.result.now ≡ without_closing_dot c.args.text.now)
    × (dotted_fault (parted (without_closing_dot c.args.text.now)) ≡ None)
faultless c =
    let dotted' : c.without_closing_dot-dotted.result.now ≡ without_closing_dot c.args.text.now =
    c.without_closing_dot-dotted.ensures ∙ ap without_closing_dot c.as_bytes-text.ensures.value in
    (dotted', sym (rw dotted' at c.in_ok-check_labels.ensures))

pub name_of-requires : goal.name_of-requires
name_of-requires c =
    let k = faultless (goal.at.name_of-requires c).In_ok-check_labels in
    rw k.0 k.1

found : (c : In_ok-name_of) → c.in_ok-name_of.field-0 ≡ map small_letters (parted (without_closing_dot c.args.text.now))
found c =
    let k = faultless (goal.at.returns-clause-found c).In_ok-check_labels in
    same_labels c.in_ok-name_of.field-0 (map small_letters (parted (without_closing_dot c.args.text.now)))
    (rw k.0 at c.in_ok-name_of.ensures)

pub returns-clause-found : goal.returns-clause-found
returns-clause-found c =
    rw (found c) (TextOf-parted c.args.text.now (faultless (goal.at.returns-clause-found c).In_ok-check_labels).1)

pub returns-clause-read : goal.returns-clause-read
returns-clause-read c = λ name text_of.
    let lone = no_dot (goal.at.returns-clause-read c).Else-eq in
    elim (named name c.args.text.now text_of) [
      | inl dot ↦ (let no : true ≡ false = sym ((bytes_eq-Decides c.args.text.now (46 ∷ [])).1 dot.1) ∙ lone in absurd cc)
      | inr n ↦ found c ∙ sym n.is
    ]
