-- A reader of labels that has come to a place.
use Rattle.std.proofs.Common.{◌≡◌, ℕ, ◌<◌, Bool, true, false, ◌&&◌, length, inl, inr, eqb, arith, List, [], ◌∷◌, Option, Some, None, slice_index, refl, sym, ap, ◌∙◌}
use Rattle.std.specs.Char.{is_ascii_alphabetic}
use Rattle.std.specs.List.{list_all}
use Rattle.std.proofs.lemmas.Bool.{cases_Bool, cases_eq}
use Rattle.std.proofs.lemmas.Bool.Decides.{nat_tests}
use Rattle.sip_uri.specs.Hosts.{is_label_octet}
use Rattle.sip_uri.specs.ViaClasses.{row, behind_row}
use Rattle.sip_uri.proofs.RunSteps.{no_octet}
use Rattle.ip_text.specs.Parts.{before, behind, behind_front, parted}
use Rattle.sip_uri.specs.Readers.Hostnames.{is_label, are_labels}
use Rattle.ip_text.proofs.Cutting.{others, parts_are}

module _ (text rest : List ℕ) (so_far : are_labels (parted 46 rest) ≡ are_labels (parted 46 text)) where
  pub last_label : behind 46 rest ≡ None
      → are_labels (parted 46 text) ≡ is_label (before 46 rest) && is_ascii_alphabetic (slice_index (before 46 rest) 0)
  last_label e =
      let parts : parted 46 rest ≡ before 46 rest ∷ [] = parts_are 46 rest ∙ rw e refl in
      sym so_far ∙ rw parts refl

  module _ (more : List ℕ) (e : behind 46 rest ≡ Some more) where
    first_label : are_labels (parted 46 text) ≡ is_label (before 46 rest) && are_labels (parted 46 more)
    first_label =
        let parts : parted 46 rest ≡ before 46 rest ∷ before 46 more ∷ others 46 (behind 46 more) =
        parts_are 46 rest ∙ rw e (ap (λ (l : List (List ℕ)). before 46 rest ∷ l) (parts_are 46 more)) in
        sym so_far ∙ rw (parts, parts_are 46 more) refl

    pub goes_on : is_label (before 46 rest) ≡ true → are_labels (parted 46 more) ≡ are_labels (parted 46 text)
    goes_on good = sym (first_label ∙ rw good refl)

  bad_part : (o : Option (List ℕ)) → behind 46 rest ≡ o → is_label (before 46 rest) ≡ false → are_labels (parted 46 text) ≡ false
  bad_part None e bad = last_label e ∙ rw bad refl
  bad_part (Some more) e bad = first_label more e ∙ rw bad refl

  pub bad_label : is_label (before 46 rest) ≡ false → are_labels (parted 46 text) ≡ false
  bad_label bad = bad_part (behind 46 rest) refl bad

-- ---- a row of octets of labels, and what follows it

module _ (class : ℕ → Bool) (no_dot : class 46 ≡ false) where
  pub whole_row : (text : List ℕ) → length (behind_row class text) ≡ 0 → (before 46 text ≡ row class text) × (behind 46 text ≡ None)
  whole_row [] none = (refl, refl)
  whole_row (x ∷ text) none =
      elim (cases_Bool (class x)) [
        | inl is ↦ (
            let other : eqb x 46 ≡ false = no_octet class x 46 is no_dot in
            let k = whole_row text (rw is at none) in
            rw (other, is) (ap (λ (t : List ℕ). x ∷ t) k.0, k.1))
        | inr not ↦ (let some : length (x ∷ text) ≡ 0 = rw not at none in absurd (omega arith))
      ]

  at_dot : (x : ℕ) (text more : List ℕ) → class x ≡ false → behind_front 46 (x ∷ text) ≡ Some more
      → (before 46 (x ∷ text) ≡ row class (x ∷ text)) × (behind 46 (x ∷ text) ≡ Some more)
  at_dot x text more not e =
      elim (cases_Bool (eqb x 46)) [
        | inl dot ↦ (let k = rw dot at e in rw (dot, not) (refl, k))
        | inr other ↦ (let k = rw other at e in absurd cc)
      ]

  pub row_dot : (text more : List ℕ) → behind_front 46 (behind_row class text) ≡ Some more
      → (before 46 text ≡ row class text) × (behind 46 text ≡ Some more)
  row_dot [] more e = absurd cc
  row_dot (x ∷ text) more e =
      elim (cases_Bool (class x)) [
        | inl is ↦ (
            let other : eqb x 46 ≡ false = no_octet class x 46 is no_dot in
            let k = row_dot text more (rw is at e) in
            rw (other, is) (ap (λ (t : List ℕ). x ∷ t) k.0, k.1))
        | inr not ↦ at_dot x text more not (rw not at e)
      ]

  no_dot_here : (x : ℕ) (text : List ℕ) → class x ≡ false → behind_front 46 (x ∷ text) ≡ None
      → list_all class (before 46 (x ∷ text)) ≡ false
  no_dot_here x text not none =
      elim (cases_Bool (eqb x 46)) [
        | inl dot ↦ (let k = rw dot at none in absurd cc)
        | inr other ↦ rw (other, not) refl
      ]

  pub no_row : (text : List ℕ) → 0 < length (behind_row class text) → behind_front 46 (behind_row class text) ≡ None
      → list_all class (before 46 text) ≡ false
  no_row [] some none = absurd (omega arith)
  no_row (x ∷ text) some none =
      elim (cases_Bool (class x)) [
        | inl is ↦ (
            let other : eqb x 46 ≡ false = no_octet class x 46 is no_dot in
            rw (other, is) (no_row text (rw is at some) (rw is at none)))
        | inr not ↦ no_dot_here x text not (rw not at none)
      ]

-- ---- labels in front

pub other_row : (text : List ℕ) → 0 < length (behind_row is_label_octet text) → behind_front 46 (behind_row is_label_octet text) ≡ None
    → is_label (before 46 text) ≡ false
other_row text some none =
    let all : list_all is_label_octet (before 46 text) ≡ false = no_row is_label_octet refl text some none in grind (arith, nat_tests, all)

bad_from : (text : List ℕ) (after : Option (List ℕ)) → behind_front 46 (behind_row is_label_octet text) ≡ after
    → is_label (row is_label_octet text) ≡ false → 0 < length (behind_row is_label_octet text) → is_label (before 46 text) ≡ false
bad_from text None e bad some = other_row text some e
bad_from text (Some more) e bad some = rw (row_dot is_label_octet refl text more e).0 bad

pub bad_row : (text : List ℕ) → is_label (row is_label_octet text) ≡ false → is_label (before 46 text) ≡ false
bad_row text bad =
    elim (cases_eq (length (behind_row is_label_octet text)) 0) [
      | inl none ↦ rw (whole_row is_label_octet refl text none).0 bad
      | inr some ↦ bad_from text (behind_front 46 (behind_row is_label_octet text)) refl bad (omega arith)
    ]
