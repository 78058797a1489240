-- Two colons in a row: what is around them, from what stands here and what stands further on.
use Rattle.std.proofs.Common.{◌≡◌, ℕ, ◌+◌, ◌-◌, ◌<◌, List, [], ◌∷◌, ◌++◌, length, take, drop, get_or, Option, Some, None, refl, sym, ap, ◌∙◌, inl, inr, arith, eqb, append_assoc}
use Rattle.std.specs.Option.{option_map, option_and_then}
use Rattle.std.proofs.lemmas.Bool.{cases_Bool}
use Rattle.std.proofs.lemmas.List.{append-nil, length-drop, take_all, take_more, drop_more}
use Rattle.ip_text.specs.Parts.{behind_front}
use Rattle.ip_text.specs.Readers.{behind_colons, with_front, around_colons}

-- what is around two colons, from what stands here and what stands further on
abbrev pub around : ℕ → List ℕ → Option (List ℕ) → Option (List ℕ × List ℕ)
around x text None = option_map (with_front (x ∷ [])) (around_colons text)
around x text (Some right) = Some ([], right)

colons_at : (x : ℕ) (text : List ℕ) (o : Option (List ℕ))
    → elim o as (λ _. Option (List ℕ × List ℕ)) [
      | None ↦ option_map (with_front (x ∷ [])) (around_colons text)
      | Some right ↦ Some
          ([], right)
    ] ≡ around x text o
colons_at x text None = refl
colons_at x text (Some right) = refl

pub colons_are : (x : ℕ) (text : List ℕ) → around_colons (x ∷ text) ≡ around x text (behind_colons (x ∷ text))
colons_are x text = colons_at x text (behind_colons (x ∷ text))

pub front_nothing : (o : Option (List ℕ × List ℕ)) → option_map (with_front []) o ≡ o
front_nothing None = refl
front_nothing (Some sides) = refl

pub front_twice : (a b : List ℕ) (o : Option (List ℕ × List ℕ))
    → option_map (with_front a) (option_map (with_front b) o) ≡ option_map (with_front (a ++ b)) o
front_twice a b None = refl
front_twice a b (Some sides) = ap (λ (l : List ℕ). Some (l, sides.1)) (sym (append_assoc a b sides.0))

-- ---- a reader of them that has come to a place

pub colons_in_front : (text : List ℕ) → behind_colons text ≡ option_and_then (behind_front 58) (behind_front 58 text)
colons_in_front [] = refl
colons_in_front (x ∷ []) = elim (cases_Bool (eqb x 58)) [ inl is ↦ rw is refl | inr no' ↦ rw no' refl ]
colons_in_front (x ∷ y ∷ text) = elim (cases_Bool (eqb x 58)) [ inl is ↦ rw is refl | inr no' ↦ rw no' refl ]

module _ (text : List ℕ) (at : ℕ) (so_far : around_colons text ≡ option_map (with_front (take at text)) (around_colons (drop at text)))
    (within : at < length text) where
  first : ℕ
  first = get_or text at 0

  left_is : take (length text - at) (drop at text) ≡ first ∷ drop (at + 1) text
  unfolding first
  left_is = take_all (length text - at) (drop at text) (omega (arith, length-drop at text)) ∙ drop_more text at 0 within

  so_far_is : (o : Option (List ℕ)) → behind_colons (take (length text - at) (drop at text)) ≡ o
      → around_colons text ≡ option_map (with_front (take at text)) (around first (drop (at + 1) text) o)
  unfolding first
  so_far_is o e =
      let here : behind_colons (first ∷ drop (at + 1) text) ≡ o = rw left_is at e in
      let further : around_colons (drop at text) ≡ around first (drop (at + 1) text) o =
      ap around_colons (drop_more text at 0 within) ∙ colons_are first (drop (at + 1) text) ∙ ap
      (around first (drop (at + 1) text)) here in
      so_far ∙ ap (option_map (with_front (take at text))) further

  pub colons_here : (right : List ℕ) → behind_colons (take (length text - at) (drop at text)) ≡ Some right
      → Some (take at text, right) ≡ around_colons text
  colons_here right e = sym (so_far_is (Some right) e ∙ ap (λ (left : List ℕ). Some (left, right)) (append-nil (take at text)))

  pub colons_further : behind_colons (take (length text - at) (drop at text)) ≡ None
      → around_colons text ≡ option_map (with_front (take (at + 1) text)) (around_colons (drop (at + 1) text))
  unfolding first
  colons_further e =
      so_far_is None e ∙ front_twice (take at text) (first ∷ []) (around_colons (drop (at + 1) text)) ∙ ap
      (λ (left : List ℕ). option_map (with_front left) (around_colons (drop (at + 1) text))) (sym (take_more text at 0 within))
