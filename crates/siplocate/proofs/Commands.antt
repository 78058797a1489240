-- Words of a command.
use Rattle.std.proofs.Common.{◌≡◌, ℕ, ◌<◌, ◌≤◌, List, [], ◌∷◌, length, get_or, map, ap, ◌∙◌, sym, arith}

module _ {A : Type 0} (text : A → List ℕ) where
  pub one_word : (words : List A) (first : A) → 1 ≤ length words → length words < 2 → first ≡ get_or words 0 first
      → map text words ≡ text first ∷ []
  one_word [] first some few is = absurd (omega arith)
  one_word (x ∷ []) first some few is = ap (λ (x : A). text x ∷ []) (sym is)
  one_word (x ∷ y ∷ words) first some few is = absurd (omega arith)

  pub two_words : (words : List A) (first second : A) → 2 ≤ length words → length words < 3
      → first ≡ get_or words 0 first → second ≡ get_or words 1 second
      → map text words ≡ text first ∷ text second ∷ []
  two_words [] first second some few is is' = absurd (omega arith)
  two_words (x ∷ []) first second some few is is' = absurd (omega arith)
  two_words (x ∷ y ∷ []) first second some few is is' =
      ap (λ (x : A). text x ∷ text y ∷ []) (sym is) ∙ ap (λ (y : A). text first ∷ text y ∷ []) (sym is')
  two_words (x ∷ y ∷ z ∷ words) first second some few is is' = absurd (omega arith)
