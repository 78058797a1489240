-- The search among words whose ends complete a beginning.
use Rattle.std.proofs.Common.{◌≡◌, ℕ, zero, suc, ◌<◌, ◌≤◌, inl, inr, List, [], ◌∷◌, Bor, arith, drop, get_or, length, map, refl}
use Rattle.sip_fault.specs.Faults.{HasEnd, HasEndAmong}
use Rattle.sip_fault.specs.Readers.{words_of}
use Rattle.sip_fault.specs.declared.grammar.Grammar.{Grammar}
use Rattle.sip_fault.specs.declared.grammar.Grammar.TheVariants.{Uri, Via}

pub five : (grammar : Grammar) → length (words_of grammar) ≡ 5
five Uri = refl
five Via = refl

-- a word that is read of an array is the one of the list
pub read_at : (words : List (Bor (List ℕ))) (index : ℕ) (none : Bor (List ℕ))
    → get_or (map (λ (word : Bor (List ℕ)). word.now) words) index none.now ≡ (get_or words index none).now
read_at [] index none = refl
read_at (word ∷ words) zero none = refl
read_at (word ∷ words) (suc index) none = read_at words index none

module _ (Is : List ℕ → Type 0) (tail front : List ℕ) where
  pub found_at : (words : List (List ℕ)) (index : ℕ) → index < length words → HasEnd Is (get_or words index []) tail front
      → HasEndAmong Is words tail front
  found_at [] index less has = absurd (omega arith)
  found_at (word ∷ words) zero less has = inl has
  found_at (word ∷ words) (suc index) less has = inr (found_at words index (omega arith) has)

  behind_first : (word : List ℕ) (words : List (List ℕ)) → (HasEnd Is word tail front → ⊥)
      → HasEndAmong Is (word ∷ words) tail front → HasEndAmong Is words tail front
  behind_first word words none (inl has) = absurd (none has)
  behind_first word words none (inr among) = among

  pub behind_word : (words : List (List ℕ)) (index : ℕ) → index < length words
      → (HasEnd Is (get_or words index []) tail front → ⊥) → HasEndAmong Is (drop index words) tail front
      → HasEndAmong Is (drop (suc index) words) tail front
  behind_word [] index less none among = absurd (omega arith)
  behind_word (word ∷ words) zero less none among = behind_first word words none among
  behind_word (word ∷ words) (suc index) less none among = behind_word words index (omega arith) none among

  pub none_left : (words : List (List ℕ)) (index : ℕ) → length words ≤ index
      → HasEndAmong Is (drop index words) tail front → ⊥
  none_left [] zero less among = among
  none_left [] (suc index) less among = among
  none_left (word ∷ words) zero less among = absurd (omega arith)
  none_left (word ∷ words) (suc index) less among = none_left words index (omega arith) among
