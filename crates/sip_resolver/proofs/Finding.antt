-- The search of a slot by a key.
use Rattle.std.proofs.Common.{◌≡◌, nat_eq, ℕ, suc, zero, ◌≤◌, ◌+◌, ◌⊎◌, inl, inr, Bool, true, false, List, [], ◌∷◌, Some, length, map, refl, sym, ap, ◌∙◌, eq-eqb, arith, rules}
use Rattle.std.specs.List.{filter, slice_get}
use Rattle.std.specs.Option.{is_some, option_map}
use Rattle.std.proofs.lemmas.Bool.{and_parts, cases_eq}
use Rattle.std.proofs.lemmas.Option.{same_Some, slice_get-map}
use Rattle.sip_resolver.specs.SlotIndexes.{HasKey, IsFirstWith, IsTakenUnder, NoneBefore, is_under, key_in}
use Rattle.sip_resolver.specs.declared.slot_links.KeyedSlot.{KeyedSlot}

-- ---- what contracts see

has-taken : (slots : List KeyedSlot) (place key : ℕ) → IsTakenUnder slots place key → HasKey (map key_in slots) place key
has-taken slots place key is = slice_get-map key_in slots place ∙ ap (λ found. option_map key_in found) is

abbrev slot_of : ℕ → Bool → KeyedSlot
slot_of key taken = record { key = key; is_taken = taken }

taken-by : (own : ℕ) (taken : Bool) (key : ℕ) → Some (key_in (slot_of own taken)) ≡ Some (Some key)
    → Some (slot_of own taken) ≡ Some (slot_of key true)
taken-by own true key is = let same : own ≡ key = cc in ap (λ n. Some (slot_of n true)) same
taken-by own false key is = absurd cc

taken-has : (slots : List KeyedSlot) (place key : ℕ) → HasKey (map key_in slots) place key → IsTakenUnder slots place key
taken-has [] place key is = absurd cc
taken-has (slot ∷ slots) zero key is = taken-by slot.key slot.is_taken key is
taken-has (slot ∷ slots) (suc place) key is = taken-has slots place key is

kept-by : (own : ℕ) (taken : Bool) (slots : List KeyedSlot)
    → map key_in (filter (λ slot. slot.is_taken) slots) ≡ filter (λ key. is_some key) (map key_in slots)
    → map key_in (filter (λ slot. slot.is_taken) (slot_of own taken ∷ slots))
    ≡ filter (λ key. is_some key) (map key_in (slot_of own taken ∷ slots))
kept-by own true slots same = ap (λ keys. Some own ∷ keys) same
kept-by own false slots same = same

-- the slots that are not taken are let go
pub keys-kept : (slots : List KeyedSlot)
    → map key_in (filter (λ slot. slot.is_taken) slots) ≡ filter (λ key. is_some key) (map key_in slots)
keys-kept [] = refl
keys-kept (slot ∷ slots) = kept-by slot.key slot.is_taken slots (keys-kept slots)

-- ---- a search

module _ (slots : List KeyedSlot) (key : ℕ) where
  -- none is taken under the key in front of a place
  abbrev pub NoneTaken : ℕ → Type 0
  NoneTaken place = (at : ℕ) → IsTakenUnder slots at key → place ≤ at

  before-has : (place : ℕ) → NoneTaken place → NoneBefore key place (map key_in slots)
  before-has place none later has = none later (taken-has slots later key has)

  pub none-found : ((at : ℕ) → IsTakenUnder slots at key → ⊥) → NoneBefore key (length (map key_in slots)) (map key_in slots)
  none-found none later has = absurd (none later (taken-has slots later key has))

  module _ (place : ℕ) (slot : KeyedSlot) (there : slice_get slots place ≡ Some slot) where
    further-by : (later : ℕ) → IsTakenUnder slots later key → (is_under key slot ≡ true → ⊥) → place ≤ later
        → (later ≡ place) ⊎ (later ≡ place → ⊥) → place + 1 ≤ later
    further-by later taken other behind (inl at) =
        let its : IsTakenUnder slots place key = rw (← at) taken in
        let same : slot ≡ slot_of key true = same_Some slot _ (sym there ∙ its) in
        absurd (other (rw same (rw (eq-eqb key key refl) refl)))
    further-by later taken other behind (inr apart) = omega (arith, behind, apart)

    -- the slot at the place is another one
    pub none-further : (is_under key slot ≡ true → ⊥) → NoneTaken place → NoneTaken (place + 1)
    none-further other none later taken = further-by later taken other (none later taken) (cases_eq later place)

    -- it is this one
    pub found-first : is_under key slot ≡ true → NoneTaken place → IsFirstWith key place (map key_in slots)
    found-first mine none =
        let both = and_parts slot.is_taken (nat_eq slot.key key) mine in
        let is = both.1 in
        let same : slot.key ≡ key = search (rules, is) in
        let its : slot ≡ slot_of key true = ap (λ n. slot_of n slot.is_taken) same ∙ ap (λ b. slot_of key b) both.0 in
        (has-taken slots place key (there ∙ ap (λ (it : KeyedSlot). Some it) its), before-has place none)
