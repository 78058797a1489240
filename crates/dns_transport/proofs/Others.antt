-- What is left where queries of one number go.
use Rattle.std.proofs.Common.{◌≡◌, ℕ, zero, suc, Bool, true, false, not, List, [], ◌∷◌, slice_index_or, nat_eq, refl, sym, subst, ap, rules}
use Rattle.std.specs.List.{All, HoldsAt, filter, remove}
use Rattle.dns_transport.specs.Ends.{has_number, without_number}
use Rattle.dns_transport.specs.declared.exchange.Exchange.{Exchange}
use Rattle.std.proofs.lemmas.List.Elements.{All-head, All-tail}

-- an item that fails a test is not missed where those that pass it are taken
pub others_stay : {X : Type 0} (p : X → Bool) (xs : List X) (at : ℕ) → HoldsAt (λ it. p it ≡ false) xs at
    → filter p (remove xs at) ≡ filter p xs
others_stay p [] zero fails = refl
others_stay p [] (suc at) fails = refl
others_stay p (x ∷ xs) zero fails = rw (fails x) refl
others_stay p (x ∷ xs) (suc at) fails = rw (others_stay p xs at fails) refl

-- where each item passes a test, all are taken
pub all_stay : {X : Type 0} (p : X → Bool) (xs : List X) → All (λ it. p it ≡ true) xs → filter p xs ≡ xs
all_stay p [] all = refl
all_stay p (x ∷ xs) all =
    rw (All-head (λ it. p it ≡ true) x xs all, all_stay p xs (All-tail (λ it. p it ≡ true) x xs all)) refl

-- what holds of the item at a place holds of the one that was taken from there
pub held : {X : Type 0} (P : X → Type 0) (xs : List X) (at : ℕ) (it : X) → HoldsAt P xs at
    → HoldsAt (λ x. it ≡ x) xs at → P it
held P xs at it holds is = subst P (sym (is it)) (holds it)

same_number : (one other : ℕ) → one ≡ other → nat_eq one other ≡ true
same_number one other same = search (rules, same)

other_number : (one other : ℕ) → (one ≡ other → ⊥) → nat_eq one other ≡ false
other_number one other differ = search (rules, differ)

pub one_leaves : (number : ℕ) (xs : List Exchange) (at : ℕ) → HoldsAt (λ it. it.query.number ≡ number) xs at
    → without_number number (remove xs at) ≡ without_number number xs
one_leaves number xs at holds =
    others_stay (λ it. not (has_number number it)) xs at
    (λ d. ap not (same_number (slice_index_or xs at d).query.number number (holds d)))

pub none_leaves : (number : ℕ) (xs : List Exchange) → All (λ it. it.query.number ≡ number → ⊥) xs
    → without_number number xs ≡ xs
none_leaves number xs none =
    all_stay (λ it. not (has_number number it)) xs
    (λ k d small. ap not (other_number (slice_index_or xs k d).query.number number (none k d small)))
