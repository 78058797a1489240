-- Whose stores are whose.
use Rattle.std.proofs.Common.{◌≡◌, ◌==◌, ◌⊎◌, inl, inr, ℕ, List, ap, sym, subst, ◌∙◌}
use Rattle.std.proofs.lemmas.List.Elements.{filter-append}
use mathlib.Core.List.{IsPrefix}
use Rattle.answer_log.specs.Histories.{mine}
use Rattle.answer_log.specs.declared.store.Store.{Store}
use Rattle.answer_cache.specs.Seats.{IsSeat, SeatView}

-- the stores of a number in a history begin with those in its beginning
mine-prefix : (number : ℕ) (before after : List Store) → IsPrefix before after
    → IsPrefix (mine before number) (mine after number)
mine-prefix number before after p =
    (mine p.0 number, sym (filter-append (λ store. store.seat == number) before p.0) ∙ ap (λ l. mine l number) p.1)

own-prefix : (one other : SeatView) → IsSeat one → IsSeat other → one.number ≡ other.number → IsPrefix one.seen other.seen
    → IsPrefix one.own other.own
own-prefix one other is its same p =
    let P : List Store → Type 0 = λ own. IsPrefix own other.own in
    let Q : List Store → Type 0 = λ own. IsPrefix (mine one.seen other.number) own in
    let N : ℕ → Type 0 = λ number. mine one.seen number ≡ one.own in
    subst P (subst N same is.own) (subst Q its.own (mine-prefix other.number one.seen other.seen p))

-- seats of one number have the same stores, as far as each has seen
pub own-one : (one other : SeatView) → IsSeat one → IsSeat other → one.number ≡ other.number
    → IsPrefix one.seen other.seen ⊎ IsPrefix other.seen one.seen → IsPrefix one.own other.own ⊎ IsPrefix other.own one.own
own-one one other is its same (inl p) = inl (own-prefix one other is its same p)
own-one one other is its same (inr p) = inr (own-prefix other one its is (sym same) p)
