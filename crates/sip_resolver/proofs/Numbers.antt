-- The numbers of the requests inside, as a filter counts them.
use Rattle.std.proofs.Common.{◌≡◌, ◌<◌, ◌≤◌, ◌+◌, ℕ, nat_eq, Bool, true, false, if◌then◌else◌, List, [], ◌∷◌, length, map, bit_and, refl, sym, ap, ◌∙◌, arith, eq-eqb}
use Rattle.std.specs.List.{All, Contains, sum_by}
use Rattle.std.proofs.lemmas.Grind.{get_or_default_zero}
use Rattle.std.proofs.lemmas.Nat.{and_le_r}
use Rattle.std.proofs.lemmas.List.Sums.{get_or-le-sum_by, sum_by-cons, sum_by-le}
use Rattle.sip_resolver.proofs.Queues.{only-last}
use Rattle.sip_resolver.specs.NumberFilters.{Counts, FilterView, count_at, is_of}
use Rattle.sip_resolver.specs.Requests.{RequestsView, count_of, number_of_ended, number_of_waiting, numbers_of, weigh_numbers}
use Rattle.sip_resolver.specs.Tasks.{TaskView}

-- what is counted by one total is by another that agrees
pub counts-as : (one other : (ℕ → ℕ) → ℕ) (it : FilterView) → ((h : ℕ → ℕ) → one h ≡ other h) → Counts one it → Counts other it
counts-as one other it same so = record { masked = so.masked; each = λ slot within. so.each slot within ∙ same (is_of it.mask slot) }

-- ---- slots

one-by : (is : Bool) → (if is then 1 else 0) ≤ 1
one-by true = omega arith
one-by false = omega arith

its-slot : (mask number : ℕ) → is_of mask (bit_and number mask) number ≡ 1
its-slot mask number = rw (eq-eqb (bit_and number mask) (bit_and number mask) refl) refl

few-by : {X : Type 0} (numbered : X → ℕ) (mask slot : ℕ) (xs : List X) → sum_by (λ x. is_of mask slot (numbered x)) xs ≤ length xs
few-by numbered mask slot xs =
    let all = sum_by-le (λ x. is_of mask slot (numbered x)) 1 xs (λ k d small. one-by (nat_eq (bit_and (numbered _) mask) slot)) in
    omega (arith, all)

-- ---- the requests inside

module _ (it : RequestsView) (numbers : FilterView) (so : Counts (weigh_numbers it) numbers) where
  few-in : (slot : ℕ) → weigh_numbers it (is_of numbers.mask slot) ≤ count_of it
  few-in slot =
      let one = few-by (λ (task : TaskView). task.number) numbers.mask slot it.ready in
      let two = few-by (λ (task : TaskView). task.number) numbers.mask slot it.held in
      let three = few-by number_of_waiting numbers.mask slot it.waiting in
      let four = few-by number_of_ended numbers.mask slot it.ended in
      omega (arith, one, two, three, four)

  -- each slot has room for one more
  pub few-of-each : (limit : ℕ) → count_of it < limit → limit ≤ 65536
      → All (λ count. count < 18446744073709551615) numbers.counts
  few-of-each limit room fits = λ slot d within.
      let is = so.each slot within in
      let few = few-in slot in
      let same = get_or_default_zero numbers.counts slot d within in
      omega (arith, is, few, same, room, fits)

slot-within : (number : ℕ) (it : FilterView) → it.mask < length it.counts → bit_and number it.mask < length it.counts
slot-within number it masked = let less = and_le_r number it.mask in omega (arith, less, masked)

-- where one is of a number's slot, the slot has some
pub some-at : (number : ℕ) (total : (ℕ → ℕ) → ℕ) (it : FilterView) → Counts (λ h. total h + h number) it → 0 < count_at number it
some-at number total it so =
    let is = so.each (bit_and number it.mask) (slot-within number it so.masked) in
    let one = its-slot it.mask number in
    omega (arith, is, one)

-- ---- a number that the filter lacks

module _ {X : Type 0} (numbered : X → ℕ) (mask number : ℕ) where
  sum-map : (xs : List X) → sum_by (is_of mask (bit_and number mask)) (map numbered xs)
      ≡ sum_by (λ x. is_of mask (bit_and number mask) (numbered x)) xs
  sum-map [] = refl
  sum-map (x ∷ xs) =
      let h = is_of mask (bit_and number mask) in
      sum_by-cons h (numbered x) (map numbered xs) ∙ ap (λ n. h (numbered x) + n) (sum-map xs)
      ∙ sym (sum_by-cons (λ x. h (numbered x)) x xs)

  lacks-by : (xs : List X) → sum_by (λ x. is_of mask (bit_and number mask) (numbered x)) xs ≡ 0 → Contains (map numbered xs) number → ⊥
  lacks-by xs none (at, within, is) =
      let h = is_of mask (bit_and number mask) in
      let less = rw is at (get_or-le-sum_by h (map numbered xs) at number within) in
      let one = its-slot mask number in
      let whole = sum-map xs in
      omega (arith, less, one, whole, none)

-- none has it
pub lacks : (number : ℕ) (it : RequestsView) (numbers : FilterView) → Counts (weigh_numbers it) numbers
    → (0 < count_at number numbers → ⊥) → Contains (numbers_of it) number → ⊥
lacks number it numbers so none there =
    let is = so.each (bit_and number numbers.mask) (slot-within number numbers so.masked) in
    lacks-by number_of_ended numbers.mask number it.ended (omega (arith, is, none))
    (only-last (map (λ (task : TaskView). task.number) it.ready) (map (λ (task : TaskView). task.number) it.held)
    (map number_of_waiting it.waiting) (map number_of_ended it.ended) number
    (lacks-by (λ (task : TaskView). task.number) numbers.mask number it.ready (omega (arith, is, none)))
    (lacks-by (λ (task : TaskView). task.number) numbers.mask number it.held (omega (arith, is, none)))
    (lacks-by number_of_waiting numbers.mask number it.waiting (omega (arith, is, none))) there)
