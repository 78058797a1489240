-- The seats' own stores together are the history, where each seat has seen what the others have stored.
use Rattle.std.proofs.Common.{◌≡◌, ℕ, zero, suc, ◌+◌, ◌<◌, ◌≤◌, ◌==◌, Bool, true, false, List, [], ◌∷◌, cond, length}
use Rattle.std.proofs.Common.{refl, ap, sym, ◌∙◌, arith}
use Rattle.std.proofs.lemmas.List.{length-append}
use Rattle.std.proofs.lemmas.List.Elements.{All-head, All-tail, filter-append}
use Rattle.std.specs.List.{All}
use mathlib.Core.List.{IsPrefix}
use Rattle.answer_log.specs.Histories.{mine}
use Rattle.answer_log.specs.declared.store.Store.{Store}
use Rattle.answer_cache.specs.Seats.{GoesOn, IsSeat, StoresNothing}
use Rattle.answer_cache.specs.Shared.{CacheView, HasStored, SharedView}

pub mine-short : (seat : ℕ) (xs ys : List Store) → IsPrefix xs ys → length (mine xs seat) ≤ length (mine ys seat)
mine-short seat xs ys p =
    let split = ap (λ l. mine l seat) (sym p.1) ∙ filter-append (λ it. it.seat == seat) xs p.0 in
    let sizes = ap length split ∙ length-append (mine xs seat) (mine p.0 seat) in
    omega arith

-- what lies between two histories with the same stores of a seat has as many
pub mine-between : (seat : ℕ) (old all new own : List Store) → IsPrefix old all → IsPrefix all new
    → mine old seat ≡ own → mine new seat ≡ own → length (mine all seat) ≡ length own
mine-between seat old all new own before after first last =
    let low = mine-short seat old all before in
    let high = mine-short seat all new after in
    let one = ap length first in
    let two = ap length last in
    omega arith

one-when : (seat : ℕ) (store : Store) (rest : List Store) (is : Bool) → (store.seat == seat) ≡ is
    → length (mine (store ∷ rest) seat) ≡ cond is 1 0 + length (mine rest seat)
one-when seat store rest true is = rw is omega arith
one-when seat store rest false is = rw is omega arith

-- a store is of one of four seats
one-of-four : (seat : ℕ) → seat < 4 → cond (seat == 0) 1 0 + cond (seat == 1) 1 0 + cond (seat == 2) 1 0 + cond (seat == 3) 1 0 ≡ 1
one-of-four zero low = refl
one-of-four (suc zero) low = refl
one-of-four (suc (suc zero)) low = refl
one-of-four (suc (suc (suc zero))) low = refl
one-of-four (suc (suc (suc (suc seat)))) low = absurd (omega arith)

pub of-four : (stores : List Store) → All (λ store. store.seat < 4) stores
    → length stores ≡ length (mine stores 0) + length (mine stores 1) + length (mine stores 2) + length (mine stores 3)
of-four [] all = refl
of-four (store ∷ rest) all =
    let more = of-four rest (All-tail (λ it. it.seat < 4) store rest all) in
    let here = one-of-four store.seat (All-head (λ it. it.seat < 4) store rest all) in
    let first = one-when 0 store rest (store.seat == 0) refl in
    let second = one-when 1 store rest (store.seat == 1) refl in
    let third = one-when 2 store rest (store.seat == 2) refl in
    let fourth = one-when 3 store rest (store.seat == 3) refl in
    omega arith

module _ (cache : CacheView) (number count : ℕ) (old new : SharedView) (all : List Store) (stored : HasStored cache number count old) where
  -- a seat that has learned a history, with no store more, has so many stores in it
  pub stores-in : IsPrefix old.seat.seen all → IsPrefix all new.seat.seen → GoesOn old.seat new.seat
      → StoresNothing old.seat new.seat → IsSeat new.seat → length (mine all number) ≡ count
  stores-in before after goes none it =
      let first = ap (λ n. mine old.seat.seen n) (sym stored.numbered) ∙ stored.here.is.own in
      let same = goes.number ∙ stored.numbered in
      let last = ap (λ n. mine new.seat.seen n) (sym same) ∙ (it.own ∙ none.own) in
      mine-between number old.seat.seen all new.seat.seen old.seat.own before after first last ∙ stored.stores
