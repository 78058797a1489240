-- A history stays one with a store more, where the group of its question had room.
use Rattle.std.proofs.Common.{◌≡◌, ◌≢◌, ℕ, ◌<◌, ◌≤◌, ◌==◌, Bool, true, false, List, [], ◌∷◌, ◌++◌, length, refl, arith}
use Rattle.std.proofs.lemmas.Bool.{eqb-true, eqb-false, eq-eqb, ne_eqb}
use Rattle.std.proofs.lemmas.List.{length-append, append-nil}
use Rattle.std.proofs.lemmas.List.Elements.{filter-append, All-push}
use Rattle.answer_log.specs.Groups.{group_limit, group_in}
use Rattle.answer_log.specs.Histories.{IsFull, IsHistory, IsSound, in_group}
use Rattle.answer_log.specs.declared.store.Store.{Store}

module _ (groups : ℕ) (stores : List Store) (store : Store) where
  one-more : (group : ℕ) → group_in groups store.question ≡ group
      → in_group groups group (stores ++ store ∷ []) ≡ in_group groups group stores ++ store ∷ []
  one-more group is = rw (filter-append (λ it. group_in groups it.question == group) stores (store ∷ []), is, eq-eqb group group refl) refl

  no-more : (group : ℕ) → group_in groups store.question ≢ group → in_group groups group (stores ++ store ∷ []) ≡ in_group groups group stores
  no-more group other =
      rw (filter-append (λ it. group_in groups it.question == group) stores (store ∷ []), ne_eqb (group_in groups store.question) group other)
      (append-nil (in_group groups group stores))

  few-by : (group : ℕ) (is : Bool) → (group_in groups store.question == group) ≡ is → (IsFull groups stores store.question → ⊥)
      → length (in_group groups group stores) ≤ group_limit → length (in_group groups group (stores ++ store ∷ [])) ≤ group_limit
  few-by group true is room few =
      let same = eqb-true (group_in groups store.question) group is in
      let more = length-append (in_group groups group stores) (store ∷ []) in
      let below : length (in_group groups (group_in groups store.question) stores) < group_limit = below-of
      (length (in_group groups (group_in groups store.question) stores)) room in
      let below' = rw same at below in
      rw (one-more group same, more) omega arith
    where
      below-of : (n : ℕ) → (group_limit ≤ n → ⊥) → n < group_limit
      below-of n not = omega arith
  few-by group false is room few =
      let other = eqb-false (group_in groups store.question) group is in rw (no-more group other) few

  pub history-more : IsSound store → (IsFull groups stores store.question → ⊥) → IsHistory groups stores
      → IsHistory groups (stores ++ store ∷ [])
  history-more sound room it = record {
    sound = All-push IsSound stores store it.sound sound;
    few = λ group. few-by group (group_in groups store.question == group) refl room (it.few group);
  }
