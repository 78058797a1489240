-- A search along a queue, and along all queues.
use Rattle.std.proofs.Common.{◌≡◌, ◌≢◌, ◌⊎◌, ℕ, ◌<◌, ◌≤◌, ◌+◌, inl, inr, List, ◌++◌, length, map, take, get_or, refl, sym, ap, ◌∙◌}
use Rattle.std.proofs.lemmas.List.{get_or-map, length-map, take_all, take_more}
use Rattle.std.proofs.lemmas.List.Elements.{All-contains, All-map, All-push, Contains-append_cases, Contains-append_left, Contains-append_right}
use Rattle.std.specs.List.{All, Contains}

module _ {X : Type 0} (numbered : X → ℕ) (number : ℕ) (items : List X) where
  -- none in front of this place has the number
  abbrev pub Searched : ℕ → Type 0
  Searched at = All (λ it. numbered it ≢ number) (take at items)

  pub searched-on : (at : ℕ) (it : X) → at < length items → it ≡ get_or items at it → Searched at → numbered it ≢ number
      → Searched (at + 1)
  searched-on at it within here before other =
      rw (take_more items at it within)
      (All-push (λ (it : X). numbered it ≢ number) (take at items) (get_or items at it) before (rw (← here) other))

  pub found-there : (at : ℕ) (it : X) → at < length items → it ≡ get_or items at it → numbered it ≡ number
      → Contains (map numbered items) number
  found-there at it within here is =
      let within' : at < length (map numbered items) = rw (length-map items numbered) within in
      let value : get_or (map numbered items) at number ≡ number =
      get_or-map numbered items at it number within ∙ ap numbered (sym here) ∙ is in
      (at, within', value)

  pub searched-all : (at : ℕ) → length items ≤ at → Searched at → Contains (map numbered items) number → ⊥
  searched-all at all none there =
      let none' = rw (take_all at items all) at none in
      All-contains (λ n. n ≢ number) (map numbered items) number (All-map (λ n. n ≢ number) numbered items none') there refl

module _ (first second third last : List ℕ) (number : ℕ) where
  pub in-first : Contains first number → Contains (first ++ second ++ third ++ last) number
  in-first it =
      Contains-append_left (first ++ second ++ third) last number
      (Contains-append_left (first ++ second) third number (Contains-append_left first second number it))

  pub in-second : Contains second number → Contains (first ++ second ++ third ++ last) number
  in-second it =
      Contains-append_left (first ++ second ++ third) last number
      (Contains-append_left (first ++ second) third number (Contains-append_right first second number it))

  pub in-third : Contains third number → Contains (first ++ second ++ third ++ last) number
  in-third it = Contains-append_left (first ++ second ++ third) last number (Contains-append_right (first ++ second) third number it)

  pub in-last : Contains last number → Contains (first ++ second ++ third ++ last) number
  in-last it = Contains-append_right (first ++ second ++ third) last number it

  cases-first : (Contains first number → ⊥) → (Contains second number → ⊥) → Contains first number ⊎ Contains second number → ⊥
  cases-first none-first none-second (inl it) = none-first it
  cases-first none-first none-second (inr it) = none-second it

  cases-third : (Contains first number → ⊥) → (Contains second number → ⊥) → (Contains third number → ⊥)
      → Contains (first ++ second) number ⊎ Contains third number → ⊥
  cases-third none-first none-second none-third (inl it) =
      cases-first none-first none-second (Contains-append_cases first second number it)
  cases-third none-first none-second none-third (inr it) = none-third it

  cases-last : (Contains first number → ⊥) → (Contains second number → ⊥) → (Contains third number → ⊥)
      → Contains (first ++ second ++ third) number ⊎ Contains last number → Contains last number
  cases-last none-first none-second none-third (inl it) =
      absurd (cases-third none-first none-second none-third (Contains-append_cases (first ++ second) third number it))
  cases-last none-first none-second none-third (inr it) = it

  pub only-last : (Contains first number → ⊥) → (Contains second number → ⊥) → (Contains third number → ⊥)
      → Contains (first ++ second ++ third ++ last) number → Contains last number
  only-last none-first none-second none-third it =
      cases-last none-first none-second none-third (Contains-append_cases (first ++ second ++ third) last number it)
