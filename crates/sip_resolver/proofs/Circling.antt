-- A turn of a queue: each item is taken from the front, and what passes a test is put back behind.
use Rattle.std.proofs.Common.{◌≡◌, ◌≢◌, ℕ, ◌+◌, ◌<◌, ◌≤◌, Bool, true, false, not, nat_eq, List, [], ◌∷◌, ◌++◌, length, map, refl, sym, ap, ◌∙◌, append_assoc, eq-eqb, arith, rules}
use Rattle.std.specs.List.{All, Contains, filter}
use Rattle.std.proofs.lemmas.List.{append-nil, length-append}
use Rattle.std.proofs.lemmas.List.Elements.{All-contains, All-head, All-map, All-tail, All-weaker, Contains-append_right, filter-append, filter_passes}
use Rattle.sip_resolver.specs.Cancels.{others_by}

module _ {X : Type 0} (p : X → Bool) where
  -- so many of the items were taken, and those that pass stand behind the others
  pub record Circled (old now : List X) (count : ℕ) : Type 0 where
    pub front : List X
    pub done : List X
    pub whole : old ≡ done ++ front
    pub counted : length done ≡ count
    pub now_is : now ≡ front ++ filter p done

  pub circled-not : (old : List X) → Circled old old 0
  circled-not old =
      record { front = old; done = []; whole = refl; counted = refl; now_is = sym (append-nil old) }

  on-by : (old now middle : List X) (x : X) (front done : List X) → old ≡ done ++ front → now ≡ front ++ filter p done
      → now ≡ x ∷ middle → length done < length old → (new : List X) → new ≡ middle ++ filter p (x ∷ [])
      → Circled old new (length done + 1)
  on-by old now middle x [] done whole is first less new back =
      absurd (let all = ap length (whole ∙ append-nil done) in omega (arith, all, less))
  on-by old now middle x (y ∷ front) done whole is first less new back =
      let both : x ∷ middle ≡ y ∷ front ++ filter p done = sym first ∙ is in
      let same : x ≡ y = cc in
      let rest : middle ≡ front ++ filter p done = cc in
      record {
        front = front;
        done = done ++ x ∷ [];
        whole = rw same (whole ∙ sym (append_assoc done (y ∷ []) front));
        counted = length-append done (x ∷ []);
        now_is = back ∙ ap (λ l. l ++ filter p (x ∷ [])) rest ∙ append_assoc front (filter p done) (filter p (x ∷ []))
            ∙ ap (λ l. front ++ l) (sym (filter-append p done (x ∷ [])));
      }

  pub circled-on : (old now middle new : List X) (x : X) (count : ℕ) → Circled old now count → now ≡ x ∷ middle
      → count < length old → new ≡ middle ++ filter p (x ∷ []) → Circled old new (count + 1)
  circled-on old now middle new x count it first less back =
      rw (sym it.counted) (on-by old now middle x it.front it.done it.whole it.now_is first (rw it.counted less) new back)

  over-by : (old now front done : List X) → old ≡ done ++ front → now ≡ front ++ filter p done → length old ≤ length done
      → now ≡ filter p old
  over-by old now [] done whole is all = is ∙ ap (filter p) (sym (whole ∙ append-nil done))
  over-by old now (x ∷ front) done whole is all =
      absurd (let parts = ap length whole ∙ length-append done (x ∷ front) in omega (arith, parts, all))

  -- the turn is over
  pub circled-over : (old now : List X) (count : ℕ) → Circled old now count → length old ≤ count → now ≡ filter p old
  circled-over old now count it all = over-by old now it.front it.done it.whole it.now_is (rw it.counted all)

  early-by : (old now front done : List X) → old ≡ done ++ front → now ≡ front ++ filter p done → now ≡ []
      → length done < length old → ⊥
  early-by old now [] done whole is none less =
      let all = ap length (whole ∙ append-nil done) in omega (arith, all, less)
  early-by old now (x ∷ front) done whole is none less = absurd cc

  -- the queue isn't empty before that
  pub circled-early : (old now : List X) (count : ℕ) → Circled old now count → now ≡ [] → count < length old → ⊥
  circled-early old now count it none less =
      early-by old now it.front it.done it.whole it.now_is none (rw it.counted less)

  kept-by : (x : X) (xs : List X) (is : Bool) → p x ≡ is → p x ≡ true → filter p xs ≡ xs → filter p (x ∷ xs) ≡ x ∷ xs
  kept-by x xs true is passes rest = rw (is, rest) refl
  kept-by x xs false is passes rest = absurd cc

-- ---- those of another number

differs : (a b : ℕ) → a ≢ b → not (nat_eq a b) ≡ true
differs a b other = search rules

other-than : (a b : ℕ) → not (nat_eq a b) ≡ true → a ≢ b
other-than a b e = search rules

module _ {X : Type 0} (numbered : X → ℕ) (number : ℕ) where
  abbrev is-other : X → Bool
  is-other it = not (nat_eq (numbered it) number)

  -- where none has the number, all stay
  pub others-all : (xs : List X) → (Contains (map numbered xs) number → ⊥) → others_by numbered number xs ≡ xs
  others-all [] none = refl
  others-all (x ∷ xs) none =
      kept-by is-other x xs (is-other x) refl
      (differs (numbered x) number (λ same. none (0, omega arith, same)))
      (others-all xs (λ there. none (Contains-append_right (numbered x ∷ []) (map numbered xs) number there)))

  -- the same, of each
  pub others-stay : (xs : List X) → All (λ it. numbered it ≢ number) xs → others_by numbered number xs ≡ xs
  others-stay [] other = refl
  others-stay (x ∷ xs) other =
      kept-by is-other x xs (is-other x) refl
      (differs (numbered x) number (All-head (λ it. numbered it ≢ number) x xs other))
      (others-stay xs (All-tail (λ it. numbered it ≢ number) x xs other))

  -- where one that has it is taken out from its place, the others stay
  pub others-left : (first later : List X) (x : X) → numbered x ≡ number
      → others_by numbered number (first ++ later) ≡ others_by numbered number (first ++ x ∷ later)
  others-left first later x same =
      let its : others_by numbered number (x ∷ later) ≡ others_by numbered number later = rw (eq-eqb (numbered x) number same) refl in
      filter-append is-other first later
      ∙ ap (λ l. others_by numbered number first ++ l) (sym its)
      ∙ sym (filter-append is-other first (x ∷ later))

  -- none of those that stay has it
  pub others-lack : (xs : List X) → Contains (map numbered (others_by numbered number xs)) number → ⊥
  others-lack xs there =
      All-contains (λ n. n ≢ number) (map numbered (others_by numbered number xs)) number
      (All-map (λ n. n ≢ number) numbered (others_by numbered number xs)
      (All-weaker (λ it. is-other it ≡ true) (λ it. numbered it ≢ number) (λ it e. other-than (numbered it) number e)
      (others_by numbered number xs) (filter_passes is-other xs))) there refl
