-- The nearest SOA record, as a computation and as a relation.
use Rattle.std.proofs.Common.{◌≡◌, ◌⊎◌, ℕ, ◌<◌, Bool, true, false, List, [], ◌∷◌, ◌++◌, length, map, take, inl, inr, refl, sym, ap, ◌∙◌, length-append, arith}
use Rattle.std.specs.List.{filter, flat_map}
use Rattle.dns_message.specs.declared.resource.Record.{Record}
use Rattle.dns_zone.specs.Authorities.{IsNearestStart, is_of, nearest_start, starts_at, upwards}
use Rattle.dns_zone.specs.Zones.{Owned, entries_at, record_of}
use Rattle.dns_zone.specs.declared.zone.ZoneEntry.{ZoneEntry}

module _ (name : List (List ℕ)) where
  abbrev of_type : List ZoneEntry → List Record
  of_type entries = filter (is_of 6) (map (record_of name) entries)

  owner_by : (entry : ZoneEntry) (entries : List ZoneEntry) (start : Record) (others : List Record) (test : Bool)
      → is_of 6 (record_of name entry) ≡ test → of_type (entry ∷ entries) ≡ start ∷ others
      → (of_type entries ≡ start ∷ others → start.owner ≡ name) → start.owner ≡ name
  owner_by entry entries start others true e is rest =
      let these : record_of name entry ∷ of_type entries ≡ start ∷ others = rw e at is in
      let this : record_of name entry ≡ start = cc in
      ap (λ (it : Record). it.owner) (sym this)
  owner_by entry entries start others false e is rest = rest (rw e at is)

  owner_of : (entries : List ZoneEntry) (start : Record) (others : List Record) → of_type entries ≡ start ∷ others → start.owner ≡ name
  owner_of [] start others is = absurd cc
  owner_of (entry ∷ entries) start others is =
      owner_by entry entries start others (is_of 6 (record_of name entry)) refl is (owner_of entries start others)

module _ (zone : List Owned) where
  first_here : (name : List (List ℕ)) (start : Record) (others : List Record) → starts_at zone name ≡ start ∷ others
      → nearest_start zone name ≡ start ∷ []
  first_here [] start others is = rw is refl
  first_here (label ∷ labels) start others is = rw is refl

  passed : (label : List ℕ) (labels : List (List ℕ)) → starts_at zone (label ∷ labels) ≡ []
      → nearest_start zone (label ∷ labels) ≡ nearest_start zone labels
  passed label labels none = rw none refl

  none_at_root : starts_at zone [] ≡ [] → nearest_start zone [] ≡ []
  none_at_root none = rw none refl

  -- no suffix of a name is longer than it
  not_longer : {X : Type 0} (labels owner name : List X) → name ≡ labels ++ owner → length name < length owner → ⊥
  not_longer labels owner name is longer = omega (arith, ap length is, length-append labels owner)

  here : (name : List (List ℕ)) (first : Record) (others : List Record) (start : Record) → starts_at zone name ≡ first ∷ others
      → nearest_start zone name ≡ start ∷ [] → IsNearestStart zone name start
  here name first others start are is =
      let both : first ∷ [] ≡ start ∷ [] = sym (first_here name first others are) ∙ is in
      let same : first ≡ start = cc in
      let at_name : starts_at zone name ≡ start ∷ others = are ∙ ap (λ (it : Record). it ∷ others) same in
      let owner : start.owner ≡ name = owner_of name (entries_at zone name) start others at_name in
      record {
        front = [];
        suffix = sym owner;
        others = others;
        first = ap (starts_at zone) owner ∙ at_name;
        longest = λ labels owner' stands longer. absurd (not_longer labels owner' name stands (rw owner at longer));
      }

  above : (label : List ℕ) (labels : List (List ℕ)) (start : Record) → starts_at zone (label ∷ labels) ≡ []
      → IsNearestStart zone labels start → IsNearestStart zone (label ∷ labels) start
  above label labels start none is = record {
    front = label ∷ is.front;
    suffix = ap (λ (l : List (List ℕ)). label ∷ l) is.suffix;
    others = is.others;
    first = is.first;
    longest = longest;
  }
    where
      longest : (before owner : List (List ℕ)) → label ∷ labels ≡ before ++ owner → length start.owner < length owner
          → starts_at zone owner ≡ []
      longest [] owner stands longer = ap (starts_at zone) (sym stands) ∙ none
      longest (first ∷ before) owner stands longer =
          let tails : labels ≡ before ++ owner = cc in
          is.longest before owner tails longer

  nearest_by : (name : List (List ℕ)) (start : Record) (found : List Record) → starts_at zone name ≡ found
      → nearest_start zone name ≡ start ∷ []
      → (starts_at zone name ≡ [] → IsNearestStart zone name start) → IsNearestStart zone name start
  nearest_by name start [] e is rest = rest e
  nearest_by name start (first ∷ others) e is rest = here name first others start e is

  pub nearest_is : (name : List (List ℕ)) (start : Record) → nearest_start zone name ≡ start ∷ [] → IsNearestStart zone name start
  nearest_is [] start is = nearest_by [] start (starts_at zone []) refl is (λ none. let no = sym (none_at_root none) ∙ is in absurd cc)
  nearest_is (label ∷ labels) start is =
      nearest_by (label ∷ labels) start (starts_at zone (label ∷ labels)) refl is
      (λ none. above label labels start none (nearest_is labels start (sym (passed label labels none) ∙ is)))

  from_front : (front name : List (List ℕ)) (start : Record) (others : List Record) → name ≡ front ++ start.owner
      → starts_at zone start.owner ≡ start ∷ others
      → ((labels owner : List (List ℕ)) → name ≡ labels ++ owner → length start.owner < length owner → starts_at zone owner ≡ [])
      → nearest_start zone name ≡ start ∷ []
  from_front [] name start others is first longest = ap (nearest_start zone) is ∙ first_here start.owner start others first
  from_front (label ∷ front) name start others is first longest =
      let none : starts_at zone (label ∷ front ++ start.owner) ≡ [] =
      longest [] (label ∷ front ++ start.owner) is (omega (arith, length-append front start.owner)) in
      ap (nearest_start zone) is ∙ passed label (front ++ start.owner) none
      ∙ from_front front (front ++ start.owner) start others refl first
      (λ labels owner stands longer. longest (label ∷ labels) owner (is ∙ ap (λ (l : List (List ℕ)). label ∷ l) stands) longer)

  pub is_nearest : (name : List (List ℕ)) (start : Record) → IsNearestStart zone name start → nearest_start zone name ≡ start ∷ []
  is_nearest name start is = from_front is.front name start is.others is.suffix is.first is.longest

  -- ---- where there is none

  nowhere_by : (name : List (List ℕ)) (found : List Record) → starts_at zone name ≡ found → nearest_start zone name ≡ []
      → starts_at zone name ≡ []
  nowhere_by name [] e none = e
  nowhere_by name (first ∷ others) e none = let no = sym (first_here name first others e) ∙ none in absurd cc

  pub nowhere : (name : List (List ℕ)) → nearest_start zone name ≡ [] → (labels owner : List (List ℕ)) → name ≡ labels ++ owner
      → starts_at zone owner ≡ []
  nowhere name none [] owner stands = ap (starts_at zone) (sym stands) ∙ nowhere_by name (starts_at zone name) refl none
  nowhere [] none (first ∷ labels) owner stands = absurd cc
  nowhere (label ∷ rest) none (first ∷ labels) owner stands =
      let here : starts_at zone (label ∷ rest) ≡ [] = nowhere_by (label ∷ rest) (starts_at zone (label ∷ rest)) refl none in
      let tails : rest ≡ labels ++ owner = cc in
      nowhere rest (sym (passed label rest here) ∙ none) labels owner tails

  pub none_anywhere : (name : List (List ℕ))
      → ((labels owner : List (List ℕ)) → name ≡ labels ++ owner → starts_at zone owner ≡ []) → nearest_start zone name ≡ []
  none_anywhere [] none = none_at_root (none [] [] refl)
  none_anywhere (label ∷ rest) none =
      passed label rest (none [] (label ∷ rest) refl) ∙ none_anywhere rest
      (λ labels owner stands. none (label ∷ labels) owner (ap (λ (l : List (List ℕ)). label ∷ l) stands))

  -- ---- one at most

  at_most_one : (records : List Record) → (take 1 records ≡ []) ⊎ ((start : Record) × (take 1 records ≡ start ∷ []))
  at_most_one [] = inl refl
  at_most_one (first ∷ others) = inr (first, refl)

  pub one_or_none : (name : List (List ℕ)) → (nearest_start zone name ≡ []) ⊎ ((start : Record) × (nearest_start zone name ≡ start ∷ []))
  one_or_none name = at_most_one (flat_map (starts_at zone) (upwards name))
