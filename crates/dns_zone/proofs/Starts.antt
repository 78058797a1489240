-- The SOA records of a name, and of those above it.
use Rattle.std.proofs.Common.{◌≡◌, ℕ, Bool, true, false, List, [], ◌∷◌, map, Option, Some, None, refl, sym, ap}
use Rattle.std.specs.Borrow.{Bor}
use Rattle.std.specs.List.{filter, find}
use Rattle.std.specs.Option.{is_some, option_map}
use Rattle.dns_message.specs.declared.resource.Record.{Record}
use Rattle.dns_name.specs.Labels.{parent_of}
use Rattle.dns_zone.specs.Authorities.{is_of, nearest_start, upwards}
use Rattle.dns_zone.specs.Replies.{authority_at}
use Rattle.dns_zone.specs.Views.{entry_value, says}
use Rattle.dns_zone.specs.Zones.{Owned, entries_at, record_of}
use Rattle.dns_zone.specs.declared.zone.ZoneEntry.{ZoneEntry}

module _ (type_number : ℕ) (name : List (List ℕ)) where
  abbrev of_type : List ZoneEntry → List Record
  of_type entries = filter (is_of type_number) (map (record_of name) entries)

  none_by : (entry : ZoneEntry) (entries : List ZoneEntry) (test : Bool) → says type_number entry ≡ test
      → find (says type_number) (entry ∷ entries) ≡ None → (find (says type_number) entries ≡ None → of_type entries ≡ [])
      → of_type (entry ∷ entries) ≡ []
  none_by entry entries true e none rest =
      let no : ◌≡◌ {A = Option ZoneEntry} (Some entry) None = rw e at none in
      absurd cc
  none_by entry entries false e none rest = rw e (rest (rw e at none))

  -- where the first of a type is not found, there is none
  pub none_of : (entries : List ZoneEntry) → find (says type_number) entries ≡ None → of_type entries ≡ []
  none_of [] none = refl
  none_of (entry ∷ entries) none = none_by entry entries (says type_number entry) refl none (none_of entries)

  some_by : (entry : ZoneEntry) (entries : List ZoneEntry) (found : ZoneEntry) (test : Bool) → says type_number entry ≡ test
      → find (says type_number) (entry ∷ entries) ≡ Some found
      → (find (says type_number) entries ≡ Some found → (others : List Record) × (of_type entries ≡ record_of name found ∷ others))
      → (others : List Record) × (of_type (entry ∷ entries) ≡ record_of name found ∷ others)
  some_by entry entries found true e some rest =
      let here : ◌≡◌ {A = Option ZoneEntry} (Some entry) (Some found) = rw e at some in
      let same : entry ≡ found = cc in
      (of_type entries, rw e (ap (λ (it : ZoneEntry). record_of name it ∷ of_type entries) same))
  some_by entry entries found false e some rest =
      let there = rest (rw e at some) in
      (there.0, rw e there.1)

  -- and where it is found, it is the first one
  pub some_of : (entries : List ZoneEntry) (found : ZoneEntry) → find (says type_number) entries ≡ Some found
      → (others : List Record) × (of_type entries ≡ record_of name found ∷ others)
  some_of [] found some = absurd cc
  some_of (entry ∷ entries) found some = some_by entry entries found (says type_number entry) refl some (some_of entries found)

module _ (zone : List Owned) where
  begins : (name : List (List ℕ)) → (above : List (List (List ℕ))) × (upwards name ≡ name ∷ above)
  begins [] = ([], refl)
  begins (label ∷ labels) = (upwards labels, refl)

  pub starts_here : (name : List (List ℕ)) (found : ZoneEntry) → Some found ≡ find (says 6) (entries_at zone name)
      → nearest_start zone name ≡ record_of name found ∷ []
  starts_here name found some =
      let this = some_of 6 name (entries_at zone name) found (sym some) in
      let above = begins name in
      rw (above.1, this.1) refl

  pub starts_above : (name parent : List (List ℕ)) → Some parent ≡ parent_of name → None ≡ find (says 6) (entries_at zone name)
      → nearest_start zone parent ≡ nearest_start zone name
  starts_above [] parent is none = absurd cc
  starts_above (label ∷ labels) parent is none =
      let same : parent ≡ labels = cc in
      rw (same, none_of 6 (label ∷ labels) (entries_at zone (label ∷ labels)) (sym none)) refl

  pub starts_nowhere : (name : List (List ℕ)) → None ≡ parent_of name → None ≡ find (says 6) (entries_at zone name)
      → nearest_start zone name ≡ []
  starts_nowhere [] is none = rw (none_of 6 [] (entries_at zone []) (sym none)) refl
  starts_nowhere (label ∷ labels) is none = absurd cc

  -- where the type was found, or was not
  pub has_type : (name : List (List ℕ)) (type_number : ℕ) (found : Option (Bor ZoneEntry))
      → option_map entry_value found ≡ find (says type_number) (entries_at zone name) → true ≡ is_some found
      → authority_at zone name type_number ≡ []
  has_type name type_number (Some entry) is some =
      let this = some_of type_number name (entries_at zone name) entry.now (sym is) in
      rw this.1 refl
  has_type name type_number None is some = absurd cc

  pub lacks_type : (name : List (List ℕ)) (type_number : ℕ) (found : Option (Bor ZoneEntry))
      → option_map entry_value found ≡ find (says type_number) (entries_at zone name) → false ≡ is_some found
      → authority_at zone name type_number ≡ nearest_start zone name
  lacks_type name type_number (Some entry) is none = absurd cc
  lacks_type name type_number None is none = rw (none_of type_number name (entries_at zone name) (sym is)) refl
