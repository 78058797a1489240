-- What a zone has for a name, as its map has it.
use Rattle.std.proofs.Common.{◌≡◌, ◌↔◌, ℕ, Bool, true, false, cond, IsTrue, List, [], ◌∷◌, ◌++◌, map, Option, Some, refl, sym}
use Rattle.std.proofs.lemmas.List.{append-nil}
use Rattle.std.specs.Prelude.{if◌then◌else◌}
use Rattle.std.specs.Cmp.{IsEquivalence, nat_eq_equiv}
use Rattle.std.specs.Cmp.Lexicographic.{lists_equiv}
use Rattle.std.specs.Map.{lookup}
use Rattle.std.specs.Option.{option_map_or}
use Rattle.std.specs.declared.vec.Vec.{Vec}
use Rattle.dns_name.specs.Labels.{same_name}
use Rattle.dns_zone.specs.Zones.{entries_at}
use Rattle.dns_zone.specs.Views.{owned_of}
use Rattle.dns_zone.specs.declared.zone.ZoneEntry.{ZoneEntry}

pub name_equiv : IsEquivalence same_name
name_equiv = lists_equiv (lists_equiv nat_eq_equiv)

abbrev pub Owners : Type 0 → Type 0
Owners Z = List (List (List ℕ) × Vec ZoneEntry Z)

module _ {Z : Type 0} where
  abbrev pub items_of : Option (Vec ZoneEntry Z) → List ZoneEntry
  items_of found = option_map_or (λ (entries : Vec ZoneEntry Z). entries.items) found []

  found-by : (name : List (List ℕ)) (entry : List (List ℕ) × Vec ZoneEntry Z) (entries : Owners Z) (test : Bool)
      → same_name name entry.0 ≡ test
      → entries_at (map owned_of entries) name ≡ items_of (lookup (same_name name) entries)
      → entries_at (map owned_of (entry ∷ entries)) name ≡ items_of (lookup (same_name name) (entry ∷ entries))
  found-by name entry entries true e others = rw (name_equiv.symm entry.0 name, e) refl
  found-by name entry entries false e others = rw (name_equiv.symm entry.0 name, e) others

  pub entries-found : (name : List (List ℕ)) (entries : Owners Z)
      → entries_at (map owned_of entries) name ≡ items_of (lookup (same_name name) entries)
  entries-found name [] = refl
  entries-found name (entry ∷ entries) = found-by name entry entries (same_name name entry.0) refl (entries-found name entries)

  -- where a new look-up finds what is behind the old one at this owner, and all else as before, the zone has one entry more
  grown-by : (owner name : List (List ℕ)) (old new : Owners Z) (after : Vec ZoneEntry Z) (entry : ZoneEntry) (test : Bool)
      → same_name owner name ≡ test → (IsTrue (same_name owner name) → owner ≡ name)
      → after.items ≡ items_of (lookup (same_name owner) old) ++ entry ∷ []
      → lookup (same_name name) new ≡ cond (same_name owner name) (Some after) (lookup (same_name name) old)
      → items_of (lookup (same_name name) new) ≡ items_of (lookup (same_name name) old) ++ (if same_name owner name then entry ∷ [] else [])
  grown-by owner name old new after entry true e same grown is =
      let here : owner ≡ name = same e in
      rw (is, e) (rw here at grown)
  grown-by owner name old new after entry false e same grown is = rw (is, e) (sym (append-nil _))

  pub entries-grown : (owner : List (List ℕ)) (old new : Owners Z) (after : Vec ZoneEntry Z) (entry : ZoneEntry)
      → ((name : List (List ℕ)) → IsTrue (same_name owner name) ↔ (owner ≡ name))
      → after.items ≡ items_of (lookup (same_name owner) old) ++ entry ∷ []
      → ((name : List (List ℕ)) → lookup (same_name name) new ≡ cond (same_name owner name) (Some after) (lookup (same_name name) old))
      → (name : List (List ℕ))
      → entries_at (map owned_of new) name ≡ entries_at (map owned_of old) name ++ (if same_name owner name then entry ∷ [] else [])
  entries-grown owner old new after entry same grown is name =
      let all = grown-by owner name old new after entry (same_name owner name) refl (same name).0 grown (is name) in
      rw (entries-found name new, entries-found name old) all
