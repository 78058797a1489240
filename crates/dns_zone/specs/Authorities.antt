-- The SOA record that a zone has about a name (RFC 1035 3.3.13, RFC 2308 3).
use Rattle.std.specs.Prelude.{◌≡◌, ℕ, ◌<◌, ◌==◌, Bool, List, [], ◌∷◌, ◌++◌, length, take}
use Rattle.std.specs.List.{filter, flat_map}
use Rattle.dns_message.specs.Written.{type_of_rdata}
use Rattle.dns_message.specs.declared.resource.Record.{Record}
use Rattle.dns_zone.specs.Zones.{Owned, records_at}

-- a record is of this type
abbrev pub is_of : ℕ → Record → Bool
is_of type_number entry = type_of_rdata entry.rdata == type_number

-- the records of a type that a name has, in the order of the zone
abbrev pub records_of : List Owned → List (List ℕ) → ℕ → List Record
records_of zone name type_number = filter (is_of type_number) (records_at zone name)

-- the SOA records of a name
abbrev pub starts_at : List Owned → List (List ℕ) → List Record
starts_at zone name = records_of zone name 6

-- a name, and those above it up to the root
abbrev pub upwards : List (List ℕ) → List (List (List ℕ))
upwards [] = [] ∷ []
upwards (label ∷ labels) = (label ∷ labels) ∷ upwards labels

-- the first of all SOA records of the name and of those above it, the nearest name's in front
abbrev pub nearest_start : List Owned → List (List ℕ) → List Record
nearest_start zone name = take 1 (flat_map (starts_at zone) (upwards name))

-- ---- the same as a relation (RFC 2308 3: of the zone that the name is in)

-- The owner of this SOA record is the longest suffix of the name, or the name itself, that has one,
-- and it is the first of its owner.
pub record IsNearestStart (zone : List Owned) (name : List (List ℕ)) (start : Record) : Type 0 where
  pub front : List (List ℕ)
  pub suffix : name ≡ front ++ start.owner
  pub others : List Record
  pub first : starts_at zone start.owner ≡ start ∷ others
  pub longest : (labels owner : List (List ℕ)) → name ≡ labels ++ owner
      → length start.owner < length owner → starts_at zone owner ≡ []
