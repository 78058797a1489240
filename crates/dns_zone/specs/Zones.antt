-- The records of a zone, and where its aliases lead (RFC 1034 3.6, 3.6.2).
use Rattle.std.specs.Prelude.{◌≡◌, ◌≤◌, ◌⊎◌, length, ℕ, zero, suc, List, [], ◌∷◌, map, Option, slice_get}
use Rattle.std.specs.List.{All, filter_map, find}
use Rattle.std.specs.Option.{option_map, option_map_or}
use Rattle.dns_message.specs.declared.rdata.Rdata.TheVariants.{Cname}
use Rattle.dns_message.specs.declared.resource.Record.{Record}
use Rattle.dns_answers.specs.Chains.{Chain, IsFirstCname, IsNoCname, behind, canonical_in, ends_at}
use Rattle.dns_name.specs.Labels.{same_name}
use Rattle.dns_zone.specs.declared.zone.ZoneEntry.{ZoneEntry}

-- an owner, and what each of its records says, in the order of the zone
pub record Owned : Type 0 where
  pub owner : List (List ℕ)
  pub entries : List ZoneEntry

-- ---- the records of a name

-- what the zone has for a name
abbrev pub entries_at : List Owned → List (List ℕ) → List ZoneEntry
entries_at zone name =
    option_map_or
    (λ (owned : Owned). owned.entries)
    (find (λ (owned : Owned). same_name owned.owner name) zone) []

-- the record of an owner that says this
abbrev pub record_of : List (List ℕ) → ZoneEntry → Record
record_of owner entry = record { owner = owner; ttl = entry.ttl; rdata = entry.rdata }

-- the records that a zone has at a name
abbrev pub records_at : List Owned → List (List ℕ) → List Record
records_at zone name = map (record_of name) (entries_at zone name)

-- ---- where aliases lead

-- a CNAME, as a zone has it: its TTL, and the canonical name
pub record ZoneCname : Type 0 where
  pub ttl : ℕ
  pub target : List (List ℕ)

-- the alias that an entry of a zone is, where its data is that of a CNAME record
abbrev pub cname_in : ZoneEntry → Option ZoneCname
cname_in entry =
    option_map (λ (target : List (List ℕ)). record { ttl = entry.ttl; target = target })
    (canonical_in entry.rdata)

-- the first CNAME record among the entries of a name
abbrev pub first_cname : List ZoneEntry → Option ZoneCname
first_cname entries = slice_get (filter_map cname_in entries) 0

-- the CNAME record of a name that says this
abbrev pub link_of : List (List ℕ) → ZoneCname → Record
link_of name cname = record { owner = name; ttl = cname.ttl; rdata = Cname cname.target }

-- the CNAME records from a name on, the first of each name, until a name has none or there are as
-- many as the limit says; and the last name
unfoldable pub path_within : ℕ → List Owned → List (List ℕ) → Chain
path_within zero zone name = ends_at name
path_within (suc more) zone name =
    option_map_or
    (λ (cname : ZoneCname). behind (link_of name cname) (path_within more zone cname.target))
    (first_cname (entries_at zone name)) (ends_at name)

-- the CNAME records from a name on, at most eight, and the last name
abbrev pub path : List Owned → List (List ℕ) → Chain
path zone name = path_within 8 zone name

-- ---- the same as a relation (RFC 1034 3.6.2)

-- these CNAME records of the zone lead from the first name to the other one, each the first of its
-- name
pub data Follows (zone : List Owned) : List (List ℕ) → List Record → List (List ℕ) → Type 0 where
  stays : {name last : List (List ℕ)} → last ≡ name → Follows zone name [] last
  leads : {name last : List (List ℕ)} {entry : Record} {others : List Record}
      (target : List (List ℕ))
      → IsFirstCname (records_at zone name) name entry target → Follows zone target others last
      → Follows zone name (entry ∷ others) last

-- these CNAME records lead from the name to one that has none, or there are as many as the limit
-- says
pub record IsPath (limit : ℕ) (zone : List Owned) (name : List (List ℕ))
    (found : Chain) : Type 0 where
  pub follows : Follows zone name found.links found.last
  pub short : length found.links ≤ limit
  pub ends : All (IsNoCname found.last) (records_at zone found.last) ⊎ (length found.links ≡ limit)
