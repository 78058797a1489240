-- Aliases, followed inside a section (RFC 1034 3.6.2, 5.2.2).
use Rattle.std.specs.Prelude.{◌≡◌, ◌≤◌, ℕ, zero, suc, List, [], ◌∷◌, ◌++◌, length, Option, Some, None, slice_get, if◌then◌else◌}
use Rattle.std.specs.List.{All, filter_map}
use Rattle.std.specs.Option.{option_map, option_map_or}
use Rattle.dns_message.specs.declared.rdata.Rdata.{Rdata}
use Rattle.dns_message.specs.declared.rdata.Rdata.TheVariants.{Cname}
use Rattle.dns_message.specs.declared.resource.Record.{Record}
use Rattle.dns_name.specs.Labels.{same_name}

-- a CNAME record, and the canonical name that it gives its owner
pub record CnameRecord : Type 0 where
  pub entry : Record
  pub target : List (List ℕ)

-- CNAME records, each about the target of the one before, and the name where they end
pub record Chain : Type 0 where
  pub links : List Record
  pub last : List (List ℕ)

-- ---- which record leads on

-- the canonical name that data gives, where it is that of a CNAME record (RFC 1035 3.3.1)
abbrev pub canonical_in : Rdata → Option (List (List ℕ))
canonical_in (Cname target) = Some target
canonical_in _ = None

-- a record as an alias, where it is a CNAME record of this name
abbrev pub cname_of : List (List ℕ) → Record → Option CnameRecord
cname_of name entry =
    if same_name entry.owner name
    then option_map
    (λ (target : List (List ℕ)). record { entry = entry; target = target })
    (canonical_in entry.rdata)
    else None

-- the first CNAME record of a name in a section, with its target (RFC 1034 3.6.2, RFC 2181 10.1)
abbrev pub first_cname : List (List ℕ) → List Record → Option CnameRecord
first_cname name section = slice_get (filter_map (cname_of name) section) 0

-- ---- where the records lead

-- the chain without a link, which ends at the name itself
abbrev pub ends_at : List (List ℕ) → Chain
ends_at name = record { links = []; last = name }

-- a chain with one CNAME record more, in front
abbrev pub behind : Record → Chain → Chain
behind link chain = record { links = link ∷ chain.links; last = chain.last }

-- the chain from a name, where it has at most this number of links
unfoldable pub chain_within : ℕ → List Record → List (List ℕ) → Option Chain
chain_within zero section name =
    option_map_or (λ (cname : CnameRecord). None) (first_cname name section) (Some (ends_at name))
chain_within (suc more) section name =
    option_map_or
    (λ (cname : CnameRecord). option_map (behind cname.entry)
    (chain_within more section cname.target))
    (first_cname name section) (Some (ends_at name))

-- the CNAME records that are followed from a name, at most eight, and the name where they end; none
-- where there are more (RFC 1034 3.6.2, 5.2.2)
abbrev pub chain : List Record → List (List ℕ) → Option Chain
chain section name = chain_within 8 section name

-- ---- the same as relations

-- a record is no CNAME record of this name
abbrev pub IsNoCname : List (List ℕ) → Record → Type 0
IsNoCname name entry = (target : List (List ℕ)) → entry.owner ≡ name → entry.rdata ≡ Cname target
    → ⊥

-- a record is the first CNAME record of this name in the section, with this target
pub record IsFirstCname (section : List Record) (name : List (List ℕ)) (entry : Record)
    (target : List (List ℕ)) : Type 0 where
  pub front : List Record
  pub back : List Record
  pub stands : section ≡ front ++ entry ∷ back
  pub owner : entry.owner ≡ name
  pub cname : entry.rdata ≡ Cname target
  pub first : All (IsNoCname name) front

-- these CNAME records lead from the first name to the other one, each the first of its owner
pub data Follows (section : List Record) : List (List ℕ) → List Record → List (List ℕ)
    → Type 0 where
  stays : {name last : List (List ℕ)} → last ≡ name → Follows section name [] last
  leads : {name last : List (List ℕ)} {entry : Record} {others : List Record}
      (target : List (List ℕ))
      → IsFirstCname section name entry target → Follows section target others last
      → Follows section name (entry ∷ others) last

-- these CNAME records, at most eight, lead from the name to one that has no CNAME record
pub record IsChain (section : List Record) (name : List (List ℕ)) (chain : Chain) : Type 0 where
  pub follows : Follows section name chain.links chain.last
  pub ends : All (IsNoCname chain.last) section
  pub short : length chain.links ≤ 8

-- nine CNAME records can be followed from the name
pub record IsTooLong (section : List Record) (name : List (List ℕ)) : Type 0 where
  pub links : List Record
  pub last : List (List ℕ)
  pub follows : Follows section name links last
  pub nine : length links ≡ 9
