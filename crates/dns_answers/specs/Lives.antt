-- For how many seconds an answer may be kept.
use Rattle.std.specs.Prelude.{◌≡◌, ℕ, ◌≤◌, min, nat_le, List, [], ◌∷◌, ◌++◌, map, Option, Some, None, slice_get, if◌then◌else◌}
use Rattle.std.specs.List.{All, Contains, filter_map, fold}
use Rattle.std.specs.Option.{option_map, unwrap_or}
use Rattle.dns_message.specs.declared.message.Message.{Message}
use Rattle.dns_message.specs.declared.rdata.Rdata.{Rdata}
use Rattle.dns_message.specs.declared.rdata.Rdata.TheVariants.{Soa}
use Rattle.dns_message.specs.declared.resource.Record.{Record}
use Rattle.dns_message.specs.declared.soa.SoaRecord.{SoaRecord}
use Rattle.dns_answers.specs.Chains.{Chain}

-- how long a record lasts, by its TTL: a TTL of 2^31 or more counts as 0 (RFC 2181 8)
abbrev pub effective_ttl : ℕ → ℕ
effective_ttl ttl = if nat_le ttl 2147483647 then ttl else 0

-- how long records last together, by their TTLs: as long as the one that lasts least (of one set:
-- RFC 2181 5.2), and no longer than a limit
abbrev pub least_from : ℕ → List ℕ → ℕ
least_from limit ttls = fold min limit (map effective_ttl ttls)

-- the TTLs of records, in their order
abbrev pub ttls : List Record → List ℕ
ttls entries = map (λ (entry : Record). entry.ttl) entries

-- ---- that there is no record (RFC 2308 3, 5)

-- the data of an SOA record, where the data is one
abbrev pub authority_in : Rdata → Option SoaRecord
authority_in (Soa authority) = Some authority
authority_in _ = None

-- the TTL that an SOA record gives to negative answers: its MINIMUM, and no longer than the record
-- lasts itself
abbrev pub negative_ttl : Record → Option ℕ
negative_ttl entry =
    option_map (λ (authority : SoaRecord). min authority.minimum (effective_ttl entry.ttl))
    (authority_in entry.rdata)

-- the TTL that the first SOA record of a section gives to negative answers, whatever its owner; 0
-- where there is none
abbrev pub negative_ttl_of : List Record → ℕ
negative_ttl_of section = unwrap_or (slice_get (filter_map negative_ttl section) 0) 0

-- how long the absence of records may be kept, at the end of a chain: as long as the authority
-- section lets it, and as each record of the chain lasts; where the chain has no end, not at all
abbrev pub absent_life : Message → Option Chain → ℕ
absent_life message None = 0
absent_life message (Some chain) = least_from (negative_ttl_of message.authority) (ttls chain.links)

-- ---- the records of an answer, or that there are none

-- the CNAME records of a chain; none where the chain has no end
abbrev pub links_of : Option Chain → List Record
links_of None = []
links_of (Some chain) = chain.links

-- The life of an answer: the least of the TTLs of its records and of the CNAME records that led
-- there, and less than 2^31 seconds (RFC 2181 5.2, of one set of records); without records,
-- `absent_life`.
abbrev pub life_of : Message → Option Chain → List Record → ℕ
life_of message chain [] = absent_life message chain
life_of message chain (first ∷ others) =
    least_from 2147483647 (ttls (links_of chain ++ first ∷ others))

-- ---- the same as relations

-- a record is no SOA record of class IN
abbrev pub IsNoSoa : Record → Type 0
IsNoSoa entry = (authority : SoaRecord) → entry.rdata ≡ Soa authority → ⊥

-- a record is the first SOA record of a section, with this data (RFC 2308 5)
pub record IsFirstSoa (section : List Record) (entry : Record)
    (authority : SoaRecord) : Type 0 where
  pub front : List Record
  pub back : List Record
  pub stands : section ≡ front ++ entry ∷ back
  pub is : entry.rdata ≡ Soa authority
  pub first : All IsNoSoa front

-- a number is one of these, and none of them is less
pub record IsLeast (number : ℕ) (numbers : List ℕ) : Type 0 where
  pub among : Contains numbers number
  pub least : All (λ (other : ℕ). number ≤ other) numbers
