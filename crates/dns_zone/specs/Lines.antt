-- The lines of a zone's text, and the records that they say (RFC 1035 5.1, in a form of its own).
use Rattle.std.specs.Prelude.{◌≡◌, ℕ, ◌+◌, ◌==◌, ◌⊎◌, nat_le, nat_lt, Bool, ◌&&◌, ◌||◌, not, true, false, List, [], ◌∷◌, ◌++◌, length, codes, Option, Some, None, if◌then◌else◌}
use Rattle.std.specs.Char.{is_ascii_digit}
use Rattle.std.specs.List.{filter, list_all, slice_split}
use Rattle.std.specs.Str.{bytes_eq}
use Rattle.dns_message.specs.declared.naptr.NaptrRecord.{NaptrRecord}
use Rattle.dns_message.specs.declared.rdata.Rdata.{Rdata}
use Rattle.dns_message.specs.declared.rdata.Rdata.TheVariants.{Addr4, Addr6, Srv, Naptr, Cname, Soa, Other}
use Rattle.dns_message.specs.declared.resource.Record.{Record}
use Rattle.dns_message.specs.declared.soa.SoaRecord.{SoaRecord}
use Rattle.dns_message.specs.declared.srv.SrvRecord.{SrvRecord}
use Rattle.dns_name.specs.Labels.{same_name}
use Rattle.dns_name.specs.Texts.{TextOf}
use Rattle.ip_text.specs.Addresses.{AddressText}
use Rattle.ip_text.specs.Numbers.{decimal}
use Rattle.ip_text.specs.declared.address.Address.TheVariants as address
use Rattle.dns_zone.specs.Zones.{Owned, records_at}

-- ---- fields

-- a text is a field: it is not empty
abbrev pub is_field : List ℕ → Bool
is_field text = not (length text == 0)

-- the fields of a text: its runs of octets between blanks
abbrev pub fields_of : List ℕ → List (List ℕ)
fields_of line = filter is_field (slice_split (λ octet. octet == 32) line)

-- the number that one or more decimal digits spell, up to a limit
abbrev pub number_of : ℕ → List ℕ → Option ℕ
number_of limit text =
    if length text == 0 || not (list_all is_ascii_digit text) || nat_lt limit (decimal text)
    then None else Some (decimal text)

-- an octet is from 33 to 126
abbrev pub is_graphic : ℕ → Bool
is_graphic octet = nat_le 33 octet && nat_le octet 126

-- the character string of a field: of `-` alone the empty one, else its octets, at most 255
abbrev pub string_of : List ℕ → Option (List ℕ)
string_of text =
    if bytes_eq text (codes "-") then Some [] else
    (if nat_le (length text) 255 && list_all is_graphic text then Some text else None)

-- ---- data

-- the fields of SRV data: priority, weight, port and target (RFC 2782)
pub record SrvFields (fields : List (List ℕ)) (server : SrvRecord) : Type 0 where
  pub priority : List ℕ
  pub weight : List ℕ
  pub port : List ℕ
  pub target : List ℕ
  pub are : fields ≡ priority ∷ weight ∷ port ∷ target ∷ []
  pub priority_is : number_of 65535 priority ≡ Some server.priority
  pub weight_is : number_of 65535 weight ≡ Some server.weight
  pub port_is : number_of 65535 port ≡ Some server.port
  pub target_is : TextOf server.target target

-- the fields of NAPTR data: order, preference, flags, services, regular expression and replacement
-- (RFC 3403 4.1)
pub record NaptrFields (fields : List (List ℕ)) (rule : NaptrRecord) : Type 0 where
  pub order : List ℕ
  pub preference : List ℕ
  pub flags : List ℕ
  pub services : List ℕ
  pub regexp : List ℕ
  pub replacement : List ℕ
  pub are : fields ≡ order ∷ preference ∷ flags ∷ services ∷ regexp ∷ replacement ∷ []
  pub order_is : number_of 65535 order ≡ Some rule.order
  pub preference_is : number_of 65535 preference ≡ Some rule.preference
  pub flags_are : string_of flags ≡ Some rule.flags
  pub services_are : string_of services ≡ Some rule.services
  pub regexp_is : string_of regexp ≡ Some rule.regexp
  pub replacement_is : TextOf rule.replacement replacement

-- the fields of SOA data: MNAME, RNAME, SERIAL, REFRESH, RETRY, EXPIRE and MINIMUM (RFC 1035
-- 3.3.13)
pub record SoaFields (fields : List (List ℕ)) (authority : SoaRecord) : Type 0 where
  pub mname : List ℕ
  pub rname : List ℕ
  pub serial : List ℕ
  pub refresh : List ℕ
  pub retry : List ℕ
  pub expire : List ℕ
  pub minimum : List ℕ
  pub are : fields ≡ mname ∷ rname ∷ serial ∷ refresh ∷ retry ∷ expire ∷ minimum ∷ []
  pub mname_is : TextOf authority.mname mname
  pub rname_is : TextOf authority.rname rname
  pub serial_is : number_of 4294967295 serial ≡ Some authority.serial
  pub refresh_is : number_of 4294967295 refresh ≡ Some authority.refresh
  pub retry_is : number_of 4294967295 retry ≡ Some authority.retry
  pub expire_is : number_of 4294967295 expire ≡ Some authority.expire
  pub minimum_is : number_of 4294967295 minimum ≡ Some authority.minimum

-- there is one field alone, which is this
abbrev pub OneField : (List ℕ → Type 0) → List (List ℕ) → Type 0
OneField Is fields = (text : List ℕ) × (fields ≡ text ∷ []) × Is text

-- the fields after an owner and a TTL: a type, and what its data needs
abbrev pub DataFields : List ℕ → List (List ℕ) → Rdata → Type 0
DataFields kind fields (Addr4 octets) =
    (kind ≡ codes "A") × OneField (λ text. AddressText text (address.V4 octets)) fields
DataFields kind fields (Addr6 octets) =
    (kind ≡ codes "AAAA") × OneField (λ text. AddressText text (address.V6 octets)) fields
DataFields kind fields (Cname name) = (kind ≡ codes "CNAME") × OneField (TextOf name) fields
DataFields kind fields (Srv server) = (kind ≡ codes "SRV") × SrvFields fields server
DataFields kind fields (Naptr rule) = (kind ≡ codes "NAPTR") × NaptrFields fields rule
DataFields kind fields (Soa authority) = (kind ≡ codes "SOA") × SoaFields fields authority
DataFields kind fields (Other other) = ⊥

-- ---- records

-- the fields say this record: owner, TTL, type and data (RFC 1035 3.2.1, 3.4.1, 3.3.1, 3.3.13, RFC
-- 3596 2.1, RFC 3403 4.1)
pub record RecordFields (fields : List (List ℕ)) (entry : Record) : Type 0 where
  pub owner : List ℕ
  pub ttl : List ℕ
  pub kind : List ℕ
  pub others : List (List ℕ)
  pub are : fields ≡ owner ∷ ttl ∷ kind ∷ others
  pub owner_is : TextOf entry.owner owner
  pub ttl_is : number_of 4294967295 ttl ≡ Some entry.ttl
  pub rdata_is : DataFields kind others entry.rdata

-- ---- lines

-- a line is a comment: it begins with `#`
abbrev pub is_comment : List ℕ → Bool
is_comment [] = false
is_comment (first ∷ others) = first == 35

-- the record that a line says; a comment says none, and neither does a line without octets
abbrev pub LineSays : List ℕ → Option Record → Type 0
LineSays line None = (is_comment line ≡ true) ⊎ (line ≡ [])
LineSays line (Some entry) = (is_comment line ≡ false) × RecordFields (fields_of line) entry

-- the records that lines say, in their order
abbrev pub LinesSay : List (List ℕ) → List Record → Type 0
LinesSay [] records = records ≡ []
LinesSay (line ∷ lines) records =
    (LineSays line None × LinesSay lines records)
    ⊎ ((entry : Record) × (others : List Record) × (records ≡ entry ∷ others)
    × LineSays line (Some entry) × LinesSay lines others)

-- the line of this number, from 1, is the first that neither says a record nor may say none
pub record IsFirstBad (lines : List (List ℕ)) (number : ℕ) : Type 0 where
  pub front : List (List ℕ)
  pub line : List ℕ
  pub back : List (List ℕ)
  pub stands : lines ≡ front ++ line ∷ back
  pub number_is : number ≡ length front + 1
  pub records : List Record
  pub good : LinesSay front records
  pub bad : (said : Option Record) → LineSays line said → ⊥

-- for each name the zone has those of the records that are about it, in their order
abbrev pub Holds : List Owned → List Record → Type 0
Holds zone records = (name : List (List ℕ))
    → records_at zone name ≡ filter (λ (entry : Record). same_name entry.owner name) records

-- a line is to say a record: it is no comment, and has fields
pub record IsEntryLine (line : List ℕ) : Type 0 where
  pub plain : is_comment line ≡ false
  pub some : fields_of line ≡ [] → ⊥
