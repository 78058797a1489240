-- The records of an answer, kept as they stand in a section.
use Rattle.std.specs.Prelude.{ℕ, Bool, List, take, Option, Some, None, is_some, if◌then◌else◌}
use Rattle.std.specs.List.{filter, filter_map}
use Rattle.dns_message.specs.declared.kind.Kind.{Kind}
use Rattle.dns_message.specs.declared.kind.Kind.TheVariants as kind
use Rattle.dns_message.specs.declared.naptr.NaptrRecord.{NaptrRecord}
use Rattle.dns_message.specs.declared.srv.SrvRecord.{SrvRecord}
use Rattle.dns_message.specs.declared.rdata.Rdata.{Rdata}
use Rattle.dns_message.specs.declared.rdata.Rdata.TheVariants.{Addr4, Addr6, Srv, Naptr}
use Rattle.dns_message.specs.declared.resource.Record.{Record}
use Rattle.dns_name.specs.Labels.{same_name}
use Rattle.dns_answers.specs.declared.records.Records.{Records}
use Rattle.dns_answers.specs.declared.records.Records.TheVariants as records

-- ---- the data of each kind, which is of class IN

-- the octets of an IPv4 address, where the data is one
abbrev pub address4_in : Rdata → Option (List ℕ)
address4_in (Addr4 octets) = Some octets
address4_in _ = None

-- the octets of an IPv6 address, where the data is one
abbrev pub address6_in : Rdata → Option (List ℕ)
address6_in (Addr6 octets) = Some octets
address6_in _ = None

-- the server of an SRV record, where the data is one
abbrev pub server_in : Rdata → Option SrvRecord
server_in (Srv server) = Some server
server_in _ = None

-- the rule of a NAPTR record, where the data is one
abbrev pub rule_in : Rdata → Option NaptrRecord
rule_in (Naptr rule) = Some rule
rule_in _ = None

-- ---- the records of a kind

-- the data of this kind that a record has, where it is of this name
abbrev pub data_for : {X : Type 0} → (Rdata → Option X) → List (List ℕ) → Record → Option X
data_for data_in name entry = if same_name entry.owner name then data_in entry.rdata else None

-- a record is of this name, and has data of this kind
abbrev pub has_data : {X : Type 0} → (Rdata → Option X) → List (List ℕ) → Record → Bool
has_data data_in name entry = is_some (data_for data_in name entry)

-- the first 32 records that have data of this kind for this name, in the order of the section
abbrev pub kept_with : {X : Type 0} → (Rdata → Option X) → List (List ℕ) → List Record → List Record
kept_with data_in name section = take 32 (filter (has_data data_in name) section)

-- the data of this kind that records have, in their order
abbrev pub data_of : {X : Type 0} → (Rdata → Option X) → List Record → List X
data_of data_in entries = filter_map (λ (entry : Record). data_in entry.rdata) entries

-- the first 32 records of a kind that a section has for a name
abbrev pub kept : Kind → List (List ℕ) → List Record → List Record
kept kind.A name section = kept_with address4_in name section
kept kind.Aaaa name section = kept_with address6_in name section
kept kind.Srv name section = kept_with server_in name section
kept kind.Naptr name section = kept_with rule_in name section

-- the data of the records that are kept, by the kind of the question
abbrev pub records_of : Kind → List Record → Records
records_of kind.A entries = records.V4 (data_of address4_in entries)
records_of kind.Aaaa entries = records.V6 (data_of address6_in entries)
records_of kind.Srv entries = records.Srv (data_of server_in entries)
records_of kind.Naptr entries = records.Naptr (data_of rule_in entries)
