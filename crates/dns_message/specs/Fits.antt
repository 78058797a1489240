-- What the types of a message's parts keep, so that octets can say it: numbers that fit, names, and
-- strings and addresses of their length.
use Rattle.std.specs.Prelude.{◌≡◌, ◌^◌, ◌<◌, ◌≤◌, length}
use Rattle.std.specs.List.{AllByRecursion}
use Rattle.dns_name.specs.Labels.{IsName}
use Rattle.dns_message.specs.Data.{CanBeOther}
use Rattle.dns_message.specs.Written.{type_of_rdata, rdata_class}
use Rattle.dns_message.specs.declared.header.Header.{Header}
use Rattle.dns_message.specs.declared.message.Message.{Message}
use Rattle.dns_message.specs.declared.naptr.NaptrRecord.{NaptrRecord}
use Rattle.dns_message.specs.declared.question.Asked.{Asked}
use Rattle.dns_message.specs.declared.rdata.Rdata.{Rdata}
use Rattle.dns_message.specs.declared.rdata.Rdata.TheVariants.{Addr4, Addr6, Srv, Naptr, Cname, Soa, Other}
use Rattle.dns_message.specs.declared.resource.Record.{Record}
use Rattle.dns_message.specs.declared.soa.SoaRecord.{SoaRecord}
use Rattle.dns_message.specs.declared.srv.SrvRecord.{SrvRecord}

-- SRV data fits: its numbers are below 2^16, and its target is a name (RFC 2782)
pub record SrvFits (server : SrvRecord) : Type 0 where
  pub priority : server.priority < 2 ^ 16
  pub weight : server.weight < 2 ^ 16
  pub port : server.port < 2 ^ 16
  pub target : IsName server.target

-- NAPTR data fits: its numbers are below 2^16, its strings have at most 255 octets, and its
-- replacement is a name (RFC 3403 4.1)
pub record NaptrFits (rule : NaptrRecord) : Type 0 where
  pub order : rule.order < 2 ^ 16
  pub preference : rule.preference < 2 ^ 16
  pub flags : length rule.flags ≤ 255
  pub services : length rule.services ≤ 255
  pub regexp : length rule.regexp ≤ 255
  pub replacement : IsName rule.replacement

-- SOA data fits: its names are names, and its numbers are below 2^32 (RFC 1035 3.3.13)
pub record SoaFits (authority : SoaRecord) : Type 0 where
  pub mname : IsName authority.mname
  pub rname : IsName authority.rname
  pub serial : authority.serial < 2 ^ 32
  pub refresh : authority.refresh < 2 ^ 32
  pub retry : authority.retry < 2 ^ 32
  pub expire : authority.expire < 2 ^ 32
  pub minimum : authority.minimum < 2 ^ 32

-- RDATA fits: an address has 4 or 16 octets, a name is a name, and other data fits by its own
-- definition
abbrev pub RdataFits : Rdata → Type 0
RdataFits (Addr4 octets) = length octets ≡ 4
RdataFits (Addr6 octets) = length octets ≡ 16
RdataFits (Srv server) = SrvFits server
RdataFits (Naptr rule) = NaptrFits rule
RdataFits (Cname name) = IsName name
RdataFits (Soa authority) = SoaFits authority
RdataFits (Other other) = CanBeOther other.type_number other.class_number other.octets

-- a record fits: its owner is a name, TYPE and CLASS are below 2^16, TTL is below 2^32, and its
-- data fits (RFC 1035 4.1.3)
pub record RecordFits (entry : Record) : Type 0 where
  pub owner : IsName entry.owner
  pub type_number : type_of_rdata entry.rdata < 2 ^ 16
  pub class_number : rdata_class entry.rdata < 2 ^ 16
  pub ttl : entry.ttl < 2 ^ 32
  pub rdata : RdataFits entry.rdata

-- a question fits: QNAME is a name, and QTYPE and QCLASS are below 2^16 (RFC 1035 4.1.2)
pub record QuestionFits (asked : Asked) : Type 0 where
  pub name : IsName asked.name
  pub type_number : asked.type_number < 2 ^ 16
  pub class_number : asked.class_number < 2 ^ 16

-- a header fits: ID is below 2^16, and OPCODE and RCODE are below 16 (RFC 1035 4.1.1)
pub record HeaderFits (header : Header) : Type 0 where
  pub id : header.id < 2 ^ 16
  pub opcode : header.opcode < 16
  pub rcode : header.rcode < 16

-- Each part of a message fits: numbers have their width, names are names, strings and addresses
-- have their length, and OPCODE and RCODE are below 16. All of this but OPCODE and RCODE is what
-- the types of the parts keep.
pub record MessageFits (message : Message) : Type 0 where
  pub header : HeaderFits message.header
  pub questions : AllByRecursion QuestionFits message.questions
  pub answers : AllByRecursion RecordFits message.answers
  pub authority : AllByRecursion RecordFits message.authority
  pub additional : AllByRecursion RecordFits message.additional
