-- The octets of a message in which no name ends in a pointer (RFC 1035 4.1).
use Rattle.std.specs.Prelude.{ℕ, ◌+◌, ◌*◌, nat_le, true, false, List, [], ◌∷◌, ◌++◌, length, if◌then◌else◌}
use Rattle.std.specs.Int.{w16, w32, to_be_bytes}
use Rattle.std.specs.List.{flat_map}
use Rattle.dns_name.specs.Labels.{wire_of}
use Rattle.dns_message.specs.Headers.{bit}
use Rattle.dns_message.specs.Kinds.{type_of_kind}
use Rattle.dns_message.specs.declared.header.Header.{Header}
use Rattle.dns_message.specs.declared.message.Message.{Message}
use Rattle.dns_message.specs.declared.naptr.NaptrRecord.{NaptrRecord}
use Rattle.dns_message.specs.declared.question.Asked.{Asked}
use Rattle.dns_message.specs.declared.question.Question.{Question}
use Rattle.dns_message.specs.declared.rdata.Rdata.{Rdata}
use Rattle.dns_message.specs.declared.rdata.Rdata.TheVariants.{Addr4, Addr6, Srv, Naptr, Cname, Soa, Other}
use Rattle.dns_message.specs.declared.resource.Record.{Record}
use Rattle.dns_message.specs.declared.soa.SoaRecord.{SoaRecord}
use Rattle.dns_message.specs.declared.srv.SrvRecord.{SrvRecord}

-- ---- numbers, the highest octet first (RFC 1035 2.3.2); of one that is too large, its low octets

-- the two octets of a number
unfoldable pub two_octets : ℕ → List ℕ
two_octets number = to_be_bytes w16 number

-- the four octets of a number
unfoldable pub four_octets : ℕ → List ℕ
four_octets number = to_be_bytes w32 number

-- ---- data

-- the octets of a character string: how many it has, and these (RFC 1035 3.3)
unfoldable pub string_octets : List ℕ → List ℕ
string_octets string = length string ∷ string

-- the octets of SRV data: priority, weight, port and target (RFC 2782)
unfoldable pub srv_octets : SrvRecord → List ℕ
srv_octets server =
    two_octets server.priority ++ two_octets server.weight ++ two_octets server.port
    ++ wire_of server.target

-- the octets of NAPTR data: ORDER, PREFERENCE, FLAGS, SERVICES, REGEXP and REPLACEMENT (RFC 3403
-- 4.1)
unfoldable pub naptr_octets : NaptrRecord → List ℕ
naptr_octets rule =
    two_octets rule.order ++ two_octets rule.preference
    ++ string_octets rule.flags ++ string_octets rule.services ++ string_octets rule.regexp
    ++ wire_of rule.replacement

-- the octets of SOA data: MNAME, RNAME, SERIAL, REFRESH, RETRY, EXPIRE and MINIMUM (RFC 1035
-- 3.3.13)
unfoldable pub soa_octets : SoaRecord → List ℕ
soa_octets authority =
    wire_of authority.mname ++ wire_of authority.rname
    ++ four_octets authority.serial ++ four_octets authority.refresh ++ four_octets authority.retry
    ++ four_octets authority.expire ++ four_octets authority.minimum

-- the octets of RDATA: of an address its own (RFC 1035 3.4.1, 3596 2.2), of an alias those of its
-- canonical name (RFC 1035 3.3.1)
abbrev pub rdata_octets : Rdata → List ℕ
rdata_octets (Addr4 octets) = octets
rdata_octets (Addr6 octets) = octets
rdata_octets (Srv server) = srv_octets server
rdata_octets (Naptr rule) = naptr_octets rule
rdata_octets (Cname name) = wire_of name
rdata_octets (Soa authority) = soa_octets authority
rdata_octets (Other other) = other.octets

-- the number of the type of data (RFC 1035 3.2.2, 3596 2.1, 2782, 3403 4.1)
abbrev pub type_of_rdata : Rdata → ℕ
type_of_rdata (Addr4 octets) = 1
type_of_rdata (Addr6 octets) = 28
type_of_rdata (Srv server) = 33
type_of_rdata (Naptr rule) = 35
type_of_rdata (Cname name) = 5
type_of_rdata (Soa authority) = 6
type_of_rdata (Other other) = other.type_number

-- the number of the class of data: that of IN is 1, and other data has its own (RFC 1035 3.2.4)
abbrev pub rdata_class : Rdata → ℕ
rdata_class (Addr4 octets) = 1
rdata_class (Addr6 octets) = 1
rdata_class (Srv server) = 1
rdata_class (Naptr rule) = 1
rdata_class (Cname name) = 1
rdata_class (Soa authority) = 1
rdata_class (Other other) = other.class_number

-- ---- questions and records

-- the octets of a question: QNAME, QTYPE and QCLASS (RFC 1035 4.1.2)
unfoldable pub question_octets : Asked → List ℕ
question_octets asked = wire_of asked.name ++ two_octets asked.type_number ++ two_octets
    asked.class_number

-- the octets of a record: NAME, TYPE, CLASS, TTL, RDLENGTH and RDATA (RFC 1035 4.1.3)
unfoldable pub record_octets : Record → List ℕ
record_octets entry =
    wire_of entry.owner ++ two_octets (type_of_rdata entry.rdata)
    ++ two_octets (rdata_class entry.rdata)
    ++ four_octets entry.ttl
    ++ two_octets (length (rdata_octets entry.rdata)) ++ rdata_octets entry.rdata

-- ---- the header (RFC 1035 4.1.1)

-- the octet of QR, OPCODE, AA, TC and RD, from the highest bit down
abbrev pub high_flags : Header → ℕ
high_flags header =
    128 * bit header.reply + 8 * header.opcode + 4 * bit header.authoritative
    + 2 * bit header.truncated + bit header.recursion_desired

-- the octet of RA, the three bits of Z, which are 0, and RCODE
abbrev pub low_flags : Header → ℕ
low_flags header = 128 * bit header.recursion_available + header.rcode

-- the octets of ID and the flags
unfoldable pub header_octets : Header → List ℕ
header_octets header = two_octets header.id ++ high_flags header ∷ low_flags header ∷ []

-- the octets of QDCOUNT, ANCOUNT, NSCOUNT and ARCOUNT
unfoldable pub count_octets : ℕ → ℕ → ℕ → ℕ → List ℕ
count_octets questions answers authority additional =
    two_octets questions ++ two_octets answers ++ two_octets authority ++ two_octets additional

-- ---- messages

-- The octets of a message in which no name ends in a pointer and the bits of Z are 0: the header,
-- the questions, the answers, the authority and the additional records (RFC 1035 3.1, 3.3, 4.1).
unfoldable pub plain : Message → List ℕ
plain message =
    header_octets message.header
    ++ count_octets (length message.questions) (length message.answers)
    (length message.authority) (length message.additional)
    ++ flat_map question_octets message.questions
    ++ flat_map record_octets message.answers
    ++ flat_map record_octets message.authority
    ++ flat_map record_octets message.additional

-- a message with TC set and without records, in place of one that was too long (RFC 1035 4.1.1,
-- 2181 9)
abbrev pub cut : Message → Message
cut message = record {
  header = record message.header { truncated = true };
  questions = message.questions;
  answers = [];
  authority = [];
  additional = [];
}

-- the message that is sent of a reply: at most 512 octets go into one datagram (RFC 1035 4.2.1)
abbrev pub fitted : Message → Message
fitted message = if nat_le (length (plain message)) 512 then message else cut message

-- a question in class IN (1), as a message has it
abbrev pub asked_of : Question → Asked
asked_of question = record {
  name = question.name;
  type_number = type_of_kind question.kind;
  class_number = 1;
}

-- a query: one question, with RD set (RFC 1035 4.1.1, 4.1.2)
abbrev pub query_of : ℕ → Question → Message
query_of id question = record {
  header = record {
    id = id;
    reply = false;
    opcode = 0;
    authoritative = false;
    truncated = false;
    recursion_desired = true;
    recursion_available = false;
    rcode = 0;
  };
  questions = asked_of question ∷ [];
  answers = [];
  authority = [];
  additional = [];
}
