-- What is replied from a zone (RFC 1034 3.6.2, 4.3.2, RFC 1035 4.1.1, RFC 2308 3).
use Rattle.std.specs.Prelude.{◌≡◌, ℕ, ◌≤◌, ◌==◌, Bool, true, false, ◌&&◌, ◌||◌, List, [], ◌∷◌, ◌++◌, length, if◌then◌else◌}
use Rattle.dns_message.specs.Messages.{Begins, Spells}
use Rattle.dns_message.specs.Written.{fitted, plain}
use Rattle.dns_message.specs.declared.header.Header.{Header}
use Rattle.dns_message.specs.declared.message.Message.{Message}
use Rattle.dns_message.specs.declared.question.Asked.{Asked}
use Rattle.dns_message.specs.declared.resource.Record.{Record}
use Rattle.dns_zone.specs.Authorities.{nearest_start, records_of}
use Rattle.dns_zone.specs.Zones.{Owned, entries_at, path}
use Rattle.dns_zone.specs.declared.zone.ZoneEntry.{ZoneEntry}

-- ---- what a zone has for a question

-- a question of this type is answered: A, SOA, AAAA, SRV or NAPTR
abbrev pub is_answered : ℕ → Bool
is_answered type_number = type_number == 1 || type_number == 6 || type_number == 28 || type_number
    == 33 || type_number == 35

-- the CNAME records that lead from the name, and the records of the type where they lead
abbrev pub answers : List Owned → Asked → List Record
answers zone asked =
    if is_answered asked.type_number
    then (path zone asked.name).links
    ++ records_of zone (path zone asked.name).last asked.type_number
    else []

-- records, where there are none of others
abbrev pub without : List Record → List Record → List Record
without [] records = records
without (entry ∷ entries) records = []

-- the authority records about a name without records of the type: the SOA record of the zone that
-- it is in (RFC 2308 3)
abbrev pub authority_at : List Owned → List (List ℕ) → ℕ → List Record
authority_at zone name type_number = without (records_of zone name type_number)
    (nearest_start zone name)

-- the authority records about the name where the CNAME records lead
abbrev pub authority : List Owned → Asked → List Record
authority zone asked = authority_at zone (path zone asked.name).last asked.type_number

-- RCODE of what a name has: 3 where it has nothing, and so does not exist
abbrev pub name_rcode : List ZoneEntry → ℕ
name_rcode [] = 3
name_rcode (entry ∷ entries) = 0

-- RCODE of the name where the CNAME records lead
abbrev pub rcode : List Owned → Asked → ℕ
rcode zone asked = name_rcode (entries_at zone (path zone asked.name).last)

-- ---- the reply to a query

-- the header of a reply: QR and AA are set, TC and RA are clear; ID, OPCODE and RD are those of the
-- query
abbrev pub reply_header : Header → ℕ → Header
reply_header query type_number = record {
  id = query.id;
  reply = true;
  opcode = query.opcode;
  authoritative = true;
  truncated = false;
  recursion_desired = query.recursion_desired;
  recursion_available = false;
  rcode = type_number;
}

-- the reply to a query with this RCODE, and with these questions, answers and authority records
abbrev pub reply_of : Header → ℕ → List Asked → List Record → List Record → Message
reply_of query type_number questions records authorities = record {
  header = reply_header query type_number;
  questions = questions;
  answers = records;
  authority = authorities;
  additional = [];
}

-- the reply to a query that is refused: RCODE 5
abbrev pub refusal : Header → List Asked → Message
refusal query questions = reply_of query 5 questions [] []

-- a query is a standard query, in class IN
abbrev pub is_taken : Header → Asked → Bool
is_taken query asked = query.opcode == 0 && asked.class_number == 1

-- the reply to a query by its questions, of which there has to be one alone
abbrev pub reply_about : List Owned → Header → List Asked → Message
reply_about zone query [] = refusal query []
reply_about zone query (asked ∷ []) =
    if is_taken query asked
    then reply_of query (rcode zone asked) (asked ∷ []) (answers zone asked) (authority zone asked)
    else refusal query (asked ∷ [])
reply_about zone query (asked ∷ other ∷ more) = refusal query []

-- the reply of a zone to a query
abbrev pub reply_to : List Owned → Message → Message
reply_to zone query = reply_about zone query.header query.questions

-- ---- its octets

-- the octets are at most 65,535, and begin with a query: a message with QR clear
pub record IsQuery (octets : List ℕ) (query : Message) : Type 0 where
  pub begins : Begins octets query
  pub asks : query.header.reply ≡ false

-- no query is in front of the octets: they are too many, or begin with no message, or with one that
-- has QR set
abbrev pub IsSilent : List ℕ → Type 0
IsSilent octets = (query : Message) → IsQuery octets query → ⊥

-- the octets are a message with QR set and the id of the query, in one datagram (RFC 1035 4.2.1)
pub record IsReply (query : Message) (octets : List ℕ) : Type 0 where
  pub short : length octets ≤ 512
  pub reply : Message
  pub spelled : Spells octets reply
  pub replies : reply.header.reply ≡ true
  pub same_id : reply.header.id ≡ query.header.id

-- the octets are the reply to a query, written without pointers for one datagram
pub record Replies (zone : List Owned) (query : Message) (octets : List ℕ) : Type 0 where
  pub written : octets ≡ plain (fitted (reply_to zone query))
  pub spells : Spells octets (fitted (reply_to zone query))
  pub short : length octets ≤ 512
