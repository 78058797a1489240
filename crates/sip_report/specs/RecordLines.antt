-- The lines of the records of a reply. Each begins with `;`.
use Rattle.std.specs.Prelude.{ℕ, ◌+◌, ◌/◌, ◌%◌, ◌==◌, nat_le, nat_lt, Bool, ◌&&◌, not, List, [], ◌∷◌, ◌++◌, codes, length, Option, Some, None, if◌then◌else◌}
use Rattle.std.specs.List.{count_by, flat_map}
use Rattle.std.specs.Fmt.{decimal}
use Rattle.dns_name.specs.Texts.{text_of}
use Rattle.dns_answers.specs.Answers.{answer}
use Rattle.dns_answers.specs.Records.{count_of}
use Rattle.dns_answers.specs.Replies.{reply_refusal}
use Rattle.dns_answers.specs.declared.refusal.ReplyRefusal.{ReplyRefusal}
use Rattle.dns_message.specs.Data.{OtherOctets}
use Rattle.dns_message.specs.Written.{rdata_class, type_of_rdata}
use Rattle.dns_message.specs.declared.kind.Kind.{Kind}
use Rattle.dns_message.specs.declared.kind.Kind.TheVariants.{A, Aaaa, Srv, Naptr}
use Rattle.dns_message.specs.declared.message.Message.{Message}
use Rattle.dns_message.specs.declared.naptr.NaptrRecord.{NaptrRecord}
use Rattle.dns_message.specs.declared.question.Asked.{Asked}
use Rattle.dns_message.specs.declared.question.Question.{Question}
use Rattle.dns_message.specs.declared.rdata.Rdata.{Rdata}
use Rattle.dns_message.specs.declared.rdata.Rdata.TheVariants as rdata
use Rattle.dns_message.specs.declared.resource.Record.{Record}
use Rattle.dns_message.specs.declared.soa.SoaRecord.{SoaRecord}
use Rattle.dns_message.specs.declared.srv.SrvRecord.{SrvRecord}
use Rattle.ip_text.specs.declared.address.Address.{Address}
use Rattle.ip_text.specs.declared.address.Address.TheVariants.{V4, V6}
use Rattle.sip_report.specs.Addresses.{address_words}
use Rattle.sip_report.specs.declared.address.AddressForm.{AddressForm}

-- ---- the parts

-- the text of a number, and a space
abbrev pub number_word : ℕ → List ℕ
number_word number = decimal number ++ 32 ∷ []

-- the text of a name, and a space
abbrev pub name_word : List (List ℕ) → List ℕ
name_word name = text_of name ++ 32 ∷ []

-- an octet is written as it is: from the space to `~`, but for `"` and `\`
abbrev pub stands_as_it_is : ℕ → Bool
stands_as_it_is octet =
    nat_le 32 octet && nat_le octet 126 && not (octet == 34) && not (octet == 92)

-- an octet of a character string: itself, or `\` and three decimal digits (RFC 1035 5.1)
abbrev pub quoted_octet : ℕ → List ℕ
quoted_octet octet =
    if stands_as_it_is octet then octet ∷ []
    else 92 ∷ (48 + octet / 100) ∷ (48 + octet / 10 % 10) ∷ (48 + octet % 10) ∷ []

-- the octets of a character string, the quote after them, and a space
abbrev pub quoted_octets : List ℕ → List ℕ
quoted_octets octets = flat_map quoted_octet octets ++ 34 ∷ 32 ∷ []

-- a character string in quotes, and a space
abbrev pub string_word : List ℕ → List ℕ
string_word octets = 34 ∷ quoted_octets octets

-- ---- data, as the files of a zone have it (RFC 1035 5.1)

-- the words of SRV data: priority, weight, port and target (RFC 2782)
abbrev pub srv_words : SrvRecord → List ℕ
srv_words server =
    number_word server.priority ++ number_word server.weight ++ number_word server.port
    ++ text_of server.target

-- the words of NAPTR data: ORDER, PREFERENCE, FLAGS, SERVICES, REGEXP and REPLACEMENT (RFC 3403
-- 4.1)
abbrev pub naptr_words : NaptrRecord → List ℕ
naptr_words rule =
    number_word rule.order ++ number_word rule.preference
    ++ string_word rule.flags ++ string_word rule.services ++ string_word rule.regexp
    ++ text_of rule.replacement

-- the words of the times of SOA data: REFRESH, RETRY, EXPIRE and MINIMUM (RFC 1035 3.3.13)
abbrev pub time_words : SoaRecord → List ℕ
time_words authority =
    number_word authority.refresh ++ number_word authority.retry ++ number_word authority.expire
    ++ decimal authority.minimum

-- the words of SOA data: MNAME, RNAME, SERIAL and the times (RFC 1035 3.3.13)
abbrev pub soa_words : SoaRecord → List ℕ
soa_words authority =
    name_word authority.mname ++ name_word authority.rname ++ number_word authority.serial
    ++ time_words authority

-- the words of other data: its class and type (RFC 3597 5), and how many octets it has
abbrev pub other_words : OtherOctets → List ℕ
other_words other =
    codes "CLASS" ++ number_word other.class_number ++ codes "TYPE" ++ number_word other.type_number
    ++ number_word (length other.octets) ++ codes "octets"

-- the data of an address: its type, A or AAAA, and the address
abbrev pub typed_address : AddressForm → Address → List ℕ
typed_address form (V4 octets) = codes "A " ++ address_words form (V4 octets)
typed_address form (V6 octets) = codes "AAAA " ++ address_words form (V6 octets)

-- the words of TYPE and RDATA
abbrev pub rdata_words : AddressForm → Rdata → List ℕ
rdata_words form (rdata.Addr4 octets) = typed_address form (V4 octets)
rdata_words form (rdata.Addr6 octets) = typed_address form (V6 octets)
rdata_words form (rdata.Srv server) = codes "SRV " ++ srv_words server
rdata_words form (rdata.Naptr rule) = codes "NAPTR " ++ naptr_words rule
rdata_words form (rdata.Cname name) = codes "CNAME " ++ text_of name
rdata_words form (rdata.Soa authority) = codes "SOA " ++ soa_words authority
rdata_words form (rdata.Other other) = other_words other

-- ---- lines

-- the line of a record: its owner, for how many seconds it may be kept, and what it says
abbrev pub record_line : AddressForm → Record → List ℕ
record_line form entry =
    codes ";   " ++ name_word entry.owner ++ number_word entry.ttl
    ++ rdata_words form entry.rdata ++ 10 ∷ []

-- the line of a record of the authority section: of an SOA record, which says for how long an
-- absence may be kept, and of no other
abbrev pub authority_of : AddressForm → Record → Rdata → List ℕ
authority_of form entry (rdata.Soa authority) = record_line form entry
authority_of form entry (rdata.Addr4 octets) = []
authority_of form entry (rdata.Addr6 octets) = []
authority_of form entry (rdata.Srv server) = []
authority_of form entry (rdata.Naptr rule) = []
authority_of form entry (rdata.Cname name) = []
authority_of form entry (rdata.Other other) = []

-- the line of a record of the authority section, if it is an SOA record
abbrev pub authority_line : AddressForm → Record → List ℕ
authority_line form entry = authority_of form entry entry.rdata

-- ---- how many of them are used

-- the kind of question that asks for a type, if there is one
abbrev pub kind_of : ℕ → Option Kind
kind_of type_number =
    if type_number == 1 then Some A else
    (if type_number == 28 then Some Aaaa else
    (if type_number == 33 then Some Srv else
    (if type_number == 35 then Some Naptr else None)))

-- a record has this type, in class IN
abbrev pub is_of_type : ℕ → Record → Bool
is_of_type type_number entry = type_of_rdata entry.rdata == type_number && rdata_class entry.rdata
    == 1

-- how many records the answer of a message has; of a message that is no answer none is used
abbrev pub used_where : Question → Message → Option ReplyRefusal → ℕ
used_where question message None = count_of (answer question message).records
used_where question message (Some refusal) = 0

-- how many records of a message its answer to a question has
abbrev pub used_in : Question → Message → ℕ
used_in question message = used_where question message (reply_refusal question message)

-- the line that is printed where fewer records are used than the answer section has of the type
-- that is asked
abbrev pub used_line : ℕ → ℕ → List ℕ
used_line used count =
    if nat_lt used count
    then codes ";   " ++ number_word used ++ codes "of these " ++ number_word count
    ++ codes "records are used\n"
    else []

-- the line that says how many records are used, where the question is of a kind that requests ask;
-- else nothing
abbrev pub used_of : Asked → Message → Option Kind → List ℕ
used_of asked message None = []
used_of asked message (Some kind) =
    used_line (used_in (record { name = asked.name; kind = kind }) message)
    (count_by (is_of_type asked.type_number) message.answers)

-- the lines of a message: the records of the answer section, how many of them are used, and the SOA
-- records
abbrev pub message_lines : AddressForm → Asked → Message → List ℕ
message_lines form asked message =
    flat_map (record_line form) message.answers ++ used_of asked message (kind_of asked.type_number)
    ++ flat_map (authority_line form) message.authority
