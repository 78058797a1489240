-- Which rule of RFC 3263 asks a question.
use Rattle.std.specs.Prelude.{ℕ, ◌==◌, nat_eq, nat_lt, Bool, true, false, ◌&&◌, ◌||◌, List, ◌++◌, codes, length, if◌then◌else◌}
use Rattle.std.specs.List.{before_first, position_or_len, starts_with}
use Rattle.std.specs.Str.{bytes_eq}
use Rattle.dns_name.specs.Labels.{small_letters}
use Rattle.dns_name.specs.Texts.{text_of}
use Rattle.dns_message.specs.declared.question.Asked.{Asked}

-- ---- URIs and Vias

-- an octet is `:`
abbrev pub is_colon : ℕ → Bool
is_colon octet = octet == 58

-- a text is the word `via`, in letters of any case
abbrev pub is_via_word : List ℕ → Bool
is_via_word word = bytes_eq (small_letters word) (codes "via")

-- the word `via` is in front of the first colon of a text
abbrev pub is_via : List ℕ → Bool
is_via text =
    nat_lt (position_or_len is_colon text) (length text)
    && is_via_word (before_first is_colon text)

-- ---- rules

-- the section of RFC 3263 that says where a message goes: 5 for a response, 4.2 for a request
abbrev pub section_word : Bool → List ℕ
section_word true = codes "5"
section_word false = codes "4.2"

-- a name begins with this text
abbrev pub stands_in_front : List ℕ → List ℕ → Bool
stands_in_front front name = starts_with nat_eq name front

-- the servers that are asked for: those of a transport, where the name says so (RFC 3263 4.1)
abbrev pub servers_word : List ℕ → List ℕ
servers_word name =
    if stands_in_front (codes "_sip._udp.") name then codes "servers for udp" else
    (if stands_in_front (codes "_sip._tcp.") name then codes "servers for tcp" else
    (if stands_in_front (codes "_sip._sctp.") name then codes "servers for sctp" else
    (if stands_in_front (codes "_sips._tcp.") name then codes "servers for tls"
    else codes "servers")))

-- the text of a rule: what it asks for, and the section that says where the message goes
abbrev pub place_rule : Bool → List ℕ → List ℕ
place_rule via wanted = wanted ++ codes ", RFC 3263 " ++ section_word via

-- The services of a domain choose a transport, and its servers, or the host's addresses, say where
-- the request goes (RFC 3263 4.1, 4.2, 5).
abbrev pub rule_words : Bool → ℕ → List ℕ → List ℕ
rule_words via type_number name =
    if type_number == 35 then codes "services, RFC 3263 4.1" else
    (if type_number == 33 then place_rule via (servers_word name) else
    (if type_number == 1 || type_number == 28 then place_rule via (codes "addresses")
    else place_rule via (codes "records")))

-- the rule that asks a question, by the type and the text of the name that it asks for
abbrev pub rule_of : Bool → Asked → List ℕ
rule_of via asked = rule_words via asked.type_number (text_of asked.name)
