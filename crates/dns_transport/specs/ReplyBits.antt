-- What the header of a reply tells (RFC 1035 4.1.1), and its OPT record (RFC 6891 6.1.3).
use Rattle.std.specs.Prelude.{◌≡◌, ◌⊎◌, ℕ, ◌/◌, ◌%◌, ◌^◌, ◌==◌, nat_le, Bool, true, ◌&&◌, ◌||◌, List, length, Option, Some, None, slice_get, slice_index}
use Rattle.std.specs.List.{list_any, position_or_len}
use Rattle.std.specs.Option.{unwrap_or}
use Rattle.dns_message.specs.Messages.{Begins}
use Rattle.dns_message.specs.Written.{type_of_rdata}
use Rattle.dns_message.specs.declared.message.Message.{Message}
use Rattle.dns_message.specs.declared.resource.Record.{Record}

-- octets have a whole header, with QR set
abbrev pub is_reply : List ℕ → Bool
is_reply message = nat_le 12 (length message) && nat_le 128 (slice_index message 2)

-- octets are a reply with this RCODE, which is the lower half of the fourth octet
abbrev pub has_rcode : ℕ → List ℕ → Bool
has_rcode rcode message = is_reply message && slice_index message 3 % 16 == rcode

-- TC is set
abbrev pub is_cut : List ℕ → Bool
is_cut message = is_reply message && slice_index message 2 / 2 % 2 == 1

-- FORMERR, SERVFAIL, NOTIMP or REFUSED
abbrev pub tells_failure : List ℕ → Bool
tells_failure message =
    has_rcode 1 message || has_rcode 2 message || has_rcode 4 message || has_rcode 5 message

-- a record is an OPT record (RFC 6891 6.1.2)
abbrev pub is_opt : Record → Bool
is_opt entry = type_of_rdata entry.rdata == 41

-- the upper eight bits of RCODE are the first octet of the TTL of an OPT record
abbrev pub has_upper_bits : Record → Bool
has_upper_bits entry = is_opt entry && nat_le (2 ^ 24) entry.ttl

-- the upper eight bits of RCODE by an OPT record, if there is one
abbrev pub upper_bits_in : Option Record → ℕ
upper_bits_in None = 0
upper_bits_in (Some entry) = entry.ttl / 2 ^ 24

-- the upper eight bits of RCODE by the first OPT record of these
abbrev pub upper_bits : List Record → ℕ
upper_bits entries = upper_bits_in (slice_get entries (position_or_len is_opt entries))

-- the upper eight bits of the RCODE of octets: those of the message in front, and none where there
-- is no message
pub record AreUpperBits (octets : List ℕ) (upper : ℕ) : Type 0 where
  pub is : (it : Message) → Begins octets it → upper ≡ upper_bits it.additional
  pub none : ((it : Message) → Begins octets it → ⊥) → upper ≡ 0

-- the RCODE of octets, which has its lower four bits in the fourth octet (RFC 1035 4.1.1) and its
-- upper eight bits in an OPT record (RFC 6891 6.1.3)
pub record IsRcode (octets : List ℕ) (rcode : ℕ) : Type 0 where
  pub lower : rcode % 16 ≡ unwrap_or (slice_get octets 3) 0 % 16
  pub upper : AreUpperBits octets (rcode / 16)

-- the RCODE of a reply is greater than 15, as that of BADVERS is (RFC 6891 6.1.3)
pub record HasLongRcode (octets : List ℕ) : Type 0 where
  pub message : Message
  pub begins : Begins octets message
  pub upper : list_any has_upper_bits message.additional ≡ true

-- a reply refuses EDNS: FORMERR, with or without a question, NOTIMP, or an RCODE greater than 15
-- (RFC 6891 7)
abbrev pub RefusesEdns : List ℕ → Type 0
RefusesEdns octets =
    (has_rcode 1 octets ≡ true) ⊎ (has_rcode 4 octets ≡ true)
    ⊎ ((is_reply octets ≡ true) × HasLongRcode octets)
