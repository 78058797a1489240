-- The header of a message (RFC 1035 4.1.1).
use Rattle.std.specs.Prelude.{◌≡◌, ℕ, ◌+◌, ◌*◌, ◌<◌, Bool, true, false, List, length, slice_index}
use Rattle.std.specs.Int.{w16}
use Rattle.dns_message.specs.Offsets.{NumberAt}
use Rattle.dns_message.specs.declared.header.Header.{Header}
use Rattle.dns_message.specs.declared.header.Counts.{Counts}

-- the bit of a flag: 1 where it is set, else 0
abbrev pub bit : Bool → ℕ
bit true = 1
bit false = 0

-- an octet is that of QR, OPCODE, AA, TC and RD, from the highest bit down
pub record HighFlags (octet : ℕ) (header : Header) : Type 0 where
  pub opcode : header.opcode < 16
  pub is : octet ≡ 128 * bit header.reply + 8 * header.opcode + 4 * bit header.authoritative
      + 2 * bit header.truncated + bit header.recursion_desired

-- an octet is that of RA, the three bits of Z, which mean nothing, and RCODE
pub record LowFlags (octet : ℕ) (header : Header) : Type 0 where
  pub z : ℕ
  pub free : z < 8
  pub rcode : header.rcode < 16
  pub is : octet ≡ 128 * bit header.recursion_available + 16 * z + header.rcode

-- ID and the flags of a header are in a message, from offset 0 on
pub record HeaderAt (message : List ℕ) (header : Header) : Type 0 where
  pub within : 3 < length message
  pub id : NumberAt w16 message 0 header.id
  pub high : HighFlags (slice_index message 2) header
  pub low : LowFlags (slice_index message 3) header

-- the four counts, from offset 4 on
pub record CountsAt (message : List ℕ) (counts : Counts) : Type 0 where
  pub questions : NumberAt w16 message 4 counts.questions
  pub answers : NumberAt w16 message 6 counts.answers
  pub authority : NumberAt w16 message 8 counts.authority
  pub additional : NumberAt w16 message 10 counts.additional
