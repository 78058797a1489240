-- Which octets are a reply to a query.
use Rattle.std.specs.Prelude.{◌≡◌, ℕ, ◌+◌, ◌/◌, ◌≤◌, take, drop, List, length, slice_index_or}
use Rattle.dns_name.specs.Labels.{small_letters}

-- a query has a header, and a message has as many octets as it at least
abbrev pub IsWhole : List ℕ → List ℕ → Type 0
IsWhole query message = (12 ≤ length query) × (length query ≤ length message)

-- the id is the same: the first two octets (RFC 1035 4.1.1)
abbrev pub HasId : List ℕ → List ℕ → Type 0
HasId query message = take 2 message ≡ take 2 query

-- the opcode is the same, and QR is set (RFC 1035 4.1.1; in a query it is 0)
abbrev pub IsAnswering : List ℕ → List ℕ → Type 0
IsAnswering query message = slice_index_or message 2 0 / 8 ≡ 16 + slice_index_or query 2 0 / 8

-- the question is the same, octet for octet
abbrev pub HasQuestion : List ℕ → List ℕ → Type 0
HasQuestion query message = take (length (drop 12 query)) (drop 12 message) ≡ drop 12 query

-- A message is a reply to a query: it has its id, its opcode and its question, and QR is set (RFC
-- 5452 9.1).
pub record IsReplyTo (query message : List ℕ) : Type 0 where
  pub whole : IsWhole query message
  pub id : HasId query message
  pub kind : IsAnswering query message
  pub question : HasQuestion query message

-- the question is the same, in letters of any case (RFC 4343 3)
abbrev pub HasSameName : List ℕ → List ℕ → Type 0
HasSameName query message =
    small_letters (take (length (drop 12 query)) (drop 12 message)) ≡ small_letters (drop 12 query)

-- a message would be a reply to a query, but for the letters in its question
pub record IsReplyInOtherLetters (query message : List ℕ) : Type 0 where
  pub whole : IsWhole query message
  pub id : HasId query message
  pub kind : IsAnswering query message
  pub name : HasSameName query message
  pub letters : HasQuestion query message → ⊥
