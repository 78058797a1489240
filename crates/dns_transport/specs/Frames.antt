-- Messages over a stream (RFC 1035 4.2.2).
use Rattle.std.specs.Prelude.{◌≡◌, ℕ, ⊤, List, Option, length, ◌++◌}
use Rattle.std.specs.Int.{to_be_bytes, w16}
use Rattle.std.specs.Io.KnownBytes.{Appends, Consumes}
use Rattle.dns_transport.specs.declared.framing.Heard.{Heard}
use Rattle.dns_transport.specs.declared.framing.Part.{Part}
use Rattle.dns_transport.specs.declared.framing.Part.TheVariants as part
use Rattle.dns_transport.specs.declared.framing.Heard.TheVariants.{Waits, More, Message, Failed}

-- a message behind the two octets of its length
abbrev pub framed : List ℕ → List ℕ
framed message = to_be_bytes w16 (length message) ++ message

-- octets begin with a message behind its length, and these are the others
abbrev pub BeginsWith : List ℕ → List ℕ → List ℕ → Type 0
BeginsWith octets message others = octets ≡ framed message ++ others

-- octets are too few for the length in front of them, or for a length
abbrev pub IsPart : List ℕ → Type 0
IsPart octets = (message others : List ℕ) → BeginsWith octets message others → ⊥

-- what is to be written over a stream, and what came of it and was not taken
pub record FramingView : Type 0 where
  pub unwritten : List ℕ
  pub untaken : List ℕ

-- What a stream holds grew by octets that were to be written, in their order; these are left.
pub record Writes (old new : Option (List ℕ)) (before after : List ℕ) : Type 0 where
  pub octets : List ℕ
  pub appends : Appends old new octets
  pub left : before ≡ octets ++ after

-- what came of a stream stands behind what was not taken
pub record Reads (old new : Option (List ℕ)) (before after : List ℕ) : Type 0 where
  pub octets : List ℕ
  pub consumes : Consumes old new octets
  pub behind : after ≡ before ++ octets

-- What a read gives. A message is the one in front of what was not taken and what came; then the
-- others are not taken.
abbrev pub Hears : Option (List ℕ) → Option (List ℕ) → List ℕ → List ℕ → Heard → Type 0
Hears old new before after (Message message) =
    Reads old new before (framed message.items ++ after)
Hears old new before after Waits = Reads old new before after
Hears old new before after More = Reads old new before after
Hears old new before after Failed = ⊤

-- what one call of a stream moved, where it did not fail
abbrev pub IfStands : Part → Type 0 → Type 0
IfStands part.Moved holds = holds
IfStands part.Waits holds = holds
IfStands part.Failed holds = ⊤
