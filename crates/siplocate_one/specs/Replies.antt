-- Replies in hexadecimal digits, and what is wrong with a line that is none.
use Rattle.std.specs.Prelude.{◌≡◌, ◌≢◌, ⊤, ℕ, ◌<◌, ◌≤◌, ◌==◌, not, List, ◌∷◌, ◌++◌, length, Some, Ok}
use Rattle.std.specs.List.{AllZip, filter}
use Rattle.hex.specs.Hex.{decode_of}
use Rattle.dns_message.specs.Messages.{Begins}
use Rattle.dns_message.specs.declared.message.Message.{Message}
use Rattle.dns_message.specs.declared.question.Question.{Question}
use Rattle.dns_answers.specs.Replies.{reply_refusal}
use Rattle.sip_selection.specs.Choice.{Resolution, need}
use Rattle.sip_selection.specs.Known.{Given}
use Rattle.dns_message.specs.declared.refusal.MessageRefusal.TheVariants as message
use Rattle.sip_locator.specs.Gains.{IsAsking}
use Rattle.sip_locator.specs.declared.refusal.LocatorRefusal.{LocatorRefusal}
use Rattle.sip_locator.specs.declared.refusal.LocatorRefusal.TheVariants as locator
use Rattle.siplocate_one.specs.Talks.{goes, talk}
use Rattle.sip_selection.specs.declared.caps.Families.{Families}
use Rattle.siplocate_one.specs.declared.reply.BadReply.{BadReply}
use Rattle.siplocate_one.specs.declared.reply.BadReply.TheVariants.{NotHex, NothingAsked, TooLong, Malformed, NoAnswer, Memory}
use Rattle.sip_selection.specs.declared.request.Request.{Request}

-- the octets of a line that are no blanks
abbrev pub digits : List ℕ → List ℕ
digits line = filter (λ octet. not (octet == 32)) line

-- the digits of a line, in pairs, spell these octets
abbrev pub Digits : List ℕ → List ℕ → Type 0
Digits line octets = decode_of (digits line) ≡ Ok octets

-- a line of digits of octets in front of which a message stands
pub record ReplyLine (line : List ℕ) (message : Message) : Type 0 where
  pub octets : List ℕ
  pub decoded : Digits line octets
  pub begins : Begins octets message

-- what is told of octets that the locator refused
abbrev pub of_locator : LocatorRefusal → BadReply
of_locator locator.NothingAsked = NothingAsked
of_locator (locator.Message message.TooLong) = TooLong
of_locator (locator.Message (message.Malformed part)) = Malformed
of_locator (locator.Message message.Memory) = Memory
of_locator (locator.Reply refusal) = NoAnswer refusal
of_locator locator.Memory = Memory

-- ---- what is wrong with a line

-- The fault of a line while this is what is known of a request. The checks come in this order, and
-- each fault says that those before it found none: the digits, that something is asked, how many
-- octets there are, that they begin with a message, that it answers the question.
abbrev pub IsFault : BadReply → Resolution → List ℕ → Type 0
IsFault NotHex resolution line = (octets : List ℕ) → Digits line octets → ⊥
IsFault NothingAsked resolution line =
    (octets : List ℕ) × Digits line octets × ((question : Question) → resolution ≢ need question)
IsFault TooLong resolution line =
    (octets : List ℕ) × Digits line octets × IsAsking resolution × (65535 < length octets)
IsFault Malformed resolution line =
    (octets : List ℕ) × Digits line octets × IsAsking resolution × (length octets ≤ 65535)
    × ((message : Message) → Begins octets message → ⊥)
IsFault (NoAnswer refusal) resolution line =
    (question : Question) × (message : Message) × (resolution ≡ need question)
    × ReplyLine line message
    × (reply_refusal question message ≡ Some refusal)
-- memory can be refused at any line
IsFault Memory resolution line = ⊤

-- the first of these lines are replies, each to the question that is needed then, and the next one
-- has this fault
pub record FailsAt (families : Families) (request : Request) (lines : List (List ℕ))
    (reply : BadReply) : Type 0 where
  pub front : List (List ℕ)
  pub line : List ℕ
  pub back : List (List ℕ)
  pub messages : List Message
  pub known : List Given
  pub lines_are : lines ≡ front ++ line ∷ back
  pub replies : AllZip ReplyLine front messages
  pub talked : talk families request messages ≡ Some known
  pub fault : IsFault reply (goes families request known) line
