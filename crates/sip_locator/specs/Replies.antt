-- What the octets of a reply say to the question that is asked.
use Rattle.std.specs.Prelude.{◌≡◌, ◌≢◌, ◌⊎◌, ℕ, ◌<◌, ◌≤◌, List, [], ◌∷◌, ◌++◌, length, Some, None}
use Rattle.dns_answers.specs.Answers.{answer}
use Rattle.dns_answers.specs.Replies.{reply_refusal}
use Rattle.dns_answers.specs.Values.{AnswerValue}
use Rattle.dns_answers.specs.declared.refusal.ReplyRefusal.{ReplyRefusal}
use Rattle.dns_answers.specs.declared.refusal.ReplyRefusal.TheVariants as reply
use Rattle.dns_message.specs.Messages.{Begins, FailsIn}
use Rattle.dns_message.specs.Offsets.{NamedAt}
use Rattle.dns_message.specs.declared.message.Message.{Message}
use Rattle.dns_message.specs.declared.question.Question.{Question}
use Rattle.dns_message.specs.declared.refusal.MessageRefusal.{MessageRefusal}
use Rattle.dns_message.specs.declared.refusal.MessageRefusal.TheVariants as message
use Rattle.sip_selection.specs.Choice.{Resolution, need}
use Rattle.sip_selection.specs.Selections.{SelectionValue, given_too, now_of}
use Rattle.answer_cache.specs.Seats.{SeatView, IsRefused, IsStored, offer_of}
use Rattle.sip_locator.specs.Gains.{IsAsking}
use Rattle.sip_locator.specs.declared.refusal.LocatorRefusal.{LocatorRefusal}
use Rattle.sip_locator.specs.declared.refusal.LocatorRefusal.TheVariants as locator
use Rattle.sip_locator.specs.declared.kept.Kept.{Kept}
use Rattle.sip_locator.specs.declared.kept.Kept.TheVariants.{Yes, No}

-- the octets begin with a message that answers the question so (RFC 1035 4.1)
pub record Answers (question : Question) (octets : List ℕ) (found : AnswerValue) : Type 0 where
  pub it : Message
  pub begins : Begins octets it
  pub taken : reply_refusal question it ≡ None
  pub is : found ≡ answer question it

-- Memory is needed for octets only here: to read a name after the header, or for the answer of a
-- message without a fault (RFC 1035 4.1).
abbrev pub MayAnswer : Question → List ℕ → Type 0
MayAnswer question octets =
    NamedAt octets 12 ⊎ ((it : Message) × Begins octets it × (reply_refusal question it ≡ None))

-- ---- refusals

-- why no message is in front of the octets
abbrev pub MessageFault : List ℕ → MessageRefusal → Type 0
MessageFault octets message.TooLong = 65535 < length octets
MessageFault octets (message.Malformed part) =
    (length octets ≤ 65535) × FailsIn part octets × ((it : Message) → Begins octets it → ⊥)
-- want of memory has a name of its own
MessageFault octets message.Memory = ⊥

-- why the message in front of the octets does not answer the question: its first fault
pub record AnswerFault (question : Question) (octets : List ℕ)
    (refusal : ReplyRefusal) : Type 0 where
  pub it : Message
  pub begins : Begins octets it
  pub fault : reply_refusal question it ≡ Some refusal
  pub named : refusal ≢ reply.Memory

-- Why octets are refused while this is what is known of a request, in the order of the checks.
abbrev pub Refuses : Resolution → List ℕ → LocatorRefusal → Type 0
Refuses resolution octets locator.NothingAsked = (question : Question) → resolution ≢ need question
Refuses resolution octets (locator.Message refusal) = IsAsking resolution
    × MessageFault octets refusal
Refuses resolution octets (locator.Reply refusal) =
    (question : Question) × (resolution ≡ need question) × AnswerFault question octets refusal
Refuses resolution octets locator.Memory =
    (question : Question) × (resolution ≡ need question) × (length octets ≤ 65535)
    × MayAnswer question octets

-- ---- a reply that is taken

-- the answer of a reply was stored, or why it was not
abbrev pub Keeps : SeatView → SeatView → Question → AnswerValue → ℕ → Kept → Type 0
Keeps old new question found now Yes = IsStored old new (offer_of question found now)
Keeps old new question found now (No refusal) =
    IsRefused old new (offer_of question found now) refusal

-- the answer to the question that was asked counts, and was handed to the book
pub record IsTaken (old new : SelectionValue) (seat seat' : SeatView) (octets : List ℕ) (now : ℕ)
    (kept : Kept) : Type 0 where
  pub question : Question
  pub found : AnswerValue
  pub asked : now_of old ≡ need question
  pub answers : Answers question octets found
  pub is : new ≡ given_too old question found
  pub offered : seat'.offered ≡ seat.offered ++ offer_of question found now ∷ []
  pub keeps : Keeps seat seat' question found now kept
