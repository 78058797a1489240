-- What becomes of a request, and what that rests on: what a book answered, and what octets that
-- came in say.
use Rattle.std.specs.Prelude.{⊤, ◌≡◌, ◌⊎◌, ℕ, List, Option, Some, None}
use Rattle.std.specs.List.{All, Contains}
use mathlib.Core.List.{IsPrefix}
use Rattle.dns_answers.specs.Replies.{reply_refusal}
use Rattle.dns_answers.specs.Values.{AnswerValue}
use Rattle.dns_answers.specs.declared.refusal.ReplyRefusal.{ReplyRefusal}
use Rattle.dns_message.specs.Messages.{Begins}
use Rattle.dns_message.specs.declared.message.Message.{Message}
use Rattle.dns_message.specs.declared.question.Question.{Question}
use Rattle.dns_queries.specs.Events.{EndsWait}
use Rattle.answer_log.specs.Histories.{cached}
use Rattle.answer_log.specs.declared.store.Store.{Store}
use Rattle.answer_cache.specs.Seats.{Offer, SeatView, offer_of}
use Rattle.sip_locator.specs.Replies.{Answers}
use Rattle.sip_selection.specs.Choice.{Resolution, locate, targets, refused, need}
use Rattle.sip_selection.specs.Known.{Given}
use Rattle.sip_selection.specs.Requests.{target_of}
use Rattle.sip_selection.specs.declared.caps.Caps.{Caps}
use Rattle.sip_selection.specs.declared.request.Request.{Request}
use Rattle.sip_resolver.specs.declared.outcome.Outcome.{Outcome}
use Rattle.sip_resolver.specs.declared.outcome.Outcome.TheVariants.{Targets, Refused, NoAnswer, NoServer, BadReply, Memory}

-- ---- where an answer comes from

-- octets that came in answer the question so
pub record IsReplied (gives : List ℕ → Type 0) (question : Question) (answer : AnswerValue)
    : Type 0 where
  pub octets : List ℕ
  pub given : gives octets
  pub answers : Answers question octets answer

-- a first part of this history answered the question so, at a moment that the clock showed
pub record IsCached (shows : ℕ → Type 0) (seen : List Store) (given : Given) : Type 0 where
  pub history : List Store
  pub before : IsPrefix history seen
  pub now : ℕ
  pub shown : shows now
  pub found : cached history given.question now ≡ Some given.answer

-- the answer of a reply was handed to the book
pub record IsHanded (offered : List Offer) (given : Given) : Type 0 where
  pub now : ℕ
  pub stands : Contains offered (offer_of given.question given.answer now)

-- an answer counts: this seat looked it up, or a reply had it and this seat handed it to the book
abbrev pub Counts : (List ℕ → Type 0) → (ℕ → Type 0) → SeatView → Given → Type 0
Counts gives shows seat given =
    IsCached shows seat.seen given
    ⊎ (IsReplied gives given.question given.answer × IsHanded seat.offered given)

-- ---- where the lack of an answer comes from

-- a first part of this history had no answer to the question, at a moment that the clock showed
pub record IsLacking (shows : ℕ → Type 0) (seen : List Store) (question : Question) : Type 0 where
  pub history : List Store
  pub before : IsPrefix history seen
  pub now : ℕ
  pub shown : shows now
  pub none : cached history question now ≡ None

-- octets that came in end the wait for an answer with this fault
pub record IsFaulty (gives : List ℕ → Type 0) (question : Question) (refusal : ReplyRefusal)
    : Type 0 where
  pub octets : List ℕ
  pub given : gives octets
  pub it : Message
  pub begins : Begins octets it
  pub fault : reply_refusal question it ≡ Some refusal
  pub ends : EndsWait refusal

-- ---- what becomes of a request

-- an outcome has targets or a question
abbrev pub HasParts : Outcome → Type 0
HasParts (Targets list) = ⊤
HasParts (Refused reason) = ⊥
HasParts (NoAnswer question) = ⊤
HasParts (NoServer question) = ⊤
HasParts (BadReply question refusal) = ⊤
HasParts Memory = ⊥

-- a request, as it was submitted: its number, the request, for which caps and by which random
-- words, and the moment by which it ends, if it has one
pub record Sought : Type 0 where
  pub number : ℕ
  pub request : Request
  pub caps : Caps
  pub words : List ℕ
  pub until : Option ℕ

-- a request that ended
pub record Ended : Type 0 where
  pub sought : Sought
  pub outcome : Outcome

-- with these answers, each of which counts, this is the choice of RFC 3263 4 and 5
pub record IsChosen (counts : Given → Type 0) (sought : Sought) (resolution : Resolution)
    : Type 0 where
  pub given : List Given
  pub counted : All counts given
  pub is : locate sought.request sought.caps sought.words given ≡ resolution

-- What an outcome says of a request, at a seat: it is the choice of RFC 3263 4 and 5 over answers
-- that count, or the question whose answer is missing. A certificate has to be of the host that was
-- asked for (RFC 3263 4.1, RFC 3261 26.3.1). An outcome for want of memory says nothing.
abbrev pub IsOutcome : (List ℕ → Type 0) → (ℕ → Type 0) → SeatView → Sought → Outcome → Type 0
IsOutcome gives shows seat sought (Targets list) =
    IsChosen (Counts gives shows seat) sought (targets list.targets)
    × (list.certificate_host ≡ target_of sought.request)
IsOutcome gives shows seat sought (Refused reason) =
    IsChosen (Counts gives shows seat) sought (refused reason)
IsOutcome gives shows seat sought (NoAnswer question) =
    IsChosen (Counts gives shows seat) sought (need question) × IsLacking shows seat.seen question
IsOutcome gives shows seat sought (NoServer question) =
    IsChosen (Counts gives shows seat) sought (need question) × IsLacking shows seat.seen question
IsOutcome gives shows seat sought (BadReply question refusal) =
    IsChosen (Counts gives shows seat) sought (need question) × IsFaulty gives question refusal
IsOutcome gives shows seat sought Memory = Unit {0}
