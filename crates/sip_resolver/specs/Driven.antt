-- What a loop over a resolver gives, and what it does at a wire.
use Rattle.std.specs.Prelude.{◌≡◌, ℕ, Bool, true, false, List, Option, Some, None}
use Rattle.std.specs.List.{All}
use Rattle.answer_cache.specs.Seats.{SeatView}
use Rattle.dns_queries.specs.MessageWires.{Event, closed, left, nothing, received, sent, timed_out}
use Rattle.dns_message.specs.Written.{plain, query_of}
use Rattle.dns_message.specs.declared.question.Question.{Question}
use Rattle.sip_resolver.specs.Idle.{IsOut}
use Rattle.sip_resolver.specs.Outcomes.{Ended}
use Rattle.sip_resolver.specs.Requests.{AreSame, IsAwaitedBy, IsBack, RequestsView}
use Rattle.sip_resolver.specs.Resolvers.{Polls, ResolverView}
use Rattle.sip_resolver.specs.declared.transmit.Transmit.{Transmit}

-- The same requests are inside as before, without the one that came out, if one did.
abbrev pub GivesOut : Option Ended → RequestsView → RequestsView → Type 0
GivesOut None old new = AreSame old new
GivesOut (Some ended) old new = IsBack ended.sought new old

-- ---- at the wire

-- what a resolver gives to send at a moment, if it gives anything
pub record Gives (gives : List ℕ → Type 0) (shows : ℕ → Type 0) {I : Type 0}
    (draws : I → ℕ → I → Type 0) (old new : ResolverView) (result : Option Transmit)
    : Type 0 where
  pub seat : SeatView
  pub now : ℕ
  pub asked : ℕ
  pub polls : Polls gives shows draws seat now asked old new result

-- The octets that a resolver gives are sent; or it gives none, and nothing is done at the wire.
abbrev pub SendsNext : {Wire : Type 0} → (Wire → Event → Wire → Type 0)
    → (ResolverView → ResolverView → Option Transmit → Type 0)
    → Wire → Wire → ResolverView → ResolverView → Bool → Type 0
SendsNext does given before after old new true =
    (transmit : Transmit) × given old new (Some transmit)
    × does before (sent transmit.octets.now) after
SendsNext does given before after old new false = given old new None × (after ≡ before)

-- A request of this number is cancelled. The query that it waited for is let go where no request
-- waits for it any more, and else nothing is done at the wire.
pub data LetsGo {Wire : Type 0} (does : Wire → Event → Wire → Type 0) (number : ℕ)
    (old new : ResolverView) (before after : Wire) : Type 0 where
  waits_not : All (λ it. it.task.number ≡ number → ⊥) old.requests.waiting → after ≡ before
      → LetsGo does number old new before after
  shared : (id : ℕ) → IsAwaitedBy number id old.requests.waiting → IsOut id new.questions
      → after ≡ before → LetsGo does number old new before after
  alone : (id : ℕ) → IsAwaitedBy number id old.requests.waiting → (IsOut id new.questions → ⊥)
      → does before (left id) after → LetsGo does number old new before after

-- octets are a query: a message of one question, with RD set and without records (RFC 1035 4.1.1)
pub record IsQuery (octets : List ℕ) : Type 0 where
  pub id : ℕ
  pub question : Question
  pub are : octets ≡ plain (query_of id question)

-- A wire went from one state to another by calls of which each sent a query, let one go or
-- received: a message, that no server takes a query, that no reply to one came in time, or nothing.
pub data Drives {Wire : Type 0} (does : Wire → Event → Wire → Type 0) (first : Wire)
    : Wire → Type 0 where
  begun : Drives does first first
  sends : (octets : List ℕ) (before after : Wire) → Drives does first before → IsQuery octets
      → does before (sent octets) after → Drives does first after
  leaves : (id : ℕ) (before after : Wire) → Drives does first before → does before (left id) after
      → Drives does first after
  receives : (message : List ℕ) (before after : Wire) → Drives does first before
      → does before (received message) after → Drives does first after
  closes : (id : ℕ) (before after : Wire) → Drives does first before
      → does before (closed id) after → Drives does first after
  times_out : (id : ℕ) (before after : Wire) → Drives does first before
      → does before (timed_out id) after → Drives does first after
  waits : (before after : Wire) → Drives does first before → does before nothing after
      → Drives does first after
