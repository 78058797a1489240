-- Messages that go out and come in, in C's numbers.
use Rattle.std.specs.Prelude.{◌≡◌, ◌≢◌, ◌⊎◌, ℕ, ◌/◌, ◌<◌, ◌≤◌, ◌^◌, List, Option, Some, IsSomeAnd}
use Rattle.dns_queries.specs.declared.incoming.Why.{Why}
use Rattle.sip_resolver.specs.Questions.{IsLeast}
use Rattle.sip_resolver.specs.declared.resolver.ReplyOutcome.{ReplyOutcome}
use Rattle.sip_resolver.specs.declared.resolver.ReplyOutcome.TheVariants.{Ignored}
use Rattle.sip_resolver.specs.declared.transmit.DnsTransport.{DnsTransport}
use Rattle.rolling_resolver.specs.Instants.{left_until}
use Rattle.rolling_resolver.specs.Rolling.{AreQuiet, IsWrittenOf, MayWantIn, Receives, RollingView}
use Rattle.rolling_resolver.specs.declared.generation.Sent.{Sent}
use Rattle.wokhleas.specs.Handles.{WhyNothing}
use Rattle.wokhleas.specs.Numbers.{number_of_over}
use Rattle.wokhleas.specs.declared.status.Status.{Status}
use Rattle.wokhleas.specs.declared.status.Status.TheVariants.{Argument, Memory, Room}
use Rattle.wokhleas.specs.declared.wire.ToldMessage.{ToldMessage}

-- the message that was told, over this
abbrev pub sent_of : DnsTransport → ToldMessage → Sent
sent_of over message = record {
  length = message.length;
  query = message.query;
  over = over;
  send = message.send;
}

-- a message was told whose octets are in front of the buffer: a query that is out, over what goes
-- by this number, under the number by which C can give it up
pub record IsTransmitted (message : ToldMessage) (buffer : List ℕ) (new : RollingView) : Type 0
  where
    pub over : DnsTransport
    pub numbered : number_of_over over ≡ message.over
    pub query : IsWrittenOf (sent_of over message) buffer new

-- a moment is in its range: it is before 2^48 seconds
abbrev pub IsMoment : ℕ → Type 0
IsMoment milliseconds = milliseconds / 1000 < 2 ^ 48

-- so many octets a buffer for a query has at least
abbrev pub query_room : ℕ
query_room = 512

-- why no message is told, in the order of the checks: the moment is out of its range, the buffer is
-- too small, the resolver is closed, or nothing is left to be sent
abbrev pub WhyNotTransmitted : {I : Type 0} → (I → ℕ → I → Type 0) → ℕ → ℕ → Option RollingView
    → Status → Type 0
WhyNotTransmitted draws milliseconds room after status =
    ((status ≡ Argument) × (IsMoment milliseconds → ⊥))
    ⊎ ((status ≡ Room) × IsMoment milliseconds × (room < query_room))
    ⊎ (IsMoment milliseconds × (query_room ≤ room)
    × WhyNothing (AreQuiet draws (milliseconds / 1000) room) after status)

-- octets were a reply to a question that is out over what this number stands for
pub record IsReceived (number : ℕ) (octets : List ℕ) (now : ℕ) (old new : RollingView) : Type 0
  where
    pub over : DnsTransport
    pub numbered : number_of_over over ≡ number
    pub heard : ReplyOutcome
    pub ends : (why : Why) → heard ≢ Ignored why
    pub receives : Receives over octets now heard old new

-- octets that came in over this are ignored
pub record IsIgnored (over : DnsTransport) (octets : List ℕ) (now : ℕ) (it : RollingView)
    : Type 0 where
  pub why : Why
  pub ignores : Receives over octets now (Ignored why) it it

-- why octets that came in over this are no reply that was taken: the resolver is closed, they are
-- ignored, or memory is refused
abbrev pub WhyNotHeard : DnsTransport → List ℕ → ℕ → Option RollingView → Status → Type 0
WhyNotHeard over octets now state status =
    WhyNothing (IsIgnored over octets now) state status
    ⊎ ((status ≡ Memory) × IsSomeAnd state (MayWantIn over octets))

-- the same of what this number stands for, and of a millisecond; first come arguments that are out
-- of their range
abbrev pub WhyNotReceived : ℕ → List ℕ → ℕ → Option RollingView → Status → Type 0
WhyNotReceived number octets milliseconds state status =
    ((status ≡ Argument) × ((IsMoment milliseconds → ⊥)
    ⊎ ((over : DnsTransport) → number_of_over over ≡ number → ⊥)))
    ⊎ (IsMoment milliseconds × ((over : DnsTransport) × (number_of_over over ≡ number)
    × WhyNotHeard over octets (milliseconds / 1000) state status))

-- So many milliseconds are left at this one until the first of these seconds.
pub record IsLeft (dues : List ℕ) (milliseconds left : ℕ) : Type 0 where
  pub second : ℕ
  pub first : IsLeast dues (Some second)
  pub until : left ≡ left_until second milliseconds
