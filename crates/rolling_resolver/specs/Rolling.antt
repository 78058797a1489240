-- What a rolling resolver holds, and what calls leave of it.
use Rattle.std.specs.Prelude.{⊤, ◌≡◌, ◌⊎◌, ◌+◌, ◌-◌, ◌*◌, ◌<◌, ◌≤◌, ℕ, List, [], ◌++◌, Option, Some, None, IfSome, IsSomeAnd, length, take}
use Rattle.std.specs.List.{Contains}
use Rattle.std.specs.Option.{option_map, unwrap_or}
use Rattle.answer_cache.specs.Carried.{carried_stores, living_of}
use Rattle.answer_cache.specs.Lists.{IsGroupCount, IsListSeat, offered_too, seat_at, stored_too}
use Rattle.answer_cache.specs.Seats.{SeatView, offer_of}
use Rattle.dns_answers.specs.Values.{AnswerValue}
use Rattle.dns_queries.specs.Events.{MayWant, Means, sent_octets}
use Rattle.dns_queries.specs.Tickets.{Ticket, ticket_of, usual}
use Rattle.dns_queries.specs.declared.incoming.Ending.TheVariants as endings
use Rattle.dns_queries.specs.declared.incoming.Incoming.TheVariants as incoming
use Rattle.dns_queries.specs.declared.incoming.Why.{Why}
use Rattle.dns_message.specs.declared.question.Question.{Question}
use Rattle.sip_resolver.specs.Expiries.{timeouts_of}
use Rattle.sip_resolver.specs.Outcomes.{Ended, IsOutcome}
use Rattle.sip_resolver.specs.Questions.{QuestionsView, asking_over}
use Rattle.sip_resolver.specs.Requests.{Stand, numbers_of}
use Rattle.sip_resolver.specs.Idle.{IsIdle, IsOut}
use Rattle.sip_resolver.specs.Resolvers.{Closes, HasRoomFor, Hears, IsTaken, LeavesSeat, ResolverView, begun_of, with_request}
use Rattle.sip_resolver.specs.declared.resolver.ReplyOutcome.{ReplyOutcome}
use Rattle.sip_resolver.specs.declared.resolver.ReplyOutcome.TheVariants.{Ignored}
use Rattle.sip_resolver.specs.declared.transmit.DnsTransport.{DnsTransport}
use Rattle.sip_resolver.specs.declared.resolver.Limits.{Limits}
use Rattle.sip_selection.specs.declared.caps.Caps.{Caps}
use Rattle.sip_selection.specs.declared.request.Request.{Request}
use Rattle.rolling_resolver.specs.declared.generation.Sent.{Sent}

-- what holds of the seat and of the requests of a generation
pub record Holds (seat : SeatView) (core : ResolverView) : Type 0 where
  pub seated : IsListSeat seat
  pub groups : IsGroupCount seat.groups
  pub stand : Stand (λ _. ⊤) (λ _. ⊤) seat core.requests

-- a resolver can have these limits
pub record AreInRange (limits : Limits) : Type 0 where
  pub requests : (1 ≤ limits.requests) × (limits.requests ≤ 65536)
  pub questions : (1 ≤ limits.questions) × (limits.questions ≤ 4096)

-- a generation: its core, the seat of its book, and the mark of its queries
pub record GenerationView : Type 0 where
  pub core : ResolverView
  pub seat : SeatView
  pub mark : ℕ

-- the request whose outcome was told last, the generation that requests go to, and the one before
-- it, while requests are inside
pub record RollingView : Type 0 where
  pub told : Option Ended
  pub current : GenerationView
  pub draining : Option GenerationView

-- a generation in which no request is, over an empty book of so many groups
abbrev pub begun_generation : ℕ → Limits → GenerationView
begun_generation groups limits = record {
  core = begun_of limits.requests limits.questions limits.streams usual;
  seat = seat_at groups [] [];
  mark = 0;
}

-- a resolver in which no request is
abbrev pub begun_rolling : ℕ → Limits → RollingView
begun_rolling groups limits =
    record { told = None; current = begun_generation groups limits; draining = None }

-- ---- queries

-- A generation's queries go by its mark and the id of their message (RFC 1035 4.1.1). There are two
-- marks, of which generations that follow one another have one each.
abbrev pub other_mark : ℕ → ℕ
other_mark mark = 65536 - mark

-- a mark is one of the two
abbrev pub IsMark : ℕ → Type 0
IsMark mark = (mark ≡ 0) ⊎ (mark ≡ 65536)

-- the question of this query is out of a generation, under this id
pub record IsOutBy (query id : ℕ) (it : GenerationView) : Type 0 where
  pub below : id < 65536
  pub named : query ≡ it.mark + id
  pub out : IsOut id it.core.questions

-- the question of this query is out of a generation
abbrev pub IsOutOf : ℕ → GenerationView → Type 0
IsOutOf query it = (id : ℕ) × IsOutBy query id it

-- the question of this query is out of one of both
abbrev pub IsQueryOut : ℕ → RollingView → Type 0
IsQueryOut query it = IsOutOf query it.current ⊎ IsSomeAnd it.draining (IsOutOf query)

-- an older generation has another mark than the younger one
abbrev pub AreApart : GenerationView → Option GenerationView → Type 0
AreApart current draining = IfSome draining (λ older. older.mark ≡ other_mark current.mark)

-- ---- seats

-- the seat of the older generation, where that is there
abbrev pub older_seat : RollingView → Option SeatView
older_seat it = option_map (λ older. older.seat) it.draining

-- the seats of the generations are as they were
pub record SameSeats (old new : RollingView) : Type 0 where
  pub current : new.current.seat ≡ old.current.seat
  pub draining : older_seat new ≡ older_seat old

-- The seat of the generation that comes after one, handed nothing, whose book is of as many groups:
-- its stores are the last ones of each question of that one which lived at a moment, where they are
-- at most 64 for each group; or there are none.
pub data CarriesOn (old new : SeatView) : Type 0 where
  living : (now : ℕ) → length (living_of now old.seen) ≤ 64 * old.groups
      → new ≡ seat_at old.groups (carried_stores (living_of now old.seen)) [] → CarriesOn old new
  nothing : new ≡ seat_at old.groups [] [] → CarriesOn old new

-- a generation has begun that carries on, and the younger one is the older then
pub record Begins (old new : RollingView) : Type 0 where
  pub carries : CarriesOn old.current.seat new.current.seat
  pub older : older_seat new ≡ Some old.current.seat

-- What a request that comes in leaves of the seats: the older generation may be gone, or one has
-- begun.
pub data Renews (old new : RollingView) : Type 0 where
  stays : new.current.seat ≡ old.current.seat
      → (older_seat new ≡ older_seat old) ⊎ (older_seat new ≡ None) → Renews old new
  begins : Begins old new → Renews old new

-- ---- seconds at which something is due

-- in a generation: the deadlines of its questions that are out, and the moments by which its
-- requests end
abbrev pub dues_of : GenerationView → List ℕ
dues_of it = timeouts_of it.core.requests it.core.questions

-- in the older generation, if that is there
abbrev pub older_dues : RollingView → List ℕ
older_dues it = unwrap_or (option_map dues_of it.draining) []

-- in both
abbrev pub dues_in : RollingView → List ℕ
dues_in it = older_dues it ++ dues_of it.current

-- ---- requests end

-- The first request that ended in a generation is taken out of it. Its outcome is what RFC 3263
-- says over answers that the generation's seat had, or was handed; or the question is told whose
-- answer is missing. The seat is as it was.
pub record TakesOut (ended : Ended) (old new : GenerationView) : Type 0 where
  pub taken : IsTaken ended old.core new.core
  pub sound : IsOutcome (λ _. ⊤) (λ _. ⊤) old.seat ended.sought ended.outcome
  pub others : new ≡ record old { core = new.core }

-- it is taken out of the older generation
pub record TakesOlder (ended : Ended) (old new : RollingView) : Type 0 where
  pub before : GenerationView
  pub after : GenerationView
  pub was : old.draining ≡ Some before
  pub first : TakesOut ended before after
  pub is : new ≡ record old { draining = Some after }

-- it is taken out of one of the generations
pub data Takes (ended : Ended) (old new : RollingView) : Type 0 where
  older : TakesOlder ended old new → Takes ended old new
  younger : (after : GenerationView) → TakesOut ended old.current after
      → new ≡ record old { current = after } → Takes ended old new

-- no request of the older generation has ended whose outcome was not taken
abbrev pub HasNoneOlder : RollingView → Type 0
HasNoneOlder it = IfSome it.draining (λ older. older.core.requests.ended ≡ [])

-- nor one of the younger
abbrev pub HasNone : RollingView → Type 0
HasNone it = HasNoneOlder it × (it.current.core.requests.ended ≡ [])

-- The first request that ended in one of the generations is taken out, and is the one that was told
-- last: its number is that under which it was taken in, and its outcome is sound (`TakesOut`).
pub record Tells (old new : RollingView) : Type 0 where
  pub ended : Ended
  pub middle : RollingView
  pub takes : Takes ended old middle
  pub is : new ≡ record middle { told = Some ended }

-- ---- requests come in, and are cancelled

-- a request of this number is inside, or has an outcome that was not taken
abbrev pub HasRequest : ℕ → RollingView → Type 0
HasRequest number it =
    Contains (numbers_of it.current.core.requests) number
    ⊎ IsSomeAnd it.draining (λ older. Contains (numbers_of older.core.requests) number)

-- a request was taken in, by the generation that is the younger one then, and none of its number is
-- inside the older one
pub record TakesIn (number : ℕ) (request : Request) (caps : Caps) (until : Option ℕ)
    (new : RollingView) : Type 0 where
  pub words : List ℕ
  pub before : ResolverView
  pub is : new.current.core ≡ with_request number request caps words until before
  pub room : HasRoomFor before number
  pub apart : IfSome new.draining (λ older. Contains (numbers_of older.core.requests) number → ⊥)

-- ---- octets go out

-- These octets are the query of a question that is out of a generation over this, which was sent so
-- often with it (RFC 1035 4.1.1); the query goes by this number.
pub record IsQuery (query : ℕ) (over : DnsTransport) (send : ℕ) (octets : List ℕ)
    (it : GenerationView) : Type 0 where
  pub id : ℕ
  pub ticket : Ticket
  pub out : ticket_of id (asking_over over it.core.questions).tickets ≡ Some ticket
  pub are : octets ≡ sent_octets id ticket.sent.question
  pub sends : send ≡ ticket.sent.sends
  pub named : query ≡ it.mark + id

-- the first octets of a buffer, so many as were told, are such a query
abbrev pub IsWritten : Sent → List ℕ → GenerationView → Type 0
IsWritten sent buffer it = IsQuery sent.query sent.over sent.send (take sent.length buffer) it

-- the same of the younger generation, or of the older one
pub data IsWrittenOf (sent : Sent) (buffer : List ℕ) (it : RollingView) : Type 0 where
  of_younger : IsWritten sent buffer it.current → IsWrittenOf sent buffer it
  of_older : (older : GenerationView) → it.draining ≡ Some older → IsWritten sent buffer older
      → IsWrittenOf sent buffer it

-- Nothing of a generation is left to be sent or to be given up at a moment, or the octets of a
-- query of it are more than a buffer has room for.
pub data IsQuiet {I : Type 0} (draws : I → ℕ → I → Type 0) (now room : ℕ) (it : GenerationView)
    : Type 0 where
  idle : IsIdle draws now it.core.requests it.core.questions → IsQuiet draws now room it
  too_long : (query send : ℕ) (over : DnsTransport) (octets : List ℕ)
      → IsQuery query over send octets it → room < length octets → IsQuiet draws now room it

-- so it is of the younger generation, and of the older one, if that is there
abbrev pub AreQuiet : {I : Type 0} → (I → ℕ → I → Type 0) → ℕ → ℕ → RollingView → Type 0
AreQuiet draws now room it =
    IsQuiet draws now room it.current × IfSome it.draining (IsQuiet draws now room)

-- ---- a query that no server takes

-- the question of this query is closed: each request that needs it ends for that
pub record GivesUp (query : ℕ) (old new : GenerationView) : Type 0 where
  pub id : ℕ
  pub out : IsOutBy query id old
  pub closes : Closes id old.core new.core
  pub others : new ≡ record old { core = new.core }

-- the same of the older generation
pub record GivesUpOlder (query : ℕ) (old new : RollingView) : Type 0 where
  pub before : GenerationView
  pub after : GenerationView
  pub was : old.draining ≡ Some before
  pub gives_up : GivesUp query before after
  pub is : new ≡ record old { draining = Some after }

-- the same of one of both
pub data GivesUpOf (query : ℕ) (old new : RollingView) : Type 0 where
  younger : (after : GenerationView) → GivesUp query old.current after
      → new ≡ record old { current = after } → GivesUpOf query old new
  older : GivesUpOlder query old new → GivesUpOf query old new

-- ---- octets come in

-- What octets that came in over this hand to a generation's book at a moment: nothing, or the
-- answer that they have to a question that is out. The book stores that or nothing.
pub data HandsToBook (over : DnsTransport) (octets : List ℕ) (now : ℕ) (questions : QuestionsView)
    (old new : SeatView) : Type 0 where
  none : new ≡ old → HandsToBook over octets now questions old new
  reply : (id : ℕ) (question : Question) (found : AnswerValue)
      → Means (asking_over over questions) octets
      (incoming.Ended id question (endings.Answered found))
      → (new ≡ offered_too old (offer_of question found now))
      ⊎ (new ≡ stored_too old (offer_of question found now))
      → HandsToBook over octets now questions old new

-- What octets that came in over this leave of a generation. A reply to a question that is out is
-- stored, and given to all that wait for it; octets that are none leave all as it was.
pub record Learns (over : DnsTransport) (octets : List ℕ) (now : ℕ) (heard : ReplyOutcome)
    (old new : GenerationView) : Type 0 where
  pub mark : new.mark ≡ old.mark
  pub hears : Hears old.core new.core over octets heard
  pub hands : HandsToBook over octets now old.core.questions old.seat new.seat
  pub leaves : LeavesSeat old.seat new.seat heard

-- memory may be needed to read octets that came in over this
abbrev pub MayWantOver : DnsTransport → List ℕ → GenerationView → Type 0
MayWantOver over octets it = MayWant (asking_over over it.core.questions) octets

-- so it is of one of the generations
abbrev pub MayWantIn : DnsTransport → List ℕ → RollingView → Type 0
MayWantIn over octets it =
    MayWantOver over octets it.current ⊎ IsSomeAnd it.draining (MayWantOver over octets)

-- the younger generation takes octets, and where that ignores them the older one
pub data Receives (over : DnsTransport) (octets : List ℕ) (now : ℕ) (heard : ReplyOutcome)
    (old new : RollingView) : Type 0 where
  younger : (after : GenerationView) → Learns over octets now heard old.current after
      → new ≡ record old { current = after } → Receives over octets now heard old new
  older : (before after : GenerationView) → old.draining ≡ Some before
      → Learns over octets now heard before after
      → new ≡ record old { draining = Some after } → Receives over octets now heard old new

-- the older generation takes octets that the younger one ignored for this reason, if it is there
abbrev pub ReceivesOlder : DnsTransport → List ℕ → ℕ → Why → ReplyOutcome → RollingView
    → RollingView → Type 0
ReceivesOlder over octets now why heard old new =
    ((old.draining ≡ None) × (heard ≡ Ignored why) × (new ≡ old))
    ⊎ ((before : GenerationView) × (after : GenerationView) × (old.draining ≡ Some before)
    × Learns over octets now heard before after × (new ≡ record old { draining = Some after }))
