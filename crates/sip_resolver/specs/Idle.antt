-- When nothing is left to send or to give up at a moment.
use Rattle.std.specs.Prelude.{◌≡◌, ⊤, ℕ, ◌+◌, ◌-◌, ◌^◌, ◌<◌, ◌⊎◌, List, [], ◌++◌, Option, Some, None, length, IsSome}
use Rattle.std.specs.List.{All}
use Rattle.dns_message.specs.declared.question.Question.{Question}
use Rattle.dns_queries.specs.Tickets.{Asking, Ticket, ticket_of}
use Rattle.dns_queries.specs.declared.refusal.AskRefusal.{AskRefusal}
use Rattle.dns_queries.specs.declared.refusal.AskRefusal.TheVariants.{IdTaken, Full, Spent, Memory}
use Rattle.sip_resolver.specs.Questions.{QuestionsView, asked_over}
use Rattle.sip_resolver.specs.Requests.{RequestsView}
use Rattle.sip_resolver.specs.Tasks.{TaskView, WaitingView}
use Rattle.sip_resolver.specs.declared.transmit.DnsTransport.{DnsTransport}

-- ---- why a question can't be asked

-- as many questions are out as the limit allows
abbrev pub HasNoRoom : Asking → Type 0
HasNoRoom asking = length asking.tickets ≡ asking.limit

-- as many questions are out over datagrams, or over streams, as the limit allows
abbrev pub IsFull : QuestionsView → Type 0
IsFull it = HasNoRoom it.datagrams ⊎ HasNoRoom it.streams

-- a question is out under this id
abbrev pub IsOut : ℕ → QuestionsView → Type 0
IsOut id it = IsSome (ticket_of id it.datagrams.tickets)
    ⊎ IsSome (ticket_of id it.streams.tickets)

-- this number of ids were drawn one after the other, under each of which a question is out
pub data DrawsOut {I : Type 0} (draws : I → ℕ → I → Type 0) (it : QuestionsView) (first : I)
    : ℕ → I → Type 0 where
  begun : DrawsOut draws it first 0 first
  further : (count id : ℕ) (old new : I) → DrawsOut draws it first count old → draws old id new
      → IsOut id it → DrawsOut draws it first (count + 1) new

-- More ids were drawn one after the other than questions are out, and each is the id of one of
-- these questions. So the ids repeat; ids that count up do not.
pub record AreTaken {I : Type 0} (draws : I → ℕ → I → Type 0) (it : QuestionsView) : Type 0 where
  pub first : I
  pub last : I
  pub count : ℕ
  pub drawn : DrawsOut draws it first count last
  pub many : length it.datagrams.tickets + length it.streams.tickets < count

-- no other question can be asked now
abbrev pub CannotAsk : {I : Type 0} → (I → ℕ → I → Type 0) → QuestionsView → Type 0
CannotAsk draws it = IsFull it ⊎ AreTaken draws it

-- as many questions were asked over datagrams, or over streams, as can ever be
abbrev pub IsSpent : QuestionsView → Type 0
IsSpent it = (it.datagrams.serial ≡ 2 ^ 64 - 1) ⊎ (it.streams.serial ≡ 2 ^ 64 - 1)

-- Each refusal to ask a question comes only where this is so.
abbrev pub MayRefuse : {I : Type 0} → (I → ℕ → I → Type 0) → QuestionsView → AskRefusal → Type 0
MayRefuse draws it IdTaken = AreTaken draws it
MayRefuse draws it Full = IsFull it
MayRefuse draws it Spent = IsSpent it
MayRefuse draws it Memory = ⊤

-- ---- who waits

-- the question whose reply a request waits for has one of these tickets, or of the others
abbrev pub IsIn : List Ticket → List Ticket → WaitingView → Type 0
IsIn tickets others it =
    IsSome (ticket_of it.id tickets) ⊎ IsSome (ticket_of it.id others)

-- each request that waits has a ticket, in one of these two lists, of the question whose reply it
-- waits for
abbrev pub AreIn : List Ticket → List Ticket → List WaitingView → Type 0
AreIn tickets others waiting = All (IsIn tickets others) waiting

-- each request that waits for a reply waits for one to a question that is out
abbrev pub AreAwaited : RequestsView → QuestionsView → Type 0
AreAwaited requests questions =
    AreIn questions.datagrams.tickets questions.streams.tickets requests.waiting

-- ---- whose turn it is

-- these requests, in their order, and more behind them
abbrev pub HasMore : List TaskView → List TaskView → Type 0
HasMore old new = (more : List TaskView) × (new ≡ old ++ more)

-- the questions that were out before one was asked at this moment and sent under this id, if one
-- was
abbrev pub IsBefore : ℕ → Option ℕ → QuestionsView → QuestionsView → Type 0
IsBefore asked None before after = after ≡ before
IsBefore asked (Some id) before after =
    (over : DnsTransport) × (question : Question)
    × (after ≡ asked_over over id question asked before)

-- Requests that are held go on before those that can go on: where one of the latter has gone on, no
-- request is held, or no other question could be asked before the one that was sent, if one was.
pub data IsTurn {I : Type 0} (draws : I → ℕ → I → Type 0) (asked : ℕ) (sent : Option ℕ)
    (old new : RequestsView) (questions : QuestionsView) : Type 0 where
  none_went_on : HasMore old.ready new.ready → IsTurn draws asked sent old new questions
  none_held : new.held ≡ [] → IsTurn draws asked sent old new questions
  no_room : (before : QuestionsView) → IsBefore asked sent before questions
      → CannotAsk draws before → IsTurn draws asked sent old new questions

-- ---- nothing is left to do

-- the deadline of a question is still to come
abbrev pub IsInWait : ℕ → Ticket → Type 0
IsInWait now ticket = now < ticket.deadline

-- No question is to be sent again or to be given up, no request can go on, and requests are held
-- only while no other question can be asked.
pub record IsIdle {I : Type 0} (draws : I → ℕ → I → Type 0) (now : ℕ) (requests : RequestsView)
    (questions : QuestionsView) : Type 0 where
  pub datagrams : All (IsInWait now) questions.datagrams.tickets
  pub streams : All (IsInWait now) questions.streams.tickets
  pub ready : requests.ready ≡ []
  pub held : (requests.held ≡ []) ⊎ CannotAsk draws questions
