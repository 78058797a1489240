-- What contracts see of a resolver.
use Rattle.std.specs.Prelude.{◌≡◌, ⊤, ℕ, ◌<◌, Bool, true, false, List, [], ◌∷◌, ◌++◌, Option, IfNone}
use Rattle.std.specs.List.{Contains}
use Rattle.dns_message.specs.Messages.{Begins}
use Rattle.dns_message.specs.declared.message.Message.{Message}
use Rattle.dns_message.specs.declared.question.Question.{Question}
use Rattle.dns_answers.specs.Values.{AnswerValue}
use Rattle.dns_answers.specs.declared.refusal.ReplyRefusal.TheVariants as refusals
use Rattle.dns_queries.specs.Events.{EndsBy, Means}
use Rattle.dns_queries.specs.Out.{HasQuestion}
use Rattle.dns_queries.specs.declared.incoming.Ending.{Ending}
use Rattle.dns_queries.specs.declared.incoming.Ending.TheVariants as endings
use Rattle.dns_queries.specs.declared.incoming.Incoming.TheVariants as incoming
use Rattle.dns_queries.specs.declared.schedule.Schedule.{Schedule}
use Rattle.answer_cache.specs.Seats.{SeatView, StoresNothing}
use Rattle.sip_selection.specs.Selections.{begun}
use Rattle.sip_selection.specs.declared.caps.Caps.{Caps}
use Rattle.sip_selection.specs.declared.request.Request.{Request}
use Rattle.sip_resolver.specs.Cancels.{questions_left}
use Rattle.sip_resolver.specs.Ends.{EndsMore, IsByClosing, IsByReply, IsBySilence}
use Rattle.sip_resolver.specs.Expiries.{AreExpired, HaveTime}
use Rattle.sip_resolver.specs.Idle.{AreAwaited, IsIdle, IsTurn}
use Rattle.sip_resolver.specs.Outcomes.{Ended}
use Rattle.sip_resolver.specs.Questions.{AreDistinct, IsScheduled, QuestionsView, asking_over, closed_over, none_out, schedule_of}
use Rattle.sip_resolver.specs.Requests.{AreSame, RequestsView, Stand, count_of, numbers_of, requests_of}
use Rattle.sip_resolver.specs.Sends.{AreSpaced, IsInTime, Sends, sent_id, tickets_of}
use Rattle.sip_resolver.specs.Settles.{GoesByReply, GoesOverStream, NeedsOther, SettlesAll}
use Rattle.sip_resolver.specs.Tasks.{TaskView}
use Rattle.sip_resolver.specs.Works.{Hands}
use Rattle.sip_resolver.specs.declared.outcome.Outcome.{Outcome}
use Rattle.sip_resolver.specs.declared.resolver.ReplyOutcome.{ReplyOutcome}
use Rattle.sip_resolver.specs.declared.resolver.ReplyOutcome.TheVariants.{Reply, Cut, Ignored}
use Rattle.sip_resolver.specs.declared.transmit.DnsTransport.{DnsTransport}
use Rattle.sip_resolver.specs.declared.transmit.DnsTransport.TheVariants.{Datagram}
use Rattle.sip_resolver.specs.declared.transmit.Transmit.{Transmit}
use Rattle.sip_resolver.specs.declared.refusal.SubmitRefusal.{SubmitRefusal}
use Rattle.sip_resolver.specs.declared.refusal.SubmitRefusal.TheVariants.{Full, NumberTaken, Memory}

-- the requests inside, the questions that are out, and whether these can go on over streams
pub record ResolverView : Type 0 where
  pub requests : RequestsView
  pub questions : QuestionsView
  pub streams : Bool

-- a resolver without a request inside and without a question out
abbrev pub begun_of : ℕ → ℕ → Bool → Schedule → ResolverView
begun_of requests questions streams schedule = record {
  requests = requests_of [] [] [] [] requests;
  questions = none_out questions schedule;
  streams = streams;
}

-- ---- a request is submitted

-- a resolver with one more request inside, after all others that can go on
abbrev pub with_request : ℕ → Request → Caps → List ℕ → Option ℕ → ResolverView → ResolverView
with_request number request caps words until it = record it {
  requests = record it.requests {
    ready = it.requests.ready
        ++ record {
          number = number;
          selection = begun request caps words;
          cut = false;
          until = until;
        } ∷ [];
  };
}

-- a resolver has room for one more request, and no request of this number is inside
abbrev pub HasRoomFor : ResolverView → ℕ → Type 0
HasRoomFor it number =
    (count_of it.requests < it.requests.limit) × (Contains (numbers_of it.requests) number → ⊥)

-- where each refusal of a request comes, and it comes exactly there, in the order of the checks;
-- memory is needed only for what would be taken
abbrev pub RefusesSubmit : ResolverView → ℕ → SubmitRefusal → Type 0
RefusesSubmit it number Full = count_of it.requests < it.requests.limit → ⊥
RefusesSubmit it number NumberTaken =
    (count_of it.requests < it.requests.limit) × Contains (numbers_of it.requests) number
RefusesSubmit it number Memory = HasRoomFor it number

-- ---- a reply comes in

-- how octets end the wait for the reply to a question: by the answer of the message that they are,
-- or by its fault
pub record IsEnded (question : Question) (octets : List ℕ) (ending : Ending) : Type 0 where
  pub it : Message
  pub begins : Begins octets it
  pub ends : EndsBy question it ending

-- a reply in a datagram was cut, and its question can go on over a stream (RFC 7766 5)
abbrev pub IsCut : ResolverView → DnsTransport → Ending → Type 0
IsCut it over ending =
    (it.streams ≡ true) × (over ≡ Datagram) × (ending ≡ endings.Faulty refusals.Truncated)

-- A reply to a question that is out closes it, and no request waits for it any more: all that did
-- go on or end so, in the order in which they came to wait.
pub record IsClosed (old new : ResolverView) (over : DnsTransport) (octets : List ℕ)
    (ending : Ending)
    (goes : Question → TaskView → TaskView → Type 0) (kind : Question → Outcome → Type 0)
    : Type 0 where
  pub id : ℕ
  pub question : Question
  pub means : Means (asking_over over old.questions) octets (incoming.Ended id question ending)
  pub left : new.questions ≡ closed_over over id old.questions
  pub settles : SettlesAll id (goes question) (kind question) old.requests new.requests

-- What octets that came in over datagrams or a stream leave. All requests that wait for a reply get
-- its answer, but where memory is refused, or end by its fault. A reply that was cut ends none: the
-- question goes over a stream next (RFC 2181 9). Octets that are no reply to a question that is out
-- over it leave all as it was.
abbrev pub Hears : ResolverView → ResolverView → DnsTransport → List ℕ → ReplyOutcome → Type 0
Hears old new over octets Reply =
    (ending : Ending)
    × IsClosed old new over octets ending (λ question. GoesByReply question ending)
    (λ question. IsByReply question ending) × (IsCut old over ending → ⊥)
Hears old new over octets Cut =
    (ending : Ending)
    × IsClosed old new over octets ending (λ question. GoesOverStream) (λ question outcome. ⊥)
    × IsCut old over ending
Hears old new over octets (Ignored why) =
    Means (asking_over over old.questions) octets (incoming.Ignored why) × (new ≡ old)

-- a seat is as it was where the octets are a reply that was cut, or no reply to a question that is
-- out
abbrev pub LeavesSeat : {Seat : Type 0} → Seat → Seat → ReplyOutcome → Type 0
LeavesSeat old new Reply = ⊤
LeavesSeat old new Cut = new ≡ old
LeavesSeat old new (Ignored why) = new ≡ old

-- What octets that came in over datagrams or a stream hand to the book at a moment: nothing, or the
-- answer that they have to a question that is out over it, under the id of the message. The book
-- stores that or nothing.
pub data HandsIn (over : DnsTransport) (octets : List ℕ) (now : ℕ) (questions : QuestionsView)
    (old new : SeatView) : Type 0 where
  nothing : StoresNothing old new → HandsIn over octets now questions old new
  answer : (id : ℕ) (question : Question) (found : AnswerValue)
      → Means (asking_over over questions) octets
      (incoming.Ended id question (endings.Answered found))
      → Hands question found now old new → HandsIn over octets now questions old new

-- The question that is out under an id is closed, and no request waits for it any more: each that
-- needs it ends with an outcome of this kind, and each other one goes on.
pub record EndsWait (kind : Question → Outcome → Type 0) (id : ℕ) (old new : ResolverView) : Type 0
  where
    pub over : DnsTransport
    pub question : Question
    pub was : HasQuestion question id (asking_over over old.questions).tickets
    pub left : new.questions ≡ closed_over over id old.questions
    pub settles : SettlesAll id (NeedsOther question) (kind question) old.requests new.requests
    pub streams : new.streams ≡ old.streams

-- The question that is out under an id is closed, as no server takes it: each request that needs it
-- ends for that, or for want of memory.
abbrev pub Closes : ℕ → ResolverView → ResolverView → Type 0
Closes id old new = EndsWait IsByClosing id old new

-- The question that is out under an id is closed, as no reply to it came in time: each request that
-- needs it ends for that, or for want of memory.
abbrev pub GivesUpOn : ℕ → ResolverView → ResolverView → Type 0
GivesUpOn id old new = EndsWait IsBySilence id old new

-- ---- an outcome is taken

-- the first request that ended is taken out, and nothing else has changed
pub record IsTaken (ended : Ended) (old new : ResolverView) : Type 0 where
  pub first : old.requests.ended ≡ ended ∷ new.requests.ended
  pub others : new ≡ record old {
    requests = record old.requests { ended = new.requests.ended };
  }

-- ---- what is sent

-- The requests whose time is over have ended, the same requests are inside, and a question that no
-- request waits for any more is closed.
pub record Expires (now : ℕ) (old new : ResolverView) : Type 0 where
  pub requests : AreExpired now old.requests new.requests
  pub same : AreSame old.requests new.requests
  pub questions : new.questions
      ≡ questions_left old.requests.waiting new.requests.waiting old.questions
  pub streams : new.streams ≡ old.streams

-- What a poll leaves. First each request ends whose time is over. The same requests are inside, and
-- what holds of them still holds. A request with time left ends by its choice, because a question
-- was in vain, or because memory was refused. What is sent are the octets of a question that is
-- out, under an id of its own. Requests that are held go on before those that can go on. Where
-- nothing is sent, nothing is left to do at this moment. What is due is due by the first moment;
-- what is sent waits until at least the whole wait of the schedule after the second one. All are
-- sent by one schedule.
pub record Polls (gives : List ℕ → Type 0) (shows : ℕ → Type 0) {I : Type 0}
    (draws : I → ℕ → I → Type 0) (seat : SeatView) (now asked : ℕ) (old new : ResolverView)
    (result : Option Transmit) : Type 0 where
  pub middle : ResolverView
  pub expires : Expires now old middle
  pub in_time : HaveTime now new.requests
  pub stand : Stand gives shows seat new.requests
  pub same : AreSame old.requests new.requests
  pub ends : EndsMore (IsInTime (schedule_of middle.questions) (tickets_of middle.questions) now)
      middle.requests.ended new.requests.ended
  pub sends : Sends now asked new.requests.waiting middle.questions new.questions result
  pub turn : IsTurn draws asked (sent_id result) middle.requests new.requests new.questions
  pub spaced : AreSpaced asked old.questions new.questions
  pub idle : IfNone result (IsIdle draws now new.requests new.questions)
  pub awaited : AreAwaited old.requests old.questions → AreAwaited new.requests new.questions
  pub distinct : AreDistinct new.questions
  pub scheduled : IsScheduled new.questions
