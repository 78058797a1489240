-- When nothing is left to do at a moment.
use Rattle.std.proofs.Common.{◌≡◌, ◌⊎◌, inl, inr, ℕ, ◌+◌, ◌≤◌, List, [], ◌∷◌, length, Option, Some, None, Result, Ok, Err, refl, ap, ◌∙◌, arith}
use Rattle.std.specs.List.{All}
use Rattle.std.proofs.lemmas.List.Elements.{All-nil}
use Rattle.std.specs.Option.{IfNone, IsSome, MatchOption}
use Rattle.std.specs.Result.{IfErr, IfOk, OnErr}
use Rattle.dns_queries.specs.Events.{IsGivenUp, IsResent, Refuses, asked, left_by}
use Rattle.dns_queries.specs.Tickets.{Asking, Ticket, ticket_of}
use Rattle.dns_queries.specs.declared.incoming.Incoming.{Incoming}
use Rattle.dns_queries.specs.declared.incoming.Incoming.TheVariants.{Ended, Ignored}
use Rattle.dns_queries.specs.declared.refusal.AskRefusal.{AskRefusal}
use Rattle.dns_queries.specs.declared.refusal.AskRefusal.TheVariants.{IdTaken, Full, Spent, Memory}
use Rattle.dns_message.specs.declared.question.Question.{Question}
use Rattle.sip_resolver.specs.Idle.{CannotAsk, IsBefore, IsIdle, IsInWait, IsOut, IsTurn, MayRefuse, no_room, none_held}
use Rattle.sip_resolver.specs.Questions.{IsSent, QuestionsView, asking_over}
use Rattle.sip_resolver.specs.Requests.{RequestsView}
use Rattle.sip_resolver.specs.Sends.{SendsFirst, sent_id}
use Rattle.sip_resolver.specs.Tasks.{TaskView, WaitingView, over_of}
use Rattle.sip_resolver.specs.declared.transmit.DnsTransport.{DnsTransport}
use Rattle.sip_resolver.specs.declared.transmit.DnsTransport.TheVariants.{Datagram, Stream}
use Rattle.sip_resolver.specs.declared.transmit.Transmit.{Transmit}

-- ---- a question that can't be asked

module _ {I : Type 0} (draws : I → ℕ → I → Type 0) (it : QuestionsView) (id : ℕ) where
  -- under an id that is free
  pub may-refuse : (over : DnsTransport) (refusal : AskRefusal) → Refuses (asking_over over it) id refusal
      → ticket_of id it.datagrams.tickets ≡ None → ticket_of id it.streams.tickets ≡ None → MayRefuse draws it refusal
  may-refuse Datagram IdTaken refuses none other = absurd (let it = rw none at refuses in cc)
  may-refuse Stream IdTaken refuses none other = absurd (let it = rw other at refuses in cc)
  may-refuse Datagram Full refuses none other = inl refuses.1
  may-refuse Stream Full refuses none other = inr refuses.1
  may-refuse Datagram Spent refuses none other = inl refuses.2
  may-refuse Stream Spent refuses none other = inr refuses.2
  may-refuse Datagram Memory refuses none other = tt
  may-refuse Stream Memory refuses none other = tt

  -- or for want of memory
  may-refuse-too : (over : DnsTransport) (refusal : AskRefusal) → Refuses (asking_over over it) id refusal ⊎ (refusal ≡ Memory)
      → ticket_of id it.datagrams.tickets ≡ None → ticket_of id it.streams.tickets ≡ None → MayRefuse draws it refusal
  may-refuse-too over refusal (inl refuses) none other = may-refuse over refusal refuses none other
  may-refuse-too over refusal (inr memory) none other = rw memory tt

  pub may-refuse-all : (over : DnsTransport) (result : Result ℕ AskRefusal)
      → IfErr result (λ refusal. Refuses (asking_over over it) id refusal ⊎ (refusal ≡ Memory))
      → ticket_of id it.datagrams.tickets ≡ None → ticket_of id it.streams.tickets ≡ None → IfErr result (MayRefuse draws it)
  may-refuse-all over (Ok found) refuses none other = tt
  may-refuse-all over (Err refusal) refuses none other = may-refuse-too over refusal refuses none other

pub cannot-ask : {I : Type 0} (draws : I → ℕ → I → Type 0) (it : QuestionsView) (refusal : AskRefusal) → MayRefuse draws it refusal
    → (refusal ≡ Full) ⊎ (refusal ≡ IdTaken) → CannotAsk draws it
cannot-ask draws it refusal may (inl full) = inl (rw full at may)
cannot-ask draws it refusal may (inr taken) = inr (rw taken at may)

none-of : (found : Option Ticket) → (IsSome found → ⊥) → found ≡ None
none-of None none = refl
none-of (Some ticket) none = absurd (none refl)

-- no question is out under this id
pub none-out : (id : ℕ) (it : QuestionsView) → (IsOut id it → ⊥)
    → (ticket_of id it.datagrams.tickets ≡ None) × (ticket_of id it.streams.tickets ≡ None)
none-out id it none = (
  none-of (ticket_of id it.datagrams.tickets) (λ some. none (inl some)),
  none-of (ticket_of id it.streams.tickets) (λ some. none (inr some)),
)

-- ---- what is due

-- one more is given up
pub given-up-few : (now id : ℕ) (question : Question) (old new : Asking) (count : ℕ) → IsGivenUp old new now id question
    → length old.tickets + count ≤ 4096 → length new.tickets + (count + 1) ≤ 4096
given-up-few now id question old new count is few =
    let whole = ap length is.first in
    rw is.left (omega (arith, whole, few))

pub given-up-limit : (now id : ℕ) (question : Question) (first : ℕ) (old new : Asking) → IsGivenUp old new now id question
    → old.limit ≡ first → new.limit ≡ first
given-up-limit now id question first old new is same = rw is.left same

pub resent-limit : (now id : ℕ) (octets : List ℕ) (first : ℕ) (old new : Asking) → IsResent old new now id octets
    → old.limit ≡ first → new.limit ≡ first
resent-limit now id octets first old new is same = rw is.left same

-- after as many as there can be, none is left
pub none-left : (P : Ticket → Type 0) (tickets : List Ticket) (count : ℕ) → 4096 ≤ count → length tickets + count ≤ 4096 → All P tickets
none-left P [] count all few = All-nil P
none-left P (ticket ∷ tickets) count all few = absurd (omega (arith, all, few))

-- ---- no more can be out than at first

pub asked-few : {E : Type 0} (id : ℕ) (question : Question) (now : ℕ) (old new : Asking) (result : Result ℕ E)
    → IfOk result (λ found. (found ≡ id) × (new ≡ asked id question now old)) → OnErr result (new ≡ old)
    → old.limit ≤ 4096 → new.limit ≤ 4096
asked-few id question now old new (Ok found) is unchanged few = rw is.1 few
asked-few id question now old new (Err _) is unchanged few = rw unchanged few

pub heard-few : {E : Type 0} (old new : Asking) (result : Result Incoming E) → IfOk result (λ it. new ≡ left_by it old)
    → OnErr result (new ≡ old) → old.limit ≤ 4096 → new.limit ≤ 4096
heard-few old new (Ok (Ended id question ending)) left unchanged few = rw left few
heard-few old new (Ok (Ignored why)) left unchanged few = rw left few
heard-few old new (Err _) left unchanged few = rw unchanged few

-- ---- the schedule stays

pub asked-schedule : {E : Type 0} (id : ℕ) (question : Question) (now : ℕ) (old new : Asking) (result : Result ℕ E)
    → IfOk result (λ found. (found ≡ id) × (new ≡ asked id question now old)) → OnErr result (new ≡ old)
    → new.schedule ≡ old.schedule
asked-schedule id question now old new (Ok found) is unchanged = rw is.1 refl
asked-schedule id question now old new (Err _) is unchanged = rw unchanged refl

pub heard-schedule : {E : Type 0} (old new : Asking) (result : Result Incoming E) → IfOk result (λ it. new ≡ left_by it old)
    → OnErr result (new ≡ old) → new.schedule ≡ old.schedule
heard-schedule old new (Ok (Ended id question ending)) left unchanged = rw left refl
heard-schedule old new (Ok (Ignored why)) left unchanged = rw left refl
heard-schedule old new (Err _) left unchanged = rw unchanged refl

-- ---- those that are held

-- after as many turns as there were, none is left
pub none-held : {X : Type 0} (held : List X) (count first : ℕ) → length held + count ≡ first → first ≤ count → held ≡ []
none-held [] count first turned all = refl
none-held (task ∷ held) count first turned all = absurd (omega (arith, turned, all))

module _ {I : Type 0} (draws : I → ℕ → I → Type 0) where
  -- one more turn
  pub held-turned : (first count : ℕ) (held middle new : List TaskView) (task : TaskView) (before after : QuestionsView)
      → (length held + count ≡ first) ⊎ CannotAsk draws before → held ≡ task ∷ middle → (new ≡ middle) ⊎ CannotAsk draws before
      → after ≡ before → (length new + (count + 1) ≡ first) ⊎ CannotAsk draws after
  held-turned first count held middle new task before after (inl turned) out (inl same) asking =
      inl (let whole = ap length out in let same' = ap length same in omega (arith, turned, whole, same'))
  held-turned first count held middle new task before after (inl turned) out (inr cannot) asking = inr (rw asking cannot)
  held-turned first count held middle new task before after (inr cannot) out same asking = inr (rw asking cannot)

  pub held-over : (count first : ℕ) (held : List TaskView) (it : QuestionsView) → (length held + count ≡ first) ⊎ CannotAsk draws it
      → first ≤ count → (held ≡ []) ⊎ CannotAsk draws it
  held-over count first held it (inl turned) all = inl (none-held held count first turned all)
  held-over count first held it (inr cannot) all = inr cannot

  -- those that are held stay so where one that can go on is held too
  pub held-kept : (first now middle new : List TaskView) (before after : QuestionsView) → (now ≡ first) ⊎ CannotAsk draws before
      → middle ≡ now → (new ≡ middle) ⊎ CannotAsk draws after → after ≡ before → (new ≡ first) ⊎ CannotAsk draws before
  held-kept first now middle new before after (inl same) out (inl still) asking = inl (still ∙ out ∙ same)
  held-kept first now middle new before after (inl same) out (inr cannot) asking = inr (rw asking at cannot)
  held-kept first now middle new before after (inr cannot) out still asking = inr cannot

  held-then : (held new : List TaskView) (it : QuestionsView) → (held ≡ []) ⊎ CannotAsk draws it → (new ≡ held) ⊎ CannotAsk draws it
      → (new ≡ []) ⊎ CannotAsk draws it
  held-then held new it (inl none) (inl same) = inl (same ∙ none)
  held-then held new it (inl none) (inr cannot) = inr cannot
  held-then held new it (inr cannot) same = inr cannot

  -- ---- whose turn it was

  before-of : (asked : ℕ) (waiting : List WaitingView) (before after : QuestionsView) (result : Option ℕ)
      → MatchOption result (after ≡ before) (λ id. SendsFirst asked id waiting before after) → IsBefore asked result before after
  before-of asked waiting before after None same = same
  before-of asked waiting before after (Some id) first = (over_of first.task, first.question, first.is_asked)

  turn-by : (asked : ℕ) (old new : RequestsView) (before after : QuestionsView) (result : Option ℕ) → IsBefore asked result before after
      → (new.held ≡ []) ⊎ CannotAsk draws before → IsTurn draws asked result old new after
  turn-by asked old new before after result is (inl none) = none_held none
  turn-by asked old new before after result is (inr cannot) = no_room before is cannot

  -- those that were held went on first
  pub turn-after : (asked : ℕ) (old new : RequestsView) (held : List TaskView) (before after : QuestionsView) (result : Option ℕ)
      → (held ≡ []) ⊎ CannotAsk draws before → (new.held ≡ held) ⊎ CannotAsk draws before
      → MatchOption result (after ≡ before) (λ id. SendsFirst asked id new.waiting before after) → IsTurn draws asked result old new after
  turn-after asked old new held before after result none same sends =
      turn-by asked old new before after result (before-of asked new.waiting before after result sends)
      (held-then held new.held before none same)

  -- the message that is sent has the id
  pub turn-sent : (asked id : ℕ) (old new : RequestsView) (it : QuestionsView) (transmit : Option Transmit) → IsSent id it transmit
      → ((P : Type 0) → IfNone transmit P) → IsTurn draws asked (Some id) old new it → IsTurn draws asked (sent_id transmit) old new it
  turn-sent asked id old new it None sent none turn = none (IsTurn draws asked None old new it)
  turn-sent asked id old new it (Some transmit) sent none turn = rw sent.named turn

  -- ---- nothing is left to do

  pub idle-after : (now : ℕ) (requests : RequestsView) (held : List TaskView) (middle new : QuestionsView) (result : Option ℕ)
      (P : ℕ → Type 0)
      → All (IsInWait now) middle.datagrams.tickets → All (IsInWait now) middle.streams.tickets
      → IfNone result (requests.ready ≡ []) → (held ≡ []) ⊎ CannotAsk draws middle
      → (requests.held ≡ held) ⊎ CannotAsk draws middle → MatchOption result (new ≡ middle) P
      → IfNone result (IsIdle draws now requests new)
  idle-after now requests held middle new None P datagrams streams ready none kept same =
      record {
        datagrams = rw same datagrams;
        streams = rw same streams;
        ready = ready;
        held = rw same (held-then held requests.held middle none kept);
      }
  idle-after now requests held middle new (Some id) P datagrams streams ready none kept same = tt
