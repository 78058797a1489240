-- What is left of the requests and the questions after a request was cancelled.
use Rattle.std.proofs.Common.{false, ◌<◌, ◌∷◌, ◌++◌, [], ap, ◌∙◌, ◌≡◌, inl, inr, ℕ, Bool, true, not, nat_eq, List, get_or, length, map, Option, refl, sym, subst, arith}
use Rattle.std.specs.List.{All, Contains, filter, find}
use Rattle.std.specs.Option.{IsSome}
use Rattle.std.proofs.lemmas.List.{append-nil, length-append}
use Rattle.std.proofs.lemmas.List.Elements.{All-filter}
use Rattle.answer_cache.specs.Seats.{SeatView}
use Rattle.dns_queries.specs.Tickets.{Asking, Ticket, has_id}
use Rattle.sip_resolver.proofs.Abandoned.{awaited-behind, awaited-left, awaited-moved, awaited-self, awaited-turned, questions-alone, questions-not, questions-same, questions-shared, questions-through}
use Rattle.sip_resolver.proofs.Circling.{others-all, others-lack, others-left, others-stay}
use Rattle.sip_resolver.proofs.Queues.{in-first, in-last, in-second, in-third, only-last}
use Rattle.sip_resolver.specs.Cancels.{is_awaited, others_by, questions_left, requests_without, without_abandoned}
use Rattle.sip_resolver.specs.Idle.{AreAwaited, IsIn}
use Rattle.sip_resolver.specs.Outcomes.{Ended, IsOutcome}
use Rattle.sip_resolver.specs.Questions.{QuestionsView, closed_both}
use Rattle.sip_resolver.specs.Requests.{IsWithoutEnded, IsWithoutHeld, IsWithoutNumbered, IsWithoutReady, RequestsView, Stand, number_of_ended, number_of_waiting, numbers_of, requests_of}
use Rattle.sip_resolver.specs.Tasks.{IsCounted, Lacks, TaskView, WaitingView}
use Rattle.sip_resolver.specs.WaitingQueues.{HaveOther}

module _ (number : ℕ) (it : RequestsView) where
  abbrev readies : List ℕ
  readies = map (λ (task : TaskView). task.number) it.ready

  abbrev helds : List ℕ
  helds = map (λ (task : TaskView). task.number) it.held

  abbrev waitings : List ℕ
  waitings = map number_of_waiting it.waiting

  abbrev endeds : List ℕ
  endeds = map number_of_ended it.ended

  -- where none has the number, all stay
  pub without-none : (Contains (numbers_of it) number → ⊥) → requests_without number it ≡ it
  without-none none =
      rw (
        others-all (λ (task : TaskView). task.number) number it.ready
            (λ there. none (in-first readies helds waitings endeds number there)),
        others-all (λ (task : TaskView). task.number) number it.held
            (λ there. none (in-second readies helds waitings endeds number there)),
        others-all number_of_waiting number it.waiting (λ there. none (in-third readies helds waitings endeds number there)),
        others-all number_of_ended number it.ended (λ there. none (in-last readies helds waitings endeds number there)),
      ) refl

  -- the same of those that do not wait
  pub rest-none : (Contains (numbers_of it) number → ⊥) → it ≡ record it {
    ready = others_by (λ task. task.number) number it.ready;
    held = others_by (λ task. task.number) number it.held;
    ended = others_by number_of_ended number it.ended;
  }
  rest-none none =
      rw (
        others-all (λ (task : TaskView). task.number) number it.ready
            (λ there. none (in-first readies helds waitings endeds number there)),
        others-all (λ (task : TaskView). task.number) number it.held
            (λ there. none (in-second readies helds waitings endeds number there)),
        others-all number_of_ended number it.ended (λ there. none (in-last readies helds waitings endeds number there)),
      ) refl

  -- none of those that are left has it
  pub without-lacks : Contains (numbers_of (requests_without number it)) number → ⊥
  without-lacks there =
      let left = requests_without number it in
      others-lack number_of_ended number it.ended
      (only-last (map (λ (task : TaskView). task.number) left.ready) (map (λ (task : TaskView). task.number) left.held)
      (map number_of_waiting left.waiting) (map number_of_ended left.ended) number
      (others-lack (λ (task : TaskView). task.number) number it.ready)
      (others-lack (λ (task : TaskView). task.number) number it.held)
      (others-lack number_of_waiting number it.waiting) there)

  -- what holds of all holds of those that are left
  pub without-stands : (gives : List ℕ → Type 0) (shows : ℕ → Type 0) (seat : SeatView) → Stand gives shows seat it
      → Stand gives shows seat (requests_without number it)
  without-stands gives shows seat stand = record {
    ready = All-filter (λ (task : TaskView). not (nat_eq task.number number)) (IsCounted gives shows seat) it.ready stand.ready;
    held = All-filter (λ (task : TaskView). not (nat_eq task.number number)) (IsCounted gives shows seat) it.held stand.held;
    waiting = All-filter (λ (waiting : WaitingView). not (nat_eq (number_of_waiting waiting) number))
        (λ (waiting : WaitingView). IsCounted gives shows seat waiting.task × Lacks shows seat waiting.task) it.waiting stand.waiting;
    ended = All-filter (λ (ended : Ended). not (nat_eq (number_of_ended ended) number))
        (λ (ended : Ended). IsOutcome gives shows seat ended.sought ended.outcome) it.ended stand.ended;
  }

-- ---- those that wait on

module _ (old new : List WaitingView) (questions : QuestionsView) where
  ticket-left : (asking : Asking) (id : ℕ) → is_awaited new id ≡ true → IsSome (find (has_id id) asking.tickets)
      → IsSome (find (has_id id) (without_abandoned old new asking).tickets)
  ticket-left asking id is some =
      subst (λ (found : Option Ticket). IsSome found) (sym (awaited-left old new asking id is)) some

  abbrev left : QuestionsView
  left = questions_left old new questions

  one-left : (it : WaitingView) → is_awaited new it.id ≡ true → IsIn questions.datagrams.tickets questions.streams.tickets it
      → IsIn left.datagrams.tickets left.streams.tickets it
  one-left it is (inl some) = inl (ticket-left questions.datagrams it.id is some)
  one-left it is (inr some) = inr (ticket-left questions.streams it.id is some)

  pub all-left : All (IsIn questions.datagrams.tickets questions.streams.tickets) new
      → All (IsIn left.datagrams.tickets left.streams.tickets) new
  all-left all k d small = one-left (get_or new k d) (awaited-self new k d small) (all k d small)

-- each waits for a question that is out still
pub without-awaits : (number : ℕ) (it : RequestsView) (questions : QuestionsView) → AreAwaited it questions
    → AreAwaited (requests_without number it) (questions_left it.waiting (requests_without number it).waiting questions)
without-awaits number it questions all =
    let new = (requests_without number it).waiting in
    all-left it.waiting new questions
    (All-filter (λ (waiting : WaitingView). not (nat_eq (number_of_waiting waiting) number))
    (IsIn questions.datagrams.tickets questions.streams.tickets) it.waiting all)

-- ---- a turn of those that wait

-- who waits after a turn of one waited before
module _ (stays : WaitingView → Bool) (it : WaitingView) (others : List WaitingView) (id : ℕ) where
  back-by : (is : Bool) → stays it ≡ is → is_awaited (others ++ filter stays (it ∷ [])) id ≡ true
      → is_awaited (it ∷ others) id ≡ true
  back-by true is waits = awaited-turned it others id (rw is at waits)
  back-by false is waits =
      let waits-too : is_awaited (others ++ []) id ≡ true = rw is at waits in
      awaited-behind it others id (rw (append-nil others) at waits-too)

  pub awaited-back : is_awaited (others ++ filter stays (it ∷ [])) id ≡ true → is_awaited (it ∷ others) id ≡ true
  awaited-back waits = back-by (stays it) refl waits

-- ---- those of a number are taken out of those that wait

-- some of the number were taken out
pub record Removed (number : ℕ) (old now : RequestsView) (asked asks : QuestionsView) : Type 0 where
  pub same : others_by number_of_waiting number now.waiting ≡ others_by number_of_waiting number old.waiting
  pub others : now ≡ record old { waiting = now.waiting }
  pub fewer : (id : ℕ) → is_awaited now.waiting id ≡ true → is_awaited old.waiting id ≡ true
  pub questions : asks ≡ questions_left old.waiting now.waiting asked

pub removed-not : (number : ℕ) (old : RequestsView) (asked : QuestionsView) → Removed number old old asked asked
removed-not number old asked =
    record { same = refl; others = refl; fewer = λ id waits. waits; questions = questions-not asked old.waiting }

module _ (number : ℕ) (now new : RequestsView) (it : WaitingView) (out : IsWithoutNumbered number it now new) where
  waiting-is : new.waiting ≡ out.first ++ out.later
  waiting-is = ap (λ (v : RequestsView). v.waiting) out.others

  pub one-less : length new.waiting < length now.waiting
  one-less =
      let was = ap length out.was ∙ length-append out.first (it ∷ out.later) in
      let left = ap length waiting-is ∙ length-append out.first out.later in
      omega (arith, was, left)

  waited : (id : ℕ) → is_awaited now.waiting id ≡ is_awaited (it ∷ new.waiting) id
  waited id =
      ap (λ l. is_awaited l id) out.was
      ∙ awaited-moved out.first out.later it id
      ∙ ap (λ l. is_awaited (it ∷ l) id) (sym waiting-is)

  module _ (old : RequestsView) (asked asks then : QuestionsView) (so : Removed number old now asked asks)
      (shared : is_awaited new.waiting it.id ≡ true → then ≡ asks)
      (alone : is_awaited new.waiting it.id ≡ false → then ≡ closed_both it.id asks) where
    others-are : new ≡ record old { waiting = new.waiting }
    others-are =
        out.others
        ∙ ap (λ (v : RequestsView). record v { waiting = out.first ++ out.later }) so.others
        ∙ ap (λ l. requests_of old.ready old.held l old.ended old.limit) (sym waiting-is)

    one-fewer : (id : ℕ) → is_awaited new.waiting id ≡ true → is_awaited now.waiting id ≡ true
    one-fewer id waits = waited id ∙ awaited-behind it new.waiting id waits

    left-by : (is : Bool) → is_awaited new.waiting it.id ≡ is → then ≡ questions_left (it ∷ new.waiting) new.waiting asks
    left-by true is = shared is ∙ questions-shared asks it new.waiting is
    left-by false is = alone is ∙ questions-alone asks it new.waiting is

    questions-are : then ≡ questions_left old.waiting new.waiting asked
    questions-are =
        left-by (is_awaited new.waiting it.id) refl
        ∙ sym (questions-same asks now.waiting (it ∷ new.waiting) new.waiting waited)
        ∙ ap (λ q. questions_left now.waiting new.waiting q) so.questions
        ∙ questions-through asked old.waiting now.waiting new.waiting so.fewer one-fewer

    pub removed-on : Removed number old new asked then
    removed-on = record {
      same = ap (λ l. others_by number_of_waiting number l) waiting-is
          ∙ others-left number_of_waiting number out.first out.later it out.has_number
          ∙ ap (λ l. others_by number_of_waiting number l) (sym out.was)
          ∙ so.same;
      others = others-are;
      fewer = λ id waits. so.fewer id (one-fewer id waits);
      questions = questions-are;
    }

-- all were taken out
pub removed-over : (number : ℕ) (old now : RequestsView) (asked asks : QuestionsView) → Removed number old now asked asks
    → HaveOther number_of_waiting number now.waiting
    → now ≡ record old { waiting = others_by number_of_waiting number old.waiting }
removed-over number old now asked asks so none =
    so.others
    ∙ ap (λ l. requests_of old.ready old.held l old.ended old.limit)
    (sym (others-stay number_of_waiting number now.waiting none) ∙ so.same)

-- ---- a turn of those that do not wait

module _ (number : ℕ) (old now middle new : RequestsView) where
  -- only one queue changes
  pub only-ready : (task : TaskView) → now ≡ record old { ready = now.ready } → IsWithoutReady task now middle
      → new ≡ record middle { ready = middle.ready ++ others_by (λ task. task.number) number (task ∷ []) }
      → new ≡ record old { ready = new.ready }
  only-ready task so out back =
      let last = middle.ready ++ others_by (λ (it : TaskView). it.number) number (task ∷ []) in
      let is : new.ready ≡ last = ap (λ (v : RequestsView). v.ready) back in
      back
      ∙ ap (λ (v : RequestsView). record v { ready = last }) out.others
      ∙ ap (λ (v : RequestsView). record v { ready = last }) so
      ∙ ap (λ l. requests_of l old.held old.waiting old.ended old.limit) (sym is)

  pub only-held : (task : TaskView) → now ≡ record old { held = now.held } → IsWithoutHeld task now middle
      → new ≡ record middle { held = middle.held ++ others_by (λ task. task.number) number (task ∷ []) }
      → new ≡ record old { held = new.held }
  only-held task so out back =
      let last = middle.held ++ others_by (λ (it : TaskView). it.number) number (task ∷ []) in
      let is : new.held ≡ last = ap (λ (v : RequestsView). v.held) back in
      back
      ∙ ap (λ (v : RequestsView). record v { held = last }) out.others
      ∙ ap (λ (v : RequestsView). record v { held = last }) so
      ∙ ap (λ l. requests_of old.ready l old.waiting old.ended old.limit) (sym is)

  pub only-ended : (ended : Ended) → now ≡ record old { ended = now.ended } → IsWithoutEnded ended now middle
      → new ≡ record middle { ended = middle.ended ++ others_by number_of_ended number (ended ∷ []) }
      → new ≡ record old { ended = new.ended }
  only-ended ended so out back =
      let last = middle.ended ++ others_by number_of_ended number (ended ∷ []) in
      let is : new.ended ≡ last = ap (λ (v : RequestsView). v.ended) back in
      back
      ∙ ap (λ (v : RequestsView). record v { ended = last }) out.others
      ∙ ap (λ (v : RequestsView). record v { ended = last }) so
      ∙ ap (λ l. requests_of old.ready old.held old.waiting l old.limit) (sym is)
