-- Those that wait for one reply are taken out, and go on or end.
use Rattle.std.proofs.Common.{◌≡◌, ℕ, ◌<◌, List, [], ◌∷◌, ◌++◌, length, refl, sym, ap, ◌∙◌, subst, append_assoc, arith}
use Rattle.std.specs.List.{All}
use Rattle.std.proofs.lemmas.List.{append-nil, length-append}
use Rattle.std.proofs.lemmas.List.Elements.{All-cons, All-nil, All-append}
use Rattle.sip_resolver.proofs.Waiters.{all-without, for-first, without-first}
use Rattle.sip_resolver.specs.Ends.{EndsMore}
use Rattle.sip_resolver.specs.Idle.{HasMore}
use Rattle.sip_resolver.specs.Outcomes.{Ended}
use Rattle.sip_resolver.specs.Requests.{IsWithoutWaitingFor, RequestsView, requests_of, waiting_for, waiting_without}
use Rattle.sip_resolver.specs.Settles.{Settled, SettlesAll}
use Rattle.sip_resolver.specs.Settles as settles
use Rattle.sip_resolver.specs.Tasks.{TaskView, WaitingView, sought_of}
use Rattle.sip_resolver.specs.Waits.{SettlesOne}
use Rattle.sip_resolver.specs.Waits as waits
use Rattle.sip_resolver.specs.declared.outcome.Outcome.{Outcome}

-- ---- some were taken out, and settled

pub record Settling (id : ℕ) (goes : TaskView → TaskView → Type 0) (kind : Outcome → Type 0) (old now : RequestsView) : Type 0 where
  pub done : List WaitingView
  pub ready : List TaskView
  pub ended : List Ended
  pub settled : Settled goes kind done ready ended
  pub these : waiting_for id old.waiting ≡ done ++ waiting_for id now.waiting
  pub others : waiting_without id now.waiting ≡ waiting_without id old.waiting
  pub now_is : now ≡ requests_of (old.ready ++ ready) old.held now.waiting (old.ended ++ ended) old.limit

module _ (id : ℕ) (goes : TaskView → TaskView → Type 0) (kind : Outcome → Type 0) (old : RequestsView) where
  pub settling-not : Settling id goes kind old old
  settling-not = record {
    done = [];
    ready = [];
    ended = [];
    settled = settles.none;
    these = refl;
    others = refl;
    now_is = rw (append-nil old.ready, append-nil old.ended) refl;
  }

  module _ (now middle new : RequestsView) (task : TaskView) (so : Settling id goes kind old now)
      (out : IsWithoutWaitingFor id task now middle) where
    abbrev it : WaitingView
    it = record { id = id; task = task }

    abbrev left : List WaitingView
    left = out.first ++ out.later

    these-too : waiting_for id old.waiting ≡ (so.done ++ it ∷ []) ++ waiting_for id left
    these-too =
        so.these
        ∙ ap (λ l. so.done ++ waiting_for id l) out.was
        ∙ ap (λ l. so.done ++ l) (for-first id task out.first out.later out.is_first)
        ∙ sym (append_assoc so.done (it ∷ []) (waiting_for id left))

    others-too : waiting_without id left ≡ waiting_without id old.waiting
    others-too =
        sym (without-first id task out.first out.later) ∙ ap (λ l. waiting_without id l) (sym out.was) ∙ so.others

    middle-is : middle ≡ requests_of (old.ready ++ so.ready) old.held left (old.ended ++ so.ended) old.limit
    middle-is = out.others ∙ ap (λ (v : RequestsView). record v { waiting = left }) so.now_is

    went-on : (gone : TaskView) → goes task gone
        → new ≡ requests_of ((old.ready ++ so.ready) ++ gone ∷ []) old.held left (old.ended ++ so.ended) old.limit
        → Settling id goes kind old new
    went-on gone on is = rw is (record {
      done = so.done ++ it ∷ [];
      ready = so.ready ++ gone ∷ [];
      ended = so.ended;
      settled = settles.goes_on it gone so.done so.ready so.ended so.settled on;
      these = these-too;
      others = others-too;
      now_is = ap (λ l. requests_of l old.held left (old.ended ++ so.ended) old.limit) (append_assoc old.ready so.ready (gone ∷ []));
    })

    ended-so : (outcome : Outcome) → kind outcome
        → new ≡ requests_of (old.ready ++ so.ready) old.held left
        ((old.ended ++ so.ended) ++ record { sought = sought_of task; outcome = outcome } ∷ []) old.limit
        → Settling id goes kind old new
    ended-so outcome end is = rw is (record {
      done = so.done ++ it ∷ [];
      ready = so.ready;
      ended = so.ended ++ record { sought = sought_of task; outcome = outcome } ∷ [];
      settled = settles.ends it outcome so.done so.ready so.ended so.settled end;
      these = these-too;
      others = others-too;
      now_is = ap (λ l. requests_of (old.ready ++ so.ready) old.held left l old.limit)
          (append_assoc old.ended so.ended (record { sought = sought_of task; outcome = outcome } ∷ []));
    })

    pub settling-on : SettlesOne goes kind task middle new → Settling id goes kind old new
    settling-on (waits.goes_on gone on back) =
        went-on gone on (back ∙ ap (λ (v : RequestsView). record v { ready = v.ready ++ gone ∷ [] }) middle-is)
    settling-on (waits.ends outcome end back) =
        ended-so outcome end
        (back
        ∙ ap (λ (v : RequestsView). record v { ended = v.ended ++ record { sought = sought_of task; outcome = outcome } ∷ [] })
        middle-is)

  -- none is left that waits for it
  pub settling-over : (now : RequestsView) → Settling id goes kind old now → waiting_for id now.waiting ≡ []
      → SettlesAll id goes kind old now
  settling-over now so none =
      let done : waiting_for id old.waiting ≡ so.done = so.these ∙ ap (λ l. so.done ++ l) none ∙ append-nil so.done in
      let left : now.waiting ≡ waiting_without id old.waiting = sym (all-without id now.waiting none) ∙ so.others in
      record {
        ready = so.ready;
        ended = so.ended;
        settled = subst (λ l. Settled goes kind l so.ready so.ended) (sym done) so.settled;
        new_is = so.now_is ∙ ap (λ l. requests_of (old.ready ++ so.ready) old.held l (old.ended ++ so.ended) old.limit) left;
      }

waiting-same : (goes : TaskView → TaskView → Type 0) (kind : Outcome → Type 0) (task : TaskView) (middle new : RequestsView)
    → SettlesOne goes kind task middle new → new.waiting ≡ middle.waiting
waiting-same goes kind task middle new (waits.goes_on gone on back) = ap (λ (v : RequestsView). v.waiting) back
waiting-same goes kind task middle new (waits.ends outcome end back) = ap (λ (v : RequestsView). v.waiting) back

-- the queue of those that wait is shorter
pub fewer-wait : (goes : TaskView → TaskView → Type 0) (kind : Outcome → Type 0) (id : ℕ) (task : TaskView)
    (now middle new : RequestsView) → IsWithoutWaitingFor id task now middle → SettlesOne goes kind task middle new
    → length new.waiting < length now.waiting
fewer-wait goes kind id task now middle new out one =
    let first = length-append out.first (record { id = id; task = task } ∷ out.later) in
    let left = length-append out.first out.later in
    let was = ap length out.was in
    let is = ap length (waiting-same goes kind task middle new one ∙ ap (λ (v : RequestsView). v.waiting) out.others) in
    omega (arith, first, left, was, is)

-- ---- what it leaves

module _ {goes : TaskView → TaskView → Type 0} {kind : Outcome → Type 0} where
  are-of-kind : (waited : List WaitingView) (ready : List TaskView) (ended : List Ended) → Settled goes kind waited ready ended
      → All (λ (it : Ended). kind it.outcome) ended
  are-of-kind _ _ _ settles.none = All-nil (λ (it : Ended). kind it.outcome)
  are-of-kind _ _ _ (settles.goes_on waiting task before ready ended so on) = are-of-kind before ready ended so
  are-of-kind _ _ _ (settles.ends waiting outcome before ready ended so end) =
      let last : Ended = record { sought = sought_of waiting.task; outcome = outcome } in
      All-append (λ (it : Ended). kind it.outcome) ended (last ∷ []) (are-of-kind before ready ended so)
      (All-cons (λ (it : Ended). kind it.outcome) last [] end (All-nil (λ (it : Ended). kind it.outcome)))

  -- those that go on do so behind all others
  pub settles-more : (id : ℕ) (old new : RequestsView) → SettlesAll id goes kind old new → HasMore old.ready new.ready
  settles-more id old new it = (it.ready, ap (λ (v : RequestsView). v.ready) it.new_is)

  -- those that ended are of the kind
  pub settles-ends : (id : ℕ) (old new : RequestsView) → SettlesAll id goes kind old new → EndsMore kind old.ended new.ended
  settles-ends id old new it = record {
    more = it.ended;
    after = ap (λ (v : RequestsView). v.ended) it.new_is;
    are = are-of-kind (waiting_for id old.waiting) it.ready it.ended it.settled;
  }

  module _ {goes' : TaskView → TaskView → Type 0} {kind' : Outcome → Type 0}
      (on : (old new : TaskView) → goes old new → goes' old new) (end : (outcome : Outcome) → kind outcome → kind' outcome) where
    settled-as : (waited : List WaitingView) (ready : List TaskView) (ended : List Ended) → Settled goes kind waited ready ended
        → Settled goes' kind' waited ready ended
    settled-as _ _ _ settles.none = settles.none
    settled-as _ _ _ (settles.goes_on waiting task before ready ended so its) =
        settles.goes_on waiting task before ready ended (settled-as before ready ended so) (on waiting.task task its)
    settled-as _ _ _ (settles.ends waiting outcome before ready ended so its) =
        settles.ends waiting outcome before ready ended (settled-as before ready ended so) (end outcome its)

    -- what goes on and ends so does so otherwise
    pub settles-as : (id : ℕ) (old new : RequestsView) → SettlesAll id goes kind old new → SettlesAll id goes' kind' old new
    settles-as id old new it = record {
      ready = it.ready;
      ended = it.ended;
      settled = settled-as (waiting_for id old.waiting) it.ready it.ended it.settled;
      new_is = it.new_is;
    }

-- ---- more that can go on

pub more-not : (ready : List TaskView) → HasMore ready ready
more-not ready = ([], sym (append-nil ready))

pub more-through : (old middle new : List TaskView) → HasMore old middle → HasMore middle new → HasMore old new
more-through old middle new (more, first) (others, second) =
    (more ++ others, second ∙ ap (λ l. l ++ others) first ∙ append_assoc old more others)

pub more-still : (old middle new : List TaskView) → HasMore old middle → new ≡ middle → HasMore old new
more-still old middle new (more, first) same = (more, same ∙ first)
