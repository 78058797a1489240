-- What requests weigh.
use Rattle.std.proofs.Common.{◌≡◌, ℕ, ◌+◌, List, [], ◌∷◌, ◌++◌, refl, sym, ap, ◌∙◌, arith}
use Rattle.std.proofs.lemmas.List.Sums.{sum_by-append, sum_by-cons}
use Rattle.std.specs.List.{sum_by}
use Rattle.sip_resolver.specs.Outcomes.{Ended, Sought}
use Rattle.sip_resolver.specs.Requests.{AreSame, IsBack, IsWithoutHeld, IsWithoutReady, IsWithoutWaiting, IsWithoutWaitingFor, RequestsView, weight}
use Rattle.sip_resolver.specs.Tasks.{TaskView, WaitingView, sought_of}

-- one more at the end
pub sum-more : {X : Type 0} (f : X → ℕ) (xs : List X) (x : X) → sum_by f (xs ++ x ∷ []) ≡ sum_by f xs + f x
sum-more f xs x = let last = sum_by-cons f x [] in let whole = sum_by-append f xs (x ∷ []) in omega (arith, last, whole)

module _ (h : Sought → ℕ) where
  abbrev of-task : TaskView → ℕ
  of-task task = h (sought_of task)

  abbrev of-waiting : WaitingView → ℕ
  of-waiting waiting = h (sought_of waiting.task)

  abbrev of-ended : Ended → ℕ
  of-ended ended = h ended.sought

-- ---- one request more

pub ready-more : (old : RequestsView) (task : TaskView) → IsBack (sought_of task) old (record old { ready = old.ready ++ task ∷ [] })
ready-more old task = record {
  limit = refl;
  weighs = λ h. let more = sum-more (of-task h) old.ready task in omega (arith, more);
}

pub held-more : (old : RequestsView) (task : TaskView) → IsBack (sought_of task) old (record old { held = old.held ++ task ∷ [] })
held-more old task = record {
  limit = refl;
  weighs = λ h. let more = sum-more (of-task h) old.held task in omega (arith, more);
}

pub waiting-more : (old : RequestsView) (waiting : WaitingView)
    → IsBack (sought_of waiting.task) old (record old { waiting = old.waiting ++ waiting ∷ [] })
waiting-more old waiting = record {
  limit = refl;
  weighs = λ h. let more = sum-more (of-waiting h) old.waiting waiting in omega (arith, more);
}

pub ended-more : (old : RequestsView) (ended : Ended) → IsBack ended.sought old (record old { ended = old.ended ++ ended ∷ [] })
ended-more old ended = record {
  limit = refl;
  weighs = λ h. let more = sum-more (of-ended h) old.ended ended in omega (arith, more);
}

-- ---- one taken out, and back

module _ (h : Sought → ℕ) where
  out-of-ready : (old middle : RequestsView) (task : TaskView) → IsWithoutReady task old middle
      → weight h old ≡ weight h middle + h (sought_of task)
  out-of-ready old middle task out =
      let first = sum_by-cons (of-task h) task middle.ready in
      let here : sum_by (of-task h) old.ready ≡ h (sought_of task) + sum_by (of-task h) middle.ready = rw out.first first in
      rw out.others omega (arith, here)

  out-of-held : (old middle : RequestsView) (task : TaskView) → IsWithoutHeld task old middle
      → weight h old ≡ weight h middle + h (sought_of task)
  out-of-held old middle task out =
      let first = sum_by-cons (of-task h) task middle.held in
      let here : sum_by (of-task h) old.held ≡ h (sought_of task) + sum_by (of-task h) middle.held = rw out.first first in
      rw out.others omega (arith, here)

  out-of-waiting : (old middle : RequestsView) (waiting : WaitingView) → IsWithoutWaiting waiting old middle
      → weight h old ≡ weight h middle + h (sought_of waiting.task)
  out-of-waiting old middle waiting out =
      let first = sum_by-cons (of-waiting h) waiting middle.waiting in
      let here : sum_by (of-waiting h) old.waiting ≡ h (sought_of waiting.task) + sum_by (of-waiting h) middle.waiting =
      rw out.first first in
      rw out.others omega (arith, here)

  out-of-waiting-for : (id : ℕ) (old middle : RequestsView) (task : TaskView) → IsWithoutWaitingFor id task old middle
      → weight h old ≡ weight h middle + h (sought_of task)
  out-of-waiting-for id old middle task out =
      let it : WaitingView = record { id = id; task = task } in
      let parts = sum_by-append (of-waiting h) out.first (it ∷ out.later) in
      let one = sum_by-cons (of-waiting h) it out.later in
      let left = sum_by-append (of-waiting h) out.first out.later in
      rw (out.others, out.was) omega (arith, parts, one, left)

pub ready-back : (old middle new : RequestsView) (task : TaskView) → IsWithoutReady task old middle → IsBack (sought_of task) middle new
    → AreSame old new
ready-back old middle new task out back =
    (back.limit ∙ ap (λ (it : RequestsView). it.limit) out.others, (λ h. back.weighs h ∙ sym (out-of-ready h old middle task out)))

pub held-back : (old middle new : RequestsView) (task : TaskView) → IsWithoutHeld task old middle → IsBack (sought_of task) middle new
    → AreSame old new
held-back old middle new task out back =
    (back.limit ∙ ap (λ (it : RequestsView). it.limit) out.others, (λ h. back.weighs h ∙ sym (out-of-held h old middle task out)))

pub waiting-back : (old middle new : RequestsView) (waiting : WaitingView) → IsWithoutWaiting waiting old middle
    → IsBack (sought_of waiting.task) middle new → AreSame old new
waiting-back old middle new waiting out back =
    (back.limit ∙ ap (λ (it : RequestsView). it.limit) out.others, (λ h. back.weighs h ∙ sym (out-of-waiting h old middle waiting out)))

pub waiting-for-back : (id : ℕ) (old middle new : RequestsView) (task : TaskView) → IsWithoutWaitingFor id task old middle
    → IsBack (sought_of task) middle new → AreSame old new
waiting-for-back id old middle new task out back = (
  back.limit ∙ ap (λ (it : RequestsView). it.limit) out.others,
  (λ h. back.weighs h ∙ sym (out-of-waiting-for h id old middle task out)),
)

pub same-not : (it : RequestsView) → AreSame it it
same-not it = (refl, (λ h. refl))

pub same-through : (old middle new : RequestsView) → AreSame old middle → AreSame middle new → AreSame old new
same-through old middle new front back = (back.0 ∙ front.0, (λ h. back.1 h ∙ front.1 h))
