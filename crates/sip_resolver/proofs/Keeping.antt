-- No request is lost, and none ends twice.
use Rattle.std.proofs.Common.{◌≡◌, nat_eq, ℕ, ◌+◌, false, not, List, [], ◌∷◌, ◌++◌, map, refl, ap, ◌∙◌, arith}
use Rattle.std.proofs.lemmas.Grind.{flat_map-append}
use Rattle.std.proofs.lemmas.List.Elements.{filter_map-append}
use Rattle.std.proofs.lemmas.List.Filters.{sum_by-filter_both}
use Rattle.std.proofs.lemmas.List.Sums.{sum_by-append, sum_by-cons}
use Rattle.std.specs.List.{filter_map, flat_map, sum_by}
use Rattle.sip_selection.specs.Selections.{begun}
use Rattle.sip_resolver.proofs.Cancelling.{without-awaits}
use Rattle.sip_resolver.proofs.Weighing.{ready-more}
use Rattle.sip_resolver.specs.Cancels.{others_by, questions_left, requests_with, requests_without, these_by}
use Rattle.sip_resolver.specs.Idle.{AreAwaited}
use Rattle.sip_resolver.specs.Outcomes.{Ended, Sought}
use Rattle.sip_resolver.specs.Requests.{RequestsView, number_of_ended, number_of_waiting, weight}
use Rattle.sip_resolver.specs.Resolvers.{ResolverView}
use Rattle.sip_resolver.specs.Runs.{AreKept, Event, Runs, Step, cancelled_by, ended_by, submitted_by}
use Rattle.sip_resolver.specs.Runs as runs
use Rattle.sip_resolver.specs.Tasks.{TaskView, WaitingView, sought_of}

module _ (h : Sought → ℕ) where
  out-of-ended : (old new : ResolverView) (ended : Ended) → old.requests.ended ≡ ended ∷ new.requests.ended
      → new ≡ record old { requests = record old.requests { ended = new.requests.ended } }
      → weight h old.requests ≡ weight h new.requests + h ended.sought
  out-of-ended old new ended first others =
      let more = sum_by-cons (λ (it : Ended). h it.sought) ended new.requests.ended in
      let here : sum_by (λ (it : Ended). h it.sought) old.requests.ended
      ≡ h ended.sought + sum_by (λ (it : Ended). h it.sought) new.requests.ended = rw first more in
      rw others omega (arith, here)

  sum-map : {X : Type 0} (f : X → Sought) (xs : List X) → sum_by h (map f xs) ≡ sum_by (λ it. h (f it)) xs
  sum-map f [] = refl
  sum-map f (x ∷ xs) =
      let front = sum_by-cons h (f x) (map f xs) in
      let back = sum_by-cons (λ it. h (f it)) x xs in
      let rest = sum-map f xs in
      omega (arith, front, back, rest)

  -- those of a number and the others are all
  parts : {X : Type 0} (numbered : X → ℕ) (number : ℕ) (f : X → Sought) (xs : List X)
      → sum_by (λ it. h (f it)) xs
      ≡ sum_by (λ it. h (f it)) (others_by numbered number xs) + sum_by h (map f (these_by numbered number xs))
  parts numbered number f xs =
      let all = sum_by-filter_both (λ it. nat_eq (numbered it) number) (λ it. not (nat_eq (numbered it) number)) (λ _. refl)
      (λ it. h (f it)) xs in
      let these = sum-map f (these_by numbered number xs) in
      omega (arith, all, these)

  -- what is cancelled weighs what is missing
  pub out-of-all : (number : ℕ) (it : RequestsView)
      → weight h it ≡ weight h (requests_without number it) + sum_by h (requests_with number it)
  out-of-all number it =
      let ready = map sought_of (these_by (λ (task : TaskView). task.number) number it.ready) in
      let held = map sought_of (these_by (λ (task : TaskView). task.number) number it.held) in
      let waiting = map (λ (it : WaitingView). sought_of it.task) (these_by number_of_waiting number it.waiting) in
      let ended = map (λ (it : Ended). it.sought) (these_by number_of_ended number it.ended) in
      let one = sum_by-append h (ready ++ held ++ waiting) ended in
      let two = sum_by-append h (ready ++ held) waiting in
      let three = sum_by-append h ready held in
      let in-ready = parts (λ (task : TaskView). task.number) number sought_of it.ready in
      let in-held = parts (λ (task : TaskView). task.number) number sought_of it.held in
      let in-waiting = parts number_of_waiting number (λ (it : WaitingView). sought_of it.task) it.waiting in
      let in-ended = parts number_of_ended number (λ (it : Ended). it.sought) it.ended in
      omega (arith, one, two, three, in-ready, in-held, in-waiting, in-ended)

  step-kept : (old new : ResolverView) (event : Event) → Step old new event
      → weight h old.requests + sum_by h (filter_map submitted_by (event ∷ []))
      ≡ weight h new.requests + sum_by h (filter_map ended_by (event ∷ [])) + sum_by h (flat_map cancelled_by (event ∷ []))
  step-kept old new (runs.submits sought) (runs.submitted number request caps words until is) =
      let more = sum_by-cons h (record { number = number; request = request; caps = caps; words = words; until = until }) [] in
      let task : TaskView = record { number = number; selection = begun request caps words; cut = false; until = until } in
      let back = (ready-more old.requests task).weighs h in
      rw is omega (arith, more, back)
  step-kept old new (runs.takes out) (runs.taken ended it) =
      let one = sum_by-cons h ended.sought [] in
      let less = out-of-ended old new ended it.first it.others in
      omega (arith, one, less)
  step-kept old new (runs.cancels requests) (runs.cancelled number left questions) =
      let all = out-of-all number old.requests in
      let gone = sum_by-append h (requests_with number old.requests) [] in
      rw left omega (arith, all, gone)
  step-kept old new runs.goes (runs.gone same awaited) = let it = same.1 h in omega (arith, it)

  joined : (first old new : ℕ) (submitted ended cancelled : List Sought) (more less gone : List Sought)
      → first + sum_by h submitted ≡ old + sum_by h ended + sum_by h cancelled
      → old + sum_by h more ≡ new + sum_by h less + sum_by h gone
      → first + sum_by h (submitted ++ more) ≡ new + sum_by h (ended ++ less) + sum_by h (cancelled ++ gone)
  joined first old new submitted ended cancelled more less gone before step =
      let front = sum_by-append h submitted more in
      let back = sum_by-append h ended less in
      let out = sum_by-append h cancelled gone in
      omega (arith, front, back, out, before, step)

pub kept-along : (first last : ResolverView) (events : List Event) → Runs first events last → AreKept first events last
kept-along first last events runs.begun h = omega arith
kept-along first last events (runs.further before event old new along step) h =
    rw (
      filter_map-append submitted_by before (event ∷ []),
      filter_map-append ended_by before (event ∷ []),
      flat_map-append cancelled_by before (event ∷ []),
    )
    (joined h (weight h first.requests) (weight h old.requests) (weight h new.requests) (filter_map submitted_by before)
    (filter_map ended_by before) (flat_map cancelled_by before) (filter_map submitted_by (event ∷ [])) (filter_map ended_by (event ∷ []))
    (flat_map cancelled_by (event ∷ []))
    (kept-along first old before along h) (step-kept h old new event step))

-- ---- those that wait

awaited-by : (old new : ResolverView) (number : ℕ) → new.requests ≡ requests_without number old.requests
    → new.questions ≡ questions_left old.requests.waiting new.requests.waiting old.questions
    → AreAwaited (requests_without number old.requests)
    (questions_left old.requests.waiting (requests_without number old.requests).waiting old.questions)
    → AreAwaited new.requests new.questions
awaited-by old new number left questions it =
    let questions' : new.questions ≡ questions_left old.requests.waiting (requests_without number old.requests).waiting old.questions =
    questions ∙ ap (λ (v : RequestsView). questions_left old.requests.waiting v.waiting old.questions) left in
    rw (questions', left) it

step-awaited : (old new : ResolverView) (event : Event) → Step old new event → AreAwaited old.requests old.questions
    → AreAwaited new.requests new.questions
step-awaited old new (runs.submits sought) (runs.submitted number request caps words until is) it = rw is it
step-awaited old new (runs.takes out) (runs.taken ended taken) it = rw taken.others it
step-awaited old new (runs.cancels requests) (runs.cancelled number left questions) it =
    awaited-by old new number left questions (without-awaits number old.requests old.questions it)
step-awaited old new runs.goes (runs.gone same awaited) it = awaited it

pub awaited-along : (first last : ResolverView) (events : List Event) → Runs first events last
    → AreAwaited first.requests first.questions → AreAwaited last.requests last.questions
awaited-along first last events runs.begun it = it
awaited-along first last events (runs.further before event old new along step) it =
    step-awaited old new event step (awaited-along first old before along it)
