-- Requests that begin their choices anew.
use Rattle.std.proofs.Common.{◌≡◌, ℕ, ◌+◌, ◌<◌, ◌≤◌, List, [], ◌∷◌, ◌++◌, length, map, refl, sym, ap, ◌∙◌, append_assoc, arith}
use Rattle.std.proofs.lemmas.List.{append-nil, length-append, map-append}
use Rattle.std.proofs.lemmas.List.Elements.{All-map, All-nil}
use Rattle.std.proofs.lemmas.List.Sums.{sum_by-append, sum_by-cons}
use Rattle.std.specs.List.{All, sum_by}
use Rattle.answer_cache.specs.Seats.{SeatView}
use Rattle.sip_resolver.specs.Idle.{AreAwaited, IsIn}
use Rattle.sip_resolver.specs.Outcomes.{Counts, Ended, IsOutcome}
use Rattle.sip_resolver.specs.Questions.{QuestionsView}
use Rattle.sip_resolver.specs.Requests.{AreSame, IsWithoutHeld, IsWithoutReady, IsWithoutWaiting, RequestsView, Stand, requests_of}
use Rattle.sip_resolver.specs.Restarts.{anew, restarted, task_of_waiting}
use Rattle.sip_resolver.specs.Tasks.{IsCounted, Lacks, TaskView, WaitingView, sought_of}

-- ---- a turn of a queue: each item is taken from the front, and put back changed

module _ {X : Type 0} (f : X → X) where
  -- so many of the items were taken, and stand changed behind the others
  pub record Changed (old now : List X) (count : ℕ) : Type 0 where
    pub front : List X
    pub done : List X
    pub whole : old ≡ done ++ front
    pub counted : length done ≡ count
    pub now_is : now ≡ front ++ map f done

  pub changed-not : (old : List X) → Changed old old 0
  changed-not old =
      record { front = old; done = []; whole = refl; counted = refl; now_is = sym (append-nil old) }

  on-by : (old now middle : List X) (x : X) (front done : List X) → old ≡ done ++ front → now ≡ front ++ map f done
      → now ≡ x ∷ middle → length done < length old → (new : List X) → new ≡ middle ++ f x ∷ []
      → Changed old new (length done + 1)
  on-by old now middle x [] done whole is first less new back =
      absurd (let all = ap length (whole ∙ append-nil done) in omega (arith, all, less))
  on-by old now middle x (y ∷ front) done whole is first less new back =
      let both : x ∷ middle ≡ y ∷ front ++ map f done = sym first ∙ is in
      let same : x ≡ y = cc in
      let rest : middle ≡ front ++ map f done = cc in
      record {
        front = front;
        done = done ++ x ∷ [];
        whole = rw same (whole ∙ sym (append_assoc done (y ∷ []) front));
        counted = length-append done (x ∷ []);
        now_is = back ∙ ap (λ l. l ++ f x ∷ []) rest ∙ append_assoc front (map f done) (f x ∷ [])
            ∙ ap (λ l. front ++ l) (sym (map-append f done (x ∷ [])));
      }

  pub changed-on : (old now middle new : List X) (x : X) (count : ℕ) → Changed old now count → now ≡ x ∷ middle
      → count < length old → new ≡ middle ++ f x ∷ [] → Changed old new (count + 1)
  changed-on old now middle new x count it first less back =
      rw (sym it.counted) (on-by old now middle x it.front it.done it.whole it.now_is first (rw it.counted less) new back)

  over-by : (old now front done : List X) → old ≡ done ++ front → now ≡ front ++ map f done → length old ≤ length done
      → now ≡ map f old
  over-by old now [] done whole is all = is ∙ ap (map f) (sym (whole ∙ append-nil done))
  over-by old now (x ∷ front) done whole is all =
      absurd (let parts = ap length whole ∙ length-append done (x ∷ front) in omega (arith, parts, all))

  -- the turn is over
  pub changed-over : (old now : List X) (count : ℕ) → Changed old now count → length old ≤ count → now ≡ map f old
  changed-over old now count it all = over-by old now it.front it.done it.whole it.now_is (rw it.counted all)

  early-by : (old now front done : List X) → old ≡ done ++ front → now ≡ front ++ map f done → now ≡ []
      → length done < length old → ⊥
  early-by old now [] done whole is none less =
      let all = ap length (whole ∙ append-nil done) in omega (arith, all, less)
  early-by old now (x ∷ front) done whole is none less = absurd cc

  -- the queue isn't empty before that
  pub changed-early : (old now : List X) (count : ℕ) → Changed old now count → now ≡ [] → count < length old → ⊥
  changed-early old now count it none less =
      early-by old now it.front it.done it.whole it.now_is none (rw it.counted less)

-- only those that can go on change
pub only-ready : (old now middle new : RequestsView) (task : TaskView) → now ≡ record old { ready = now.ready }
    → IsWithoutReady task now middle → new ≡ record middle { ready = middle.ready ++ anew task ∷ [] }
    → new ≡ record old { ready = new.ready }
only-ready old now middle new task so out back =
    let last = middle.ready ++ anew task ∷ [] in
    let is : new.ready ≡ last = ap (λ (v : RequestsView). v.ready) back in
    back
    ∙ ap (λ (v : RequestsView). record v { ready = last }) out.others
    ∙ ap (λ (v : RequestsView). record v { ready = last }) so
    ∙ ap (λ l. requests_of l old.held old.waiting old.ended old.limit) (sym is)

-- ---- others follow those that can go on

-- these were held, and can go on now
pub record Holding (old now : RequestsView) : Type 0 where
  pub done : List TaskView
  pub whole : old.held ≡ done ++ now.held
  pub now_is : now ≡ requests_of (old.ready ++ map anew done) now.held old.waiting old.ended old.limit

pub holding-not : (old : RequestsView) → Holding old old
holding-not old = record { done = []; whole = refl; now_is = rw (append-nil old.ready) refl }

module _ (old now middle new : RequestsView) (task : TaskView) (so : Holding old now) (out : IsWithoutHeld task now middle)
    (back : new ≡ record middle { ready = middle.ready ++ anew task ∷ [] }) where
  held-middle : middle ≡ requests_of (old.ready ++ map anew so.done) middle.held old.waiting old.ended old.limit
  held-middle = out.others ∙ ap (λ (v : RequestsView). record v { held = middle.held }) so.now_is

  held-new : new ≡ requests_of ((old.ready ++ map anew so.done) ++ anew task ∷ []) middle.held old.waiting old.ended old.limit
  held-new = back ∙ ap (λ (v : RequestsView). record v { ready = v.ready ++ anew task ∷ [] }) held-middle

  held-grown : (old.ready ++ map anew so.done) ++ anew task ∷ [] ≡ old.ready ++ map anew (so.done ++ task ∷ [])
  held-grown =
      append_assoc old.ready (map anew so.done) (anew task ∷ [])
      ∙ ap (λ l. old.ready ++ l) (sym (map-append anew so.done (task ∷ [])))

  pub holding-on : Holding old new
  holding-on = rw held-new (record {
    done = so.done ++ task ∷ [];
    whole = so.whole ∙ ap (λ l. so.done ++ l) out.first ∙ sym (append_assoc so.done (task ∷ []) middle.held);
    now_is = ap (λ l. requests_of l middle.held old.waiting old.ended old.limit) held-grown;
  })

  pub fewer-held : length new.held < length now.held
  fewer-held =
      let was = ap length out.first in
      let is = ap (λ (v : RequestsView). length v.held) held-new in
      omega (arith, was, is)

pub holding-over : (old now : RequestsView) → Holding old now → now.held ≡ []
    → now ≡ record old { ready = old.ready ++ map anew old.held; held = [] }
holding-over old now so none =
    let all : old.held ≡ so.done = so.whole ∙ ap (λ l. so.done ++ l) none ∙ append-nil so.done in
    so.now_is
    ∙ ap (λ l. requests_of (old.ready ++ map anew so.done) l old.waiting old.ended old.limit) none
    ∙ ap (λ l. requests_of (old.ready ++ map anew l) [] old.waiting old.ended old.limit) (sym all)

-- these waited, and can go on now
pub record Waking (old now : RequestsView) : Type 0 where
  pub done : List WaitingView
  pub whole : old.waiting ≡ done ++ now.waiting
  pub now_is : now
      ≡ requests_of (old.ready ++ map anew (map task_of_waiting done)) old.held now.waiting old.ended old.limit

pub waking-not : (old : RequestsView) → Waking old old
waking-not old = record { done = []; whole = refl; now_is = rw (append-nil old.ready) refl }

module _ (old now middle new : RequestsView) (waiting : WaitingView) (so : Waking old now)
    (out : IsWithoutWaiting waiting now middle)
    (back : new ≡ record middle { ready = middle.ready ++ anew waiting.task ∷ [] }) where
  abbrev woken : List TaskView
  woken = map anew (map task_of_waiting so.done)

  waking-middle : middle ≡ requests_of (old.ready ++ woken) old.held middle.waiting old.ended old.limit
  waking-middle = out.others ∙ ap (λ (v : RequestsView). record v { waiting = middle.waiting }) so.now_is

  waking-new : new ≡ requests_of ((old.ready ++ woken) ++ anew waiting.task ∷ []) old.held middle.waiting old.ended old.limit
  waking-new = back ∙ ap (λ (v : RequestsView). record v { ready = v.ready ++ anew waiting.task ∷ [] }) waking-middle

  waking-grown : (old.ready ++ woken) ++ anew waiting.task ∷ []
      ≡ old.ready ++ map anew (map task_of_waiting (so.done ++ waiting ∷ []))
  waking-grown =
      append_assoc old.ready woken (anew waiting.task ∷ [])
      ∙ ap (λ l. old.ready ++ l)
      (sym
      (ap (map anew) (map-append task_of_waiting so.done (waiting ∷ []))
      ∙ map-append anew (map task_of_waiting so.done) (waiting.task ∷ [])))

  pub waking-on : Waking old new
  waking-on = rw waking-new (record {
    done = so.done ++ waiting ∷ [];
    whole = so.whole ∙ ap (λ l. so.done ++ l) out.first ∙ sym (append_assoc so.done (waiting ∷ []) middle.waiting);
    now_is = ap (λ l. requests_of l old.held middle.waiting old.ended old.limit) waking-grown;
  })

  pub fewer-waiting : length new.waiting < length now.waiting
  fewer-waiting =
      let was = ap length out.first in
      let is = ap (λ (v : RequestsView). length v.waiting) waking-new in
      omega (arith, was, is)

pub waking-over : (old now : RequestsView) → Waking old now → now.waiting ≡ []
    → now ≡ record old { ready = old.ready ++ map anew (map task_of_waiting old.waiting); waiting = [] }
waking-over old now so none =
    let all : old.waiting ≡ so.done = so.whole ∙ ap (λ l. so.done ++ l) none ∙ append-nil so.done in
    so.now_is
    ∙ ap (λ l. requests_of (old.ready ++ map anew (map task_of_waiting so.done)) old.held l old.ended old.limit) none
    ∙ ap (λ l. requests_of (old.ready ++ map anew (map task_of_waiting l)) old.held [] old.ended old.limit) (sym all)

-- ---- all of them

-- one queue after the other
pub all-anew : (it : RequestsView)
    → requests_of (map anew it.ready ++ map anew it.held ++ map anew (map task_of_waiting it.waiting)) [] [] it.ended it.limit
    ≡ restarted it
all-anew it =
    let waited = map task_of_waiting it.waiting in
    ap (λ l. requests_of l [] [] it.ended it.limit)
    (ap (λ l. l ++ map anew waited) (sym (map-append anew it.ready it.held)) ∙ sym (map-append anew (it.ready ++ it.held) waited))

-- the sum over changed items
sum-changed : {X Y : Type 0} (g : Y → ℕ) (f : X → Y) (xs : List X) → sum_by g (map f xs) ≡ sum_by (λ x. g (f x)) xs
sum-changed g f [] = refl
sum-changed g f (x ∷ xs) =
    sum_by-cons g (f x) (map f xs)
    ∙ ap (λ n. g (f x) + n) (sum-changed g f xs)
    ∙ sym (sum_by-cons (λ x. g (f x)) x xs)

-- the same requests are inside
pub restarted-same : (it : RequestsView) → AreSame it (restarted it)
restarted-same it = (
  refl,
  (λ h.
      let g : TaskView → ℕ = λ task. h (sought_of task) in
      let waited = map task_of_waiting it.waiting in
      let all : sum_by g (restarted it).ready ≡ sum_by g (it.ready ++ it.held ++ waited) =
      sum-changed g anew (it.ready ++ it.held ++ waited) in
      let parts = sum_by-append g (it.ready ++ it.held) waited in
      let first = sum_by-append g it.ready it.held in
      let last : sum_by g waited ≡ sum_by (λ (waiting : WaitingView). h (sought_of waiting.task)) it.waiting =
      sum-changed g task_of_waiting it.waiting in
      omega (arith, all, parts, first, last)),
)

module _ (gives : List ℕ → Type 0) (shows : ℕ → Type 0) (seat : SeatView) (it : RequestsView) where
  -- where each outcome is so, all stands
  pub restarted-stands : All (λ (ended : Ended). IsOutcome gives shows seat ended.sought ended.outcome) it.ended
      → Stand gives shows seat (restarted it)
  restarted-stands ended = record {
    ready = All-map (IsCounted gives shows seat) anew (it.ready ++ it.held ++ map task_of_waiting it.waiting)
        (λ k d small. All-nil (Counts gives shows seat));
    held = All-nil (IsCounted gives shows seat);
    waiting = All-nil (λ (waiting : WaitingView). IsCounted gives shows seat waiting.task × Lacks shows seat waiting.task);
    ended = ended;
  }

  -- where no outcome is left, all stands at any seat
  pub restarted-anywhere : it.ended ≡ [] → Stand gives shows seat (restarted it)
  restarted-anywhere none =
      let outcome = λ (ended : Ended). IsOutcome gives shows seat ended.sought ended.outcome in
      restarted-stands (rw none (All-nil outcome))

-- none waits
pub restarted-awaits : (it : RequestsView) (questions : QuestionsView) → AreAwaited (restarted it) questions
restarted-awaits it questions = All-nil (IsIn questions.datagrams.tickets questions.streams.tickets)
