-- The requests inside a resolver.
use Rattle.std.specs.Prelude.{◌≡◌, ◌==◌, ℕ, ◌+◌, ◌<◌, ◌≤◌, Bool, not, List, [], ◌∷◌, ◌++◌, length, map}
use Rattle.std.specs.List.{All, Contains, filter, sum_by}
use Rattle.answer_cache.specs.Seats.{SeatView}
use Rattle.sip_resolver.specs.Earliest.{IsEarliest, untils_in}
use Rattle.sip_resolver.specs.NumberFilters.{Counts, FilterView}
use Rattle.sip_resolver.specs.Outcomes.{Ended, IsOutcome, Sought}
use Rattle.sip_resolver.specs.Queues.{Queued}
use Rattle.sip_resolver.specs.Tasks.{IsCounted, Lacks, TaskView, WaitingView, sought_of}
use Rattle.sip_resolver.specs.declared.earliest.Earliest.{Earliest}

-- the requests inside: those that can go on, those held because no other question can be asked,
-- those that wait for replies, and those that ended and were not taken; and how many there can be
pub record RequestsView : Type 0 where
  pub ready : List TaskView
  pub held : List TaskView
  pub waiting : List WaitingView
  pub ended : List Ended
  pub limit : ℕ

-- the requests inside: those that are ready, held, waiting and ended, and how many there can be
abbrev pub requests_of : List TaskView → List TaskView → List WaitingView → List Ended → ℕ
    → RequestsView
requests_of ready held waiting ended limit =
    record { ready = ready; held = held; waiting = waiting; ended = ended; limit = limit }

-- how many requests are inside
abbrev pub count_of : RequestsView → ℕ
count_of it = length it.ready + length it.held + length it.waiting + length it.ended

-- the number of a request that waits for a reply
abbrev pub number_of_waiting : WaitingView → ℕ
number_of_waiting it = it.task.number

-- a request of this number waits for the reply to the message of this id
pub record IsAwaitedBy (number id : ℕ) (waiting : List WaitingView) : Type 0 where
  pub it : WaitingView
  pub stands : Contains waiting it
  pub numbered : it.task.number ≡ number
  pub waits : it.id ≡ id

-- the number of a request that has ended
abbrev pub number_of_ended : Ended → ℕ
number_of_ended it = it.sought.number

-- the numbers of the requests inside
abbrev pub numbers_of : RequestsView → List ℕ
numbers_of it =
    map (λ task. task.number) it.ready ++ map (λ task. task.number) it.held
    ++ map number_of_waiting it.waiting ++ map number_of_ended it.ended

-- the sum of the weights of the requests inside
abbrev pub weight : (Sought → ℕ) → RequestsView → ℕ
weight h it =
    sum_by (λ task. h (sought_of task)) it.ready + sum_by (λ task. h (sought_of task)) it.held
    + sum_by (λ waiting. h (sought_of waiting.task)) it.waiting
    + sum_by (λ ended. h ended.sought) it.ended

-- the same requests are inside, each as often as before
abbrev pub AreSame : RequestsView → RequestsView → Type 0
AreSame old new = (new.limit ≡ old.limit) × ((h : Sought → ℕ) → weight h new ≡ weight h old)

-- one request more is inside, wherever it is
pub record IsBack (sought : Sought) (old new : RequestsView) : Type 0 where
  pub limit : new.limit ≡ old.limit
  pub weighs : (h : Sought → ℕ) → weight h new ≡ weight h old + h sought

-- a request waits for the reply to the question of this id
abbrev pub waits_for : ℕ → WaitingView → Bool
waits_for id waiting = waiting.id == id

-- the requests that wait for the reply to the question of this id
abbrev pub waiting_for : ℕ → List WaitingView → List WaitingView
waiting_for id waiting = filter (waits_for id) waiting

-- a request waits for the reply to a question of another id
abbrev pub waits_for_other : ℕ → WaitingView → Bool
waits_for_other id waiting = not (waits_for id waiting)

-- the requests that wait for the reply to a question of another id
abbrev pub waiting_without : ℕ → List WaitingView → List WaitingView
waiting_without id waiting = filter (waits_for_other id) waiting

-- ---- one is taken out

pub record IsWithoutReady (task : TaskView) (old new : RequestsView) : Type 0 where
  pub first : old.ready ≡ task ∷ new.ready
  pub others : new ≡ record old { ready = new.ready }
  pub room : count_of new < new.limit

pub record IsWithoutHeld (task : TaskView) (old new : RequestsView) : Type 0 where
  pub first : old.held ≡ task ∷ new.held
  pub others : new ≡ record old { held = new.held }
  pub room : count_of new < new.limit

pub record IsWithoutWaiting (waiting : WaitingView) (old new : RequestsView) : Type 0 where
  pub first : old.waiting ≡ waiting ∷ new.waiting
  pub others : new ≡ record old { waiting = new.waiting }
  pub room : count_of new < new.limit

-- the first one that waits for the reply to the question of this id is taken out from its place
pub record IsWithoutWaitingFor (id : ℕ) (task : TaskView) (old new : RequestsView) : Type 0 where
  pub first : List WaitingView
  pub later : List WaitingView
  pub was : old.waiting ≡ first ++ record { id = id; task = task } ∷ later
  pub is_first : waiting_for id first ≡ []
  pub others : new ≡ record old { waiting = first ++ later }
  pub room : count_of new < new.limit

-- one of this number is taken out from its place
pub record IsWithoutNumbered (number : ℕ) (waiting : WaitingView) (old new : RequestsView) : Type 0
  where
    pub first : List WaitingView
    pub later : List WaitingView
    pub was : old.waiting ≡ first ++ waiting ∷ later
    pub has_number : waiting.task.number ≡ number
    pub others : new ≡ record old { waiting = first ++ later }
    pub room : count_of new < new.limit

pub record IsWithoutEnded (ended : Ended) (old new : RequestsView) : Type 0 where
  pub first : old.ended ≡ ended ∷ new.ended
  pub others : new ≡ record old { ended = new.ended }
  pub room : count_of new < new.limit

-- ---- room

-- each queue has room for all
pub record HaveRoom (ready held : Queued TaskView) (waiting : Queued WaitingView)
    (ended : Queued Ended) (limit : ℕ) : Type 0 where
  pub ready_room : ready.room ≡ limit
  pub held_room : held.room ≡ limit
  pub waiting_room : waiting.room ≡ limit
  pub ended_room : ended.room ≡ limit
  pub few : length ready.items + length held.items + length waiting.items + length ended.items
      ≤ limit

-- the sum of what the numbers of the requests inside weigh
abbrev pub weigh_numbers : RequestsView → (ℕ → ℕ) → ℕ
weigh_numbers it h = weight (λ sought. h sought.number) it

-- each queue has room for all, and what is known of the first moment by which one ends and of the
-- numbers is so
pub record AreKept (ready held : Queued TaskView) (waiting : Queued WaitingView)
    (ended : Queued Ended) (limit : ℕ) (earliest : Earliest) (numbers : FilterView) : Type 0 where
  pub room : HaveRoom ready held waiting ended limit
  pub fits : limit ≤ 65536
  pub earliest_is : IsEarliest (untils_in ready.items held.items waiting.items) earliest
  pub numbers_are : Counts
      (weigh_numbers (requests_of ready.items held.items waiting.items ended.items limit)) numbers

-- ---- what is so of them, at a seat

-- What holds of the requests inside: each answer that a request was given counts, what a waiting
-- request needs was lacking, and the outcome of each that ended is true.
pub record Stand (gives : List ℕ → Type 0) (shows : ℕ → Type 0) (seat : SeatView)
    (it : RequestsView) : Type 0 where
  pub ready : All (IsCounted gives shows seat) it.ready
  pub held : All (IsCounted gives shows seat) it.held
  pub waiting : All (λ waiting. IsCounted gives shows seat waiting.task
      × Lacks shows seat waiting.task) it.waiting
  pub ended : All (λ ended. IsOutcome gives shows seat ended.sought ended.outcome) it.ended
