-- How the jobs of a run are cut into batches, and what workers make of those that they take.
use Rattle.std.specs.Prelude.{◌≡◌, ℕ, ◌+◌, ◌<◌, ◌≤◌, ◌==◌, if◌then◌else◌, Bool, true, List, [], ◌∷◌, ◌++◌, drop, flat_map, length, map, take}
use Rattle.std.specs.List.{All, sum_by}
use mathlib.Core.List.{IsPrefix}
use Rattle.answer_log.specs.Histories.{mine}
use Rattle.answer_log.specs.declared.store.Store.{Store}
use Rattle.answer_cache.specs.Seats.{SeatView}
use Rattle.answer_cache.specs.Shared.{Belongs, CacheView, NoticeView, SharedView}
use Rattle.sip_workers.specs.Gathers.{job_in}
use Rattle.sip_worker.specs.Gates.{GateCall, IsToldOf}
use Rattle.sip_worker.specs.Outcomes.{IsOutcome, ResultView}
use Rattle.sip_workers.specs.Rules.{pass_view}
use Rattle.sip_workers.specs.Runs.{IsHistoryOf, IsOfReply}
use Rattle.sip_workers.specs.declared.batch.Batch.{Batch}
use Rattle.sip_worker.specs.declared.job.Job.{Job}
use Rattle.sip_resolver.specs.declared.outcome.Outcome.{Outcome}
use Rattle.sip_workers.specs.declared.queue.PassView.{PassView}

-- ---- batches

-- the jobs of a batch
abbrev pub jobs_of : List Job → Batch → List Job
jobs_of jobs batch = take batch.count (drop batch.first jobs)

-- the jobs of a batch are in the list
abbrev pub IsInside : List Job → Batch → Type 0
IsInside jobs batch = batch.first + batch.count ≤ length jobs

-- a batch has jobs
abbrev pub IsSome : Batch → Type 0
IsSome batch = 0 < batch.count

-- batches are cut from this number of the jobs, from the first one on
pub record IsCut (jobs : List Job) (count : ℕ) (batches : List Batch) : Type 0 where
  pub whole : flat_map (jobs_of jobs) batches ≡ take count jobs
  pub inside : All (IsInside jobs) batches
  pub some : All IsSome batches

-- batches of this size from this place on, up to so many jobs; the last one may be smaller
abbrev pub AreSized : ℕ → ℕ → ℕ → List Batch → Type 0
AreSized size jobs first [] = jobs ≤ first
AreSized size jobs first (batch ∷ later) =
    (batch.first ≡ first) × (batch.count ≤ size) × (batch.count < size → jobs ≤ first + batch.count)
    × AreSized size jobs (first + batch.count) later

-- the end that is put
abbrev pub no_more : Batch
no_more = record { first = 0; count = 0 }

-- 1 for an end
abbrev pub end_of : Batch → ℕ
end_of batch = if batch.count == 0 then 1 else 0

-- ---- what is made of them

-- what a worker knows: it has one part, and where it ended for an end it took one
pub record IsTaken (known : PassView) (ended : Bool) : Type 0 where
  pub one : known.parts ≡ 1
  pub took_end : ended ≡ true → 1 ≤ sum_by end_of known.taken

module _ (gives : List ℕ → Type 0) (shows : ℕ → Type 0) where
  -- what a result says of its job
  abbrev pub IsTold : ResultView → Type 0
  IsTold it = IsOutcome gives shows it.notice.seen it.job it.outcome

  -- a seat has the stores that it had, and then answers of replies alone
  pub record StoresReplies (old new : SeatView) : Type 0 where
    pub number : new.number ≡ old.number
    pub stores : List Store
    pub own : new.own ≡ old.own ++ stores
    pub replies : All (IsOfReply gives shows) stores

  module _ (cache : CacheView) where
    -- a seat that a worker brings home, as it was before the run and as it is
    pub record ComesHome (first last : SharedView) : Type 0 where
      pub here : Belongs cache last
      pub stored : StoresReplies first.seat last.seat

    -- one more seat comes home, after the others
    pub record BringsHome (first : SharedView) (old new : List SharedView) : Type 0 where
      pub last : SharedView
      pub after : new ≡ old ++ last ∷ []
      pub home : ComesHome first last

    module _ (told : GateCall → Type 0) where
      -- what a worker reports of a job, of which the gate was told, with a notice of this cache
      pub record IsReport (it : ResultView) : Type 0 where
        pub says : IsTold it
        pub here : it.notice.cache ≡ cache
        pub gate : IsToldOf told it.job

      -- reports of the jobs of all that was taken
      pub record AreTaken (jobs : List Job) (known : PassView) (made : List ResultView)
          : Type 0 where
        pub made_of : map job_in made ≡ flat_map (jobs_of jobs) known.taken
        pub told_of : All IsReport made

-- the same, with this put
abbrev pub stays_with : PassView → List Batch → PassView
stays_with known put = pass_view known.deals known.parts put known.taken

-- each job has as many results as the list has it
abbrev pub EachOnce : List Job → List ResultView → Type 0
EachOnce jobs made = (h : Job → ℕ) → sum_by h (map job_in made) ≡ sum_by h jobs

-- ---- the history that is seen at last

-- a seat has learned what others have seen, and has stored nothing
pub record StaysSo (old new : SeatView) : Type 0 where
  pub number : new.number ≡ old.number
  pub own : new.own ≡ old.own
  pub seen : IsPrefix old.seen new.seen

-- there is one history of this cache: what each of these notices tells is its beginning, and of
-- each of these seats it has the stores that the seat made, once each and in their order
pub record TellsOneHistory (cache : CacheView) (seats : List SharedView)
    (made : List (Outcome × NoticeView)) : Type 0 where
  pub history : List Store
  pub is : IsHistoryOf cache history
  pub begin : All (λ it. IsPrefix it.1.seen history) made
  pub whole : All (λ seat. mine history seat.seat.number ≡ seat.seat.own) seats

-- ---- promises

-- a promise of a worker, in its own words
pub record IsPromise {Queue Gate : Type 0} (queue its_queue : Queue) (jobs its_jobs : List Job)
    (cache its_cache : CacheView) (gate its_gate : Gate) : Type 0 where
  pub queue_is : its_queue ≡ queue
  pub jobs_are : its_jobs ≡ jobs
  pub cache_is : its_cache ≡ cache
  pub gate_is : its_gate ≡ gate
