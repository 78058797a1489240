-- A batch while its jobs are resolved. No public clause cites this module.
use Rattle.std.specs.Prelude.{◌≡◌, ◌⊎◌, ℕ, ◌+◌, ◌<◌, ◌≤◌, ◌==◌, ◌&&◌, Bool, None, if◌then◌else◌, List, [], ◌∷◌, length, get_or}
use Rattle.std.specs.List.{AllZip}
use Rattle.std.specs.Option.{is_none}
use Rattle.answer_cache.specs.Seats.{SeatView}
use Rattle.sip_resolver.specs.Outcomes.{Sought}
use Rattle.sip_resolver.specs.Requests.{RequestsView, Stand, weight}
use Rattle.sip_resolver.specs.declared.outcome.Outcome.{Outcome}
use Rattle.sip_worker.specs.Gates.{GateCall, begins, is_answered}
use Rattle.sip_worker.specs.Outcomes.{IsOutcomeAt}
use Rattle.sip_worker.specs.SameJobs.{same_job}
use Rattle.sip_worker.specs.declared.job.Job.{Job}

-- the jobs, how many of them were begun, the requests that are inside, and what became of each job
-- so far
pub record BatchView : Type 0 where
  pub jobs : List Job
  pub begun : ℕ
  pub requests : RequestsView
  pub outcomes : List Outcome

-- ---- whose request is whose

-- the job with this place as its number
abbrev pub at_place : ℕ → Job → Job
at_place place job = record job { number = place }

-- what is submitted of the job at a place
abbrev pub sought_at : ℕ → Job → Sought
sought_at place job = record {
  number = place;
  request = job.request;
  caps = job.caps;
  words = job.words.0;
  until = None;
}

-- the job of which this would be submitted
abbrev pub job_of : Sought → Job
job_of sought = record {
  number = sought.number;
  request = sought.request;
  caps = sought.caps;
  words = record { 0 = sought.words };
}

-- it is what is submitted of the job at this place
abbrev pub is_of : ℕ → Job → Sought → Bool
is_of place job sought =
    same_job (at_place place job) (job_of sought) && is_none sought.until

-- 0 for what is submitted of one of these jobs, of which the first is at this place; else 1
abbrev pub strange_from : ℕ → List Job → Sought → ℕ
strange_from place [] sought = 1
strange_from place (job ∷ jobs) sought =
    if is_of place job sought then 0 else strange_from (place + 1) jobs sought

abbrev pub strange : List Job → Sought → ℕ
strange jobs sought = strange_from 0 jobs sought

-- So many of the jobs were begun; each request is that of a job, under the place of the job; and
-- each job has a place for its outcome.
pub record Fits (jobs : List Job) (begun : ℕ) (requests : RequestsView) (outcomes : List Outcome)
    : Type 0 where
  pub few : begun ≤ length jobs
  pub own : weight (strange jobs) requests ≡ 0
  pub as_many : length outcomes ≡ length jobs

-- ---- what is so at a seat

-- what became of the jobs, in their order
abbrev pub AreTold : (List ℕ → Type 0) → (ℕ → Type 0) → SeatView → List Job → List Outcome → Type 0
AreTold gives shows seat jobs outcomes = AllZip (IsOutcomeAt gives shows seat) jobs outcomes

pub record Stands (gives : List ℕ → Type 0) (shows : ℕ → Type 0) (seat : SeatView)
    (batch : BatchView) : Type 0 where
  pub requests : Stand gives shows seat batch.requests
  pub told : AreTold gives shows seat batch.jobs batch.outcomes

-- ---- what a gate was told

-- 1 for what is submitted under this place
abbrev pub at_number : ℕ → Sought → ℕ
at_number place sought = if sought.number == place then 1 else 0

-- a gate was told that the work on the job at a place begins; and that it has its outcome, unless
-- its request is still inside
pub record IsReported (told : GateCall → Type 0) (place : ℕ) (job : Job) (requests : RequestsView)
    : Type 0 where
  pub began : told (begins job.number)
  pub ended : told (is_answered job.number) ⊎ (0 < weight (at_number place) requests)

-- a gate was told of each of these jobs that was begun
abbrev pub AreReported : (GateCall → Type 0) → List Job → ℕ → RequestsView → Type 0
AreReported told jobs begun requests =
    (place : ℕ) (job : Job) → place < begun → job ≡ get_or jobs place job
    → IsReported told place job requests

-- each job was begun, and no request is inside any more
pub record IsDone (batch : BatchView) : Type 0 where
  pub all : batch.begun ≡ length batch.jobs
  pub none : (h : Sought → ℕ) → weight h batch.requests ≡ 0
