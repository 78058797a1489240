-- Many requests at once: what stands in their lines, and what becomes of each.
use Rattle.std.specs.Prelude.{◌≡◌, ◌≢◌, ◌+◌, ◌<◌, ◌⊎◌, ◌++◌, ⊤, ℕ, zero, suc, List, [], ◌∷◌, replicate}
use Rattle.std.specs.List.{All}
use Rattle.std.specs.Str.Lines.{lines}
use Rattle.answer_log.specs.declared.store.Store.{Store}
use Rattle.answer_cache.specs.Shared.{CacheView, NoticeView, SharedView}
use Rattle.sip_selection.specs.declared.caps.Families.TheVariants.{V4ThenV6}
use Rattle.sip_selection.specs.declared.request.Request.{Request}
use Rattle.sip_uri.specs.declared.refusal.UriRefusal.{UriRefusal}
use Rattle.sip_uri.specs.declared.refusal.UriRefusal.TheVariants as uri
use Rattle.sip_worker.specs.Outcomes.{IsOutcome}
use Rattle.sip_workers.specs.Runs.{HasStoresOf, IsHistoryOf}
use Rattle.sip_worker.specs.declared.job.Job.{Job}
use Rattle.sip_resolver.specs.Draws.{drawn}
use Rattle.sip_resolver.specs.declared.outcome.Outcome.{Outcome}
use Rattle.sip_workers.specs.declared.refusal.RunRefusal.{RunRefusal}
use Rattle.sip_workers.specs.declared.refusal.RunRefusal.TheVariants.{BadCount, NoThread, Memory, Gathering}
use Rattle.siplocate.specs.Outcomes.{shown_from, status_of_all}
use Rattle.sip_selection.specs.RequestLines.{RequestText}
use Rattle.siplocate_one.specs.Talks.{own_caps}
use Rattle.siplocate.specs.declared.line_outcome.LineOutcome.{LineOutcome}
use Rattle.siplocate.specs.declared.line_outcome.LineOutcome.TheVariants as line_outcome
use Rattle.siplocate.specs.declared.requests.RequestLine.{RequestLine}
use Rattle.siplocate.specs.declared.requests.RequestLine.TheVariants as entry

-- ---- what a line of the requests is

-- the job of the request in the line of this number (RFC 3263 4)
pub record IsJob (number : ℕ) (line : List ℕ) (job : Job) : Type 0 where
  pub numbered : job.number ≡ number
  pub spelled : RequestText line job.request
  pub can : job.caps ≡ own_caps V4ThenV6
  pub draws : job.words.0 ≡ drawn (replicate 32 0) number

-- a line is no request, and is refused for a reason other than memory
pub record IsNoRequest (line : List ℕ) (refusal : UriRefusal) : Type 0 where
  pub none : (request : Request) → RequestText line request → ⊥
  pub said : refusal ≢ uri.Memory

-- what stands in the line of this number, and the jobs before and after it
abbrev pub IsRequestLine : ℕ → List ℕ → List Job → List Job → RequestLine → Type 0
IsRequestLine number line jobs after entry.Request = (job : Job) × IsJob number line job
    × (after ≡ jobs ++ job ∷ [])
IsRequestLine number line jobs after (entry.Bad refusal) = IsNoRequest line refusal × (after ≡ jobs)

-- what lines are that are numbered from this number on, and the jobs of those that are requests
abbrev pub AreRequestLines : ℕ → List (List ℕ) → List RequestLine → List Job → Type 0
AreRequestLines number [] [] [] = ⊤
AreRequestLines number (line ∷ lines) (entry.Request ∷ entries) (job ∷ jobs) =
    IsJob number line job × AreRequestLines (number + 1) lines entries jobs
AreRequestLines number (line ∷ lines) (entry.Bad refusal ∷ entries) jobs =
    IsNoRequest line refusal × AreRequestLines (number + 1) lines entries jobs
AreRequestLines number lines entries jobs = ⊥

-- ---- how many requests there are

-- a line is a request
abbrev pub IsRequest : List ℕ → Type 0
IsRequest line = (request : Request) × RequestText line request

-- at least this number of these lines are requests
abbrev pub HasRequests : ℕ → List (List ℕ) → Type 0
HasRequests zero lines = ⊤
HasRequests (suc count) [] = ⊥
HasRequests (suc count) (line ∷ lines) = (IsRequest line × HasRequests count lines)
    ⊎ HasRequests (suc count) lines

-- a text has more requests than a run takes, which is 10,000
abbrev pub HasTooMany : List ℕ → Type 0
HasTooMany text = HasRequests 10001 (lines text)

-- there are seats, with a wire for each
abbrev pub FitsSeats : ℕ → ℕ → Type 0
FitsSeats seats wires = (0 < seats) × (wires ≡ seats)

-- The counts are bad only where there are too many requests, or the wires do not fit the seats.
abbrev pub RefusesText : List ℕ → ℕ → ℕ → RunRefusal → Type 0
RefusesText text seats wires BadCount = HasTooMany text ⊎ (FitsSeats seats wires → ⊥)
RefusesText text seats wires NoThread = FitsSeats seats wires × (HasTooMany text → ⊥)
RefusesText text seats wires Memory = ⊤
RefusesText text seats wires (Gathering refusal) = ⊤

-- ---- what becomes of it

-- what becomes of lines, by what they are and by what became of the requests among them, in order
abbrev pub line_outcomes_of : List RequestLine → List (Outcome × NoticeView) → List LineOutcome
line_outcomes_of [] made = []
line_outcomes_of (entry.Bad refusal ∷ entries) made = line_outcome.Bad refusal ∷ line_outcomes_of
    entries made
line_outcomes_of (entry.Request ∷ entries) [] = []
line_outcomes_of (entry.Request ∷ entries) (first ∷ made) = line_outcome.Became first.0 ∷
    line_outcomes_of entries made

-- over a wire, a clock and a history of stores
module _ (gives : List ℕ → Type 0) (shows : ℕ → Type 0) (history : List Store) where
  -- the line of this number is a request, and this is its outcome
  pub record IsLocated (number : ℕ) (line : List ℕ) (outcome : Outcome) : Type 0 where
    pub job : Job
    pub is : IsJob number line job
    pub told : IsOutcome gives shows history job outcome

  -- what becomes of the line of this number
  abbrev pub IsLineOutcome : ℕ → List ℕ → LineOutcome → Type 0
  IsLineOutcome number line (line_outcome.Became outcome) = IsLocated number line outcome
  IsLineOutcome number line (line_outcome.Bad refusal) = IsNoRequest line refusal

  -- what becomes of lines that are numbered from this number on
  abbrev pub AreLineOutcomes : ℕ → List (List ℕ) → List LineOutcome → Type 0
  AreLineOutcomes number [] [] = ⊤
  AreLineOutcomes number (line ∷ lines) (line_outcome ∷ line_outcomes) = IsLineOutcome number line
      line_outcome
      × AreLineOutcomes (number + 1) lines line_outcomes
  AreLineOutcomes number lines line_outcomes = ⊥

-- What is printed of the requests of a text, whose lines are numbered from 1, and the status. There
-- is one history of the cache, which has what each seat stored (`HasStoresOf`). By that each line
-- has a fate (`AreLineOutcomes`): an outcome as `run_workers` gives it (`IsLocated`), or that it is
-- no request (`IsNoRequest`).
pub record IsRun (gives : List ℕ → Type 0) (shows : ℕ → Type 0) (cache : CacheView)
    (seats : List SharedView) (text printed : List ℕ) (status : ℕ) : Type 0 where
  pub history : List Store
  pub is : IsHistoryOf cache history
  pub stores : All (λ seat. HasStoresOf gives shows history seat.seat) seats
  pub line_outcomes : List LineOutcome
  pub are : AreLineOutcomes gives shows history 1 (lines text) line_outcomes
  pub shown : printed ≡ shown_from 1 line_outcomes
  pub status_is : status ≡ status_of_all line_outcomes
