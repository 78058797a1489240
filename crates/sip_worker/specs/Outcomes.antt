-- What becomes of a job, and what that rests on: what a cache answered, and what a wire gave.
use Rattle.std.specs.Prelude.{◌≡◌, ◌⊎◌, ℕ, List}
use Rattle.std.specs.List.{All}
use Rattle.answer_log.specs.declared.store.Store.{Store}
use Rattle.answer_cache.specs.Seats.{SeatView}
use Rattle.answer_cache.specs.Shared.{NoticeView}
use Rattle.sip_selection.specs.Choice.{Resolution, locate, targets, refused, need}
use Rattle.sip_selection.specs.Known.{Given}
use Rattle.sip_selection.specs.Requests.{target_of}
use Rattle.sip_resolver.specs.Outcomes.{IsCached, IsFaulty, IsLacking, IsReplied}
use Rattle.sip_resolver.specs.Outcomes.{Counts as CountsAt}
use Rattle.sip_resolver.specs.declared.outcome.Outcome.{Outcome}
use Rattle.sip_resolver.specs.declared.outcome.Outcome.TheVariants.{Targets, Refused, NoAnswer, NoServer, BadReply, Memory}
use Rattle.sip_worker.specs.declared.job.Job.{Job}

-- what contracts see of a result: a job, what became of it, and what its worker had seen then
pub record ResultView : Type 0 where
  pub job : Job
  pub outcome : Outcome
  pub notice : NoticeView

-- with these answers, each of which counts, this is the choice of RFC 3263 4 and 5
pub record IsChosen (counts : Given → Type 0) (job : Job) (resolution : Resolution) : Type 0 where
  pub given : List Given
  pub counted : All counts given
  pub is : locate job.request job.caps job.words.0 given ≡ resolution

-- what an outcome says of a job, where these answers count; a certificate has to be of the host
-- that was asked for (RFC 3263 4.1, RFC 3261 26.3.1); an outcome for want of memory says nothing
abbrev pub Says : (List ℕ → Type 0) → (ℕ → Type 0) → List Store → (Given → Type 0)
    → Job → Outcome → Type 0
Says gives shows seen counts job (Targets list) =
    IsChosen counts job (targets list.targets) × (list.certificate_host ≡ target_of job.request)
Says gives shows seen counts job (Refused reason) = IsChosen counts job (refused reason)
Says gives shows seen counts job (NoAnswer question) =
    IsChosen counts job (need question) × IsLacking shows seen question
Says gives shows seen counts job (NoServer question) =
    IsChosen counts job (need question) × IsLacking shows seen question
Says gives shows seen counts job (BadReply question refusal) =
    IsChosen counts job (need question) × IsFaulty gives question refusal
Says gives shows seen counts job Memory = Unit {0}

-- ---- at a seat

-- The outcome of a job at a seat: it is the choice of RFC 3263 4 and 5 over answers that the seat
-- looked up, and of replies whose answers it handed to the cache; or the question whose answer is
-- missing.
abbrev pub IsOutcomeAt : (List ℕ → Type 0) → (ℕ → Type 0) → SeatView → Job → Outcome → Type 0
IsOutcomeAt gives shows seat job outcome =
    Says gives shows seat.seen (CountsAt gives shows seat) job outcome

-- ---- for all

-- an answer counts: it was looked up, or a reply had it
abbrev pub Counts : (List ℕ → Type 0) → (ℕ → Type 0) → List Store → Given → Type 0
Counts gives shows seen given =
    IsCached shows seen given ⊎ IsReplied gives given.question given.answer

-- The outcome of a job, over a history, a wire and a clock: it is the choice of RFC 3263 4 and 5
-- over answers of that history, at moments that the clock showed, and of replies that the wire
-- gave; or the question whose answer is missing.
abbrev pub IsOutcome : (List ℕ → Type 0) → (ℕ → Type 0) → List Store → Job → Outcome → Type 0
IsOutcome gives shows seen job outcome = Says gives shows seen (Counts gives shows seen) job outcome
