-- What a gate is told.
use Rattle.std.specs.Prelude.{ℕ}
use Rattle.sip_worker.specs.declared.job.Job.{Job}

-- a call of a gate: the work on the request of a number begins, or the request has its outcome
pub data GateCall : Type 0 where
  begins : ℕ → GateCall
  is_answered : ℕ → GateCall

-- a gate was told of a job that the work on it begins, and that it has its outcome
pub record IsToldOf (told : GateCall → Type 0) (job : Job) : Type 0 where
  pub began : told (begins job.number)
  pub ended : told (is_answered job.number)
