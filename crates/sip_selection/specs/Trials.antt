-- Targets that are tried one after the other, as events tell how it went (RFC 3263 4.3).
use Rattle.std.specs.Prelude.{ℕ, ◌+◌, nat_lt, Bool, true, false, List, [], ◌∷◌, length, take, if◌then◌else◌}
use Rattle.sip_selection.specs.declared.failover.Event.{Event}
use Rattle.sip_selection.specs.declared.failover.Event.TheVariants.{Failed, Responded}
use Rattle.sip_selection.specs.declared.failover.Progress.{Progress}
use Rattle.sip_selection.specs.declared.failover.Progress.TheVariants.{Trying, Answered, Exhausted}
use Rattle.sip_selection.specs.declared.target.Target.{Target}

-- ---- by all events

-- how many failures come before the first response
abbrev pub failures_in : List Event → ℕ
failures_in [] = 0
failures_in (Failed failure ∷ events) = failures_in events + 1
failures_in (Responded ∷ events) = 0

-- an event is a response
abbrev pub is_answered : List Event → Bool
is_answered [] = false
is_answered (Failed failure ∷ events) = is_answered events
is_answered (Responded ∷ events) = true

-- the targets that are tried by these events: one more than failed, as far as there are any
abbrev pub tried_by : List Target → List Event → List Target
tried_by targets events = take (failures_in events + 1) targets

-- how far these events lead: to an end where no target is left, or one answered
abbrev pub progress_by : List Target → List Event → Progress
progress_by targets events =
    if nat_lt (failures_in events) (length targets)
    then (if is_answered events then Answered else Trying)
    else Exhausted

-- ---- by one event after the other

-- the targets of a request, how many of them failed, and whether one answered
pub record Trial : Type 0 where
  pub targets : List Target
  pub failures : ℕ
  pub answered : Bool

-- targets of which none has failed, and none has answered
abbrev pub begun : List Target → Trial
begun targets = record { targets = targets; failures = 0; answered = false }

-- how far the tries are: a target is tried, one answered, or all have failed
abbrev pub progress_of : Trial → Progress
progress_of trial =
    if nat_lt trial.failures (length trial.targets)
    then (if trial.answered then Answered else Trying)
    else Exhausted

-- the targets that have been tried: those that failed, and the next one
abbrev pub tried_in : Trial → List Target
tried_in trial = take (trial.failures + 1) trial.targets

-- the tries after an event, while a target is being tried
abbrev pub told : Trial → Event → Trial
told trial (Failed failure) = record trial { failures = trial.failures + 1 }
told trial Responded = record trial { answered = true }

-- the tries after an event, by how far they were: after the end it changes nothing
abbrev pub moved_on : Progress → Trial → Event → Trial
moved_on Trying trial event = told trial event
moved_on Answered trial event = trial
moved_on Exhausted trial event = trial

-- the tries after an event, which changes nothing after the end
abbrev pub next_trial : Trial → Event → Trial
next_trial trial event = moved_on (progress_of trial) trial event
