-- Tries of targets, in C's numbers.
use Rattle.std.specs.Prelude.{ℕ, nat_le, Bool, true, false, List, if◌then◌else◌}
use Rattle.sip_selection.specs.Trials.{Trial}
use Rattle.sip_selection.specs.declared.failover.Event.{Event}
use Rattle.sip_selection.specs.declared.failover.Event.TheVariants.{Failed, Responded}
use Rattle.sip_selection.specs.declared.failover.Failure.TheVariants.{Timeout}
use Rattle.sip_selection.specs.declared.target.Target.{Target}
use Rattle.wokhleas.specs.declared.failover.Tries.{Tries}

-- the tries of these targets
abbrev pub trial_of : List Target → Tries → Trial
trial_of targets it = record {
  targets = targets;
  failures = it.failures;
  answered = it.answered;
}

-- what happened to the target that was tried
abbrev pub event_of : Bool → Event
event_of true = Failed Timeout
event_of false = Responded

-- how far the tries are, by its number in C: one is tried, it answered, or all failed
abbrev pub progress_of : Tries → ℕ
progress_of it =
    if nat_le it.count it.failures then 3 else (if it.answered then 2 else 1)
