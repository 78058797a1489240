use Rattle.sip_selection.proofs.TrialRuns.{tried_is, progress_is}
use Rattle.sip_selection.proofs.laws.law_trials_follow_events.Goals as goal

pub returns-clause-tried : goal.returns-clause-tried
returns-clause-tried c = λ targets events. tried_is targets events

pub returns-clause-progress : goal.returns-clause-progress
returns-clause-progress c = λ targets events. progress_is targets events
