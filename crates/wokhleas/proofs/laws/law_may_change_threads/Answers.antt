use Rattle.wokhleas.proofs.Crossing.{handle-send}
use Rattle.wokhleas.proofs.laws.law_may_change_threads.Goals as goal

pub returns : goal.returns
returns c = handle-send
