use Rattle.try_states.proofs.lossy.outcomes_of.Goals as goal

pub finish-requires-clause-stand : goal.finish-requires-clause-stand
finish-requires-clause-stand g c = c.requires c.new-seat.result.1
