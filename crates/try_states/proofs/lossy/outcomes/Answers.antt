use Rattle.try_states.proofs.lossy.outcomes.Goals as goal

pub outcomes_of-requires : goal.outcomes_of-requires
outcomes_of-requires g c = λ seat. c.add_all.ensures seat (c.in_ok-resolver.ensures seat)
