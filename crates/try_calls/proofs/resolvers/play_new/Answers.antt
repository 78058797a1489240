use Rattle.try_calls.proofs.resolvers.play_new.Goals as goal

pub play-requires-clause-stand : goal.play-requires-clause-stand
play-requires-clause-stand g c = c.in-Some.ensures c.new-seat.result.1
