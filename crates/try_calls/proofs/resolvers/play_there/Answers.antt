use Rattle.try_calls.proofs.resolvers.play_there.Goals as goal

pub play-requires-clause-stand : goal.play-requires-clause-stand
play-requires-clause-stand g c = c.requires.stand c.new-seat.result.1
