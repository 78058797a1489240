use Rattle.try_states.proofs.contended.said_by_seats.Given as goal

abbrev pub ghosts-said_by_two : goal.ghosts-said_by_two
ghosts-said_by_two g a = record { cache = a.cache.now }
