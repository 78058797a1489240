use Rattle.try_states.proofs.contended_locator.over_new_cache.Given as goal

abbrev pub ghosts-is_used_by_two : goal.ghosts-is_used_by_two
ghosts-is_used_by_two g a = record { cache = a.cache.now }
