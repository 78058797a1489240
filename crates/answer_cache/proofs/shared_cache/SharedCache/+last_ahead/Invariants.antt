use Rattle.answer_cache.proofs.shared_cache.SharedCache.+last_ahead.Given as goal

abbrev pub decreases-last_ahead : goal.decreases-last_ahead
decreases-last_ahead l = l.links
