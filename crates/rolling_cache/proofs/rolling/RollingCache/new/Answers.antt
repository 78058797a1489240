use Rattle.answer_cache.proofs.Seating.{refuses-seats}
use Rattle.rolling_cache.proofs.rolling.RollingCache.new.Goals as goal

pub returns-clause-refused : goal.returns-clause-refused
returns-clause-refused c = refuses-seats c.with_groups.result c.args.seats c.with_groups.ensures.refused
