use Rattle.std.proofs.lemmas.List.Elements.{All-pop}
use Rattle.rolling_cache.specs.Rolling.{IsSeatOf}
use Rattle.try_calls.proofs.rolling.last_of.Goals as goal

pub returns-clause-left : goal.returns-clause-left
returns-clause-left c =
    (All-pop (IsSeatOf c.args.cache.now) c.args.seats.now.items c.pop.new.self.items c.pop.result c.pop.ensures.items c.requires).0

pub returns-clause-last : goal.returns-clause-last
returns-clause-last c =
    (All-pop (IsSeatOf c.args.cache.now) c.args.seats.now.items c.pop.new.self.items c.pop.result c.pop.ensures.items c.requires).1
