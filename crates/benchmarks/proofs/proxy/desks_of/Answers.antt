use Rattle.std.proofs.lemmas.List.Elements.{All-tail}
use Rattle.rolling_cache.specs.Rolling.{IsSeatOf}
use Rattle.benchmarks.proofs.proxy.desks_of.Goals as goal

pub seats-preserved : goal.seats-preserved
seats-preserved c =
    All-tail (IsSeatOf c.args.cache.now) c.in-Some.seat c.next.new.self.rest.items (rw c.in-Some.ensures.steps.0 at c.seats.invariant)
