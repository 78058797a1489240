use Rattle.rolling_cache.proofs.Late.{moves-on}
use Rattle.rolling_cache.proofs.seat.RollingSeat.go_over.Goals as goal

pub returns : goal.returns
returns g c =
    moves-on c.args.now c.args.self.now c.args.next c.replace-before.new.dest c.replace-before.result c.store_again.new.self
    c.replace-before.ensures.after c.replace-before.ensures.value c.requires.fresh c.requires.later c.store_again.ensures.at
    c.store_again.ensures.generation c.store_again.ensures.goes_on c.store_again.ensures.again
