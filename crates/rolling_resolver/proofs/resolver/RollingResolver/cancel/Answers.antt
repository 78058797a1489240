use Rattle.std.proofs.Common.{ap, ◌∙◌}
use Rattle.rolling_resolver.specs.Rolling.{GenerationView}
use Rattle.rolling_resolver.proofs.Cancelling.{found-older, found-younger, none-inside, unchanged-after}
use Rattle.rolling_resolver.proofs.resolver.RollingResolver.cancel.Goals as goal

pub returns-then-cancel_older-clause-found : goal.returns-then-cancel_older-clause-found
returns-then-cancel_older-clause-found c =
    rw (← c.self.view_is) (found-older c.cancel_older.result c.cancel_older.ensures.found c.if-cancel_older.true)

pub returns-then-cancel_older-clause-gone : goal.returns-then-cancel_older-clause-gone
returns-then-cancel_older-clause-gone c =
    none-inside c.args.number c.cancel-younger.new.self c.cancel_older.new.self c.cancel_older.ensures.current
    c.cancel-younger.ensures.gone c.cancel_older.ensures.gone

pub returns-then-cancel_older-clause-seats : goal.returns-then-cancel_older-clause-seats
returns-then-cancel_older-clause-seats c =
    rw (← c.self.view_is) (record {
      current = ap (λ (g : GenerationView). g.seat) c.cancel_older.ensures.current
          ∙ ap (λ (g : GenerationView). g.seat) c.cancel-younger.ensures.others;
      draining = c.cancel_older.ensures.seat;
    })

pub returns-clause-found : goal.returns-clause-found
returns-clause-found c =
    rw (← c.self.view_is)
    (found-younger c.cancel-younger.result c.cancel_older.result c.cancel-younger.ensures.found c.cancel_older.ensures.found
    c.if-cancel_older.false)

pub returns-clause-gone : goal.returns-clause-gone
returns-clause-gone c =
    none-inside c.args.number c.cancel-younger.new.self c.cancel_older.new.self c.cancel_older.ensures.current
    c.cancel-younger.ensures.gone c.cancel_older.ensures.gone

pub returns-clause-seats : goal.returns-clause-seats
returns-clause-seats c =
    rw (← c.self.view_is) (record {
      current = ap (λ (g : GenerationView). g.seat) c.cancel_older.ensures.current
          ∙ ap (λ (g : GenerationView). g.seat) c.cancel-younger.ensures.others;
      draining = c.cancel_older.ensures.seat;
    })

pub returns-clause-unchanged : goal.returns-clause-unchanged
returns-clause-unchanged c =
    rw (← c.self.view_is)
    (unchanged-after c.cancel-younger.result c.cancel_older.result _ c.cancel-younger.new.self c.cancel_older.new.self
    c.if-cancel_older.false c.cancel-younger.ensures.unchanged c.cancel_older.ensures.unchanged)
