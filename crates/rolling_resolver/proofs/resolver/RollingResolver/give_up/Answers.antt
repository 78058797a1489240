use Rattle.std.proofs.Common.{refl, ap, ◌∙◌}
use Rattle.rolling_resolver.specs.Rolling.{GenerationView, younger}
use Rattle.rolling_resolver.proofs.Cancelling.{unchanged-then}
use Rattle.rolling_resolver.proofs.resolver.RollingResolver.give_up.Goals as goal

pub returns-then-give_up-clause-seats : goal.returns-then-give_up-clause-seats
returns-then-give_up-clause-seats c =
    rw (← c.self.view_is) (record { current = ap (λ (g : GenerationView). g.seat) c.give_up.ensures.others; draining = refl })

pub returns-clause-seats : goal.returns-clause-seats
returns-clause-seats c =
    let after = c.give_up_older.ensures.seats in
    rw (← c.self.view_is) (record {
      current = after.current ∙ ap (λ (g : GenerationView). g.seat) c.give_up.ensures.others;
      draining = after.draining;
    })

pub returns-clause-unchanged : goal.returns-clause-unchanged
returns-clause-unchanged c =
    rw (← c.self.view_is)
    (unchanged-then c.give_up.result c.give_up_older.result _ c.give_up.new.self c.give_up_older.new.self c.if-give_up.false
    c.give_up.ensures.unchanged c.give_up_older.ensures.unchanged)

pub returns-then-give_up-clause-gives_up : goal.returns-then-give_up-clause-gives_up
returns-then-give_up-clause-gives_up c = λ yes.
    rw (← c.self.view_is) (younger c.give_up.new.self (c.if-give_up.ensures.found refl) refl)
