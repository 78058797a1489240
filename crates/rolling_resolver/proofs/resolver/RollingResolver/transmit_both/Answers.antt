use Rattle.std.proofs.Common.{ap, ◌∙◌}
use Rattle.rolling_resolver.specs.Rolling.{GenerationView, RollingView}
use Rattle.rolling_resolver.proofs.Transmitting.{both-quiet}
use Rattle.rolling_resolver.proofs.resolver.RollingResolver.transmit_both.Goals as goal

pub returns-clause-seats : goal.returns-clause-seats
returns-clause-seats c =
    let before = rw (← c.self.view_is) at c.transmit_older.ensures.seats in
    record { current = ap (λ (g : GenerationView). g.seat) c.transmit.ensures.others ∙ before.current; draining = before.draining }

pub returns-clause-quiet : goal.returns-clause-quiet
returns-clause-quiet c =
    let after : RollingView = record {
      told = c.self.inside.told;
      current = c.transmit.new.self;
      draining = c.self.inside.draining;
    } in
    both-quiet _ _ _ c.transmit.result after (rw c.transmit_older.auto.octets at c.transmit.ensures.quiet)
    (rw (← c.self.view_is) at c.in_default.ensures.quiet)
