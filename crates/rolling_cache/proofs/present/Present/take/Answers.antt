use Rattle.std.proofs.Common.{ap, subst, sym, ◌∙◌}
use Rattle.std.specs.Arc.{arc_value}
use Rattle.rolling_cache.specs.Rolling.{GenerationView, IsFresh, PresentView, rolling_of}
use Rattle.rolling_cache.proofs.Opening.{left-last}
use Rattle.rolling_cache.proofs.present.Present.take.Goals as goal

pub invariant_of-self-2 : goal.invariant_of-self-2
invariant_of-self-2 c =
    (left-last (arc_value c.self.inside.generation) c.pop.new.self.items c.self.inside.seats.items c.in_ok-seat.seat
    c.in_ok-seat.ensures.items c.self.invariant).0

pub returns-clause-given : goal.returns-clause-given
returns-clause-given c =
    let G : GenerationView → Type 0 = λ generation. IsFresh (rolling_of generation c.in_ok-seat.seat) in
    let left = left-last (arc_value c.self.inside.generation) c.pop.new.self.items c.self.inside.seats.items c.in_ok-seat.seat
    c.in_ok-seat.ensures.items c.self.invariant in
    record {
      fresh = subst G (sym c.in-Ok.ensures) left.1;
      here = c.in-Ok.ensures ∙ ap (λ (it : PresentView). it.generation) c.self.view_is;
      same = ap (λ (it : PresentView). it.generation) c.self.view_is;
      number = left.2;
      left = ap (λ (it : PresentView). it.left) (sym c.self.view_is) ∙ left.3;
    }
