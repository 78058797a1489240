use Rattle.std.proofs.Common.{ap, subst, sym, ◌∙◌}
use Rattle.answer_cache.specs.Seats.{SeatView}
use Rattle.rolling_resolver.specs.Rolling.{CarriesOn, GenerationView, other_mark}
use Rattle.rolling_resolver.proofs.Renewing.{mark-back}
use Rattle.rolling_resolver.proofs.Soundness.{begun-holds}
use Rattle.rolling_resolver.proofs.generation.Generation.successor.Goals as goal

pub over-requires-clause-holds : goal.over-requires-clause-holds
over-requires-clause-holds c =
    begun-holds _ _ _ _ _ _ c.in_ok-books.ensures.seated c.in_ok-books.ensures.groups c.in_ok-core.ensures

pub returns-clause-seat : goal.returns-clause-seat
returns-clause-seat c =
    subst (CarriesOn c.args.self.now.seat) (sym (ap (λ (it : GenerationView). it.seat) c.over.ensures)) c.in_ok-books.ensures.seat

pub returns-clause-back : goal.returns-clause-back
returns-clause-back c =
    rw (← c.self.view_is)
    (mark-back c.self.inside.mark c.self.invariant.1
    ∙ ap other_mark (sym (ap (λ (it : GenerationView). it.mark) c.over.ensures)))
