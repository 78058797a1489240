use Rattle.std.proofs.Common.{ap, subst, sym}
use Rattle.answer_cache.specs.Lists.{IsGroupCount}
use Rattle.answer_cache.specs.Seats.{SeatView}
use Rattle.rolling_resolver.proofs.Soundness.{begun-holds}
use Rattle.rolling_resolver.proofs.generation.Generation.first.Goals as goal

pub over-requires-clause-holds : goal.over-requires-clause-holds
over-requires-clause-holds c =
    begun-holds _ _ _ _ _ _ c.empty_book-books.ensures.is
    (subst IsGroupCount (sym (ap (λ (seat : SeatView). seat.groups) c.empty_book-books.ensures.seat)) c.requires.groups)
    c.in_ok-core.ensures
