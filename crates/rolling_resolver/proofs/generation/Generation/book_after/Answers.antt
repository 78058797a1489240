use Rattle.std.proofs.Common.{◌≡◌, ◌≤◌, ◌*◌, length, subst, sym, ap, ◌∙◌, arith}
use Rattle.std.proofs.lemmas.List.{length-map}
use Rattle.answer_cache.specs.Carried.{living_of}
use Rattle.answer_cache.specs.Lists.{IsGroupCount, own_store}
use Rattle.answer_cache.specs.Seats.{SeatView}
use Rattle.rolling_resolver.specs.Rolling.{living}
use Rattle.rolling_resolver.proofs.generation.Generation.book_after.Goals as goal

pub returns-clause-seat : goal.returns-clause-seat
returns-clause-seat c =
    let is = c.in_ok-book.ensures.seat in
    let count : length c.in_ok-book.seat.seen ≡ length (living_of c.in-Some.heard c.self.inside.seat.seen) =
    ap (λ (seat : SeatView). length seat.seen) is ∙ length-map (living_of c.in-Some.heard c.self.inside.seat.seen) own_store in
    let few : length (living_of c.in-Some.heard c.self.inside.seat.seen) ≤ 64 * c.self.inside.seat.groups =
    omega (arith, count, c.store_count.ensures, c.if-store_count-groups.false, c.groups-groups.ensures) in
    rw (← c.self.view_is) (living c.in-Some.heard few is)

pub empty_book-requires : goal.empty_book-requires
empty_book-requires c = subst IsGroupCount (sym c.groups-groups.ensures) c.self.invariant.0.groups
