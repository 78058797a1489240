use Rattle.std.specs.List.{All}
use mathlib.Core.List.{IsPrefix}
use Rattle.answer_cache.specs.Shared.{Belongs}
use Rattle.sip_workers.proofs.Storing.{AreTold}
use Rattle.sip_workers.proofs.history.tell_all.Given as goal

abbrev pub invariant-seats : goal.invariant-seats
invariant-seats l = record {
  here : All (Belongs l.cache) l.seat-iterator.rest.items;
  later : All (λ it. IsPrefix it.seat.seen l.notice.seen) l.seat-iterator.rest.items;
  told : AreTold l.notice.seen l.fn.seats.items l.seat-iterator.rest.items;
}
