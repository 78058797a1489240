use Rattle.std.proofs.Common.{◌≡◌, length, rules}
use Rattle.std.proofs.lemmas.List.Elements.{All-head, All-tail}
use mathlib.Core.List.{IsPrefix}
use Rattle.answer_cache.specs.Shared.{Belongs}
use Rattle.sip_workers.proofs.Storing.{told-all, told-more, told-none}
use Rattle.sip_workers.proofs.history.tell_all.Goals as goal

pub seats-init : goal.seats-init
seats-init c =
    let same : c.into_iter-seat-iterator.result.rest.items ≡ c.args.seats.items = search rules in
    rw same (record {
      here = c.requires.made_here;
      later = c.requires.later;
      told = told-none c.args.notice.now.seen c.args.seats.items;
    })

pub tell-requires-clause-later : goal.tell-requires-clause-later
tell-requires-clause-later c =
    All-head (λ it. IsPrefix it.seat.seen c.args.notice.now.seen) c.in-Some.seat c.next.new.self.rest.items
    (rw c.in-Some.ensures.steps.0 at c.seats.invariant.later)

pub seats-preserved : goal.seats-preserved
seats-preserved c =
    let rest = c.next.new.self.rest.items in
    record {
      here = All-tail (Belongs c.args.cache.now) c.in-Some.seat rest (rw c.in-Some.ensures.steps.0 at c.seats.invariant.here);
      later = All-tail (λ it. IsPrefix it.seat.seen c.args.notice.now.seen) c.in-Some.seat rest
          (rw c.in-Some.ensures.steps.0 at c.seats.invariant.later);
      told = told-more c.args.notice.now.seen c.args.seats.items c.seats.seat-iterator.rest.items rest c.in-Some.seat
          c.in-Some.ensures.steps.0 c.seats.invariant.told c.tell.ensures;
    }

pub returns : goal.returns
returns c =
    let none : length c.seats.seat-iterator.rest.items ≡ 0 = let it = c.in-None.ensures.steps.0 in search (rules, it) in
    told-all c.args.notice.now.seen c.args.seats.items c.seats.seat-iterator.rest.items none c.seats.invariant.told
