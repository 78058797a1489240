use Rattle.std.proofs.Common.{ℕ, subst}
use Rattle.std.proofs.lemmas.List.Elements.{All-push}
use Rattle.answer_log.specs.Histories.{IsHistory}
use Rattle.sip_workers.proofs.Learning.{learned-on, told_by}
use Rattle.sip_workers.proofs.Storing.{IsWhole, stays-through, whole-own}
use Rattle.sip_workers.proofs.history.see_one_history.Goals as goal

pub tell_all-requires-clause-later : goal.tell_all-requires-clause-later
tell_all-requires-clause-later c = rw c.notice.ensures.1 (rw c.as_slice.ensures.value at c.learn_seats.ensures.told)

pub returns : goal.returns
returns c =
    let first = c.in-Some.seat.seat in
    let middle = c.learn_notices.new.seat.seat in
    let last = c.learn_seats.new.seat.seat in
    let others = c.pop.new.self.items in
    record {
      history = last.seen;
      is = record {
        sound = subst (λ (groups : ℕ). IsHistory groups last.seen) c.learn_seats.ensures.stays.groups
            c.learn_seats.ensures.stays.is.history;
        seats = rw c.learn_seats.ensures.stays.made at c.law_stores_are_of_the_seats.ensures;
      };
      begin = learned-on told_by c.args.made.now middle.seen last.seen c.learn_seats.ensures.same.seen c.learn_notices.ensures.told;
      whole = rw c.in-Some.ensures.items
          (All-push (IsWhole last.seen) others c.in-Some.seat (rw c.notice.ensures.1 at c.tell_all-2.ensures)
          (whole-own first last c.learn_seats.ensures.stays.is
          (stays-through first middle last c.learn_notices.ensures.same c.learn_seats.ensures.same)));
    }
