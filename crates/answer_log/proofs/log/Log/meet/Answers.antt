use Rattle.std.proofs.Common.{◌≡◌, ◌++◌, List, refl, ap, sym, ◌∙◌}
use mathlib.Core.List.{IsPrefix}
use Rattle.answer_log.specs.Counts.{count}
use Rattle.answer_log.specs.Handles.{IsHandle}
use Rattle.answer_log.specs.declared.event.Event.{Event}
use Rattle.answer_log.specs.declared.handle.Handle.{Handle}
use Rattle.answer_log.proofs.Counting.{count-between}
use Rattle.answer_log.proofs.Handling.{hand_on, handle_sees}
use Rattle.answer_log.proofs.Logs.{prefix_trans}
use Rattle.answer_log.proofs.log.Log.meet.Goals as goal

-- what was told has as many events of the seat as it knows of
as-many : (h : Handle) (told mid all : List Event) → IsHandle h → IsPrefix h.book.log told → IsPrefix told mid → IsPrefix mid all
    → count h.number all ≡ h.tally.count → count h.number told ≡ h.tally.count
as-many h told mid all handle pre mids alls same =
    let on = prefix_trans told mid all mids alls in
    let old = h.book.log in
    ap (count h.number) (sym pre.1)
    ∙ (count-between h.number old pre.0 on.0 all (ap (λ w. w ++ on.0) pre.1 ∙ on.1) (same ∙ sym handle.counted) ∙ handle.counted)

pub returns-clause-handle : goal.returns-clause-handle
returns-clause-handle c =
    let h = c.args.handle.now in
    let t = c.top_node-node in
    let told = c.args.told.now in
    let pre = c.requires.told.2 in
    let many = as-many h told.log c.learn.new.self.log t.new.book.log c.requires.handle pre c.learn.ensures.3 t.ensures.later
    t.ensures.same.2 in
    hand_on h record {
      number = h.number;
      seats = h.seats;
      groups = h.groups;
      node_count = h.node_count;
      tally = t.new.tally;
      book = c.again.result;
      spent = h.spent;
    } pre.0 c.requires.handle refl refl refl refl (ap (λ b. b.names) c.again.ensures ∙ c.requires.told.1)
    (t.ensures.same.0, t.ensures.same.1, ap (λ b. count h.number b.log) c.again.ensures ∙ many)
    (pre.1 ∙ sym (ap (λ b. b.log) c.again.ensures))

pub returns-clause-seen : goal.returns-clause-seen
returns-clause-seen c =
    let h = c.args.handle.now in
    let t = c.top_node-node in
    let told = c.args.told.now in
    handle_sees h told.log c.requires.handle c.requires.told.2
    (as-many h told.log c.learn.new.self.log t.new.book.log c.requires.handle c.requires.told.2 c.learn.ensures.3 t.ensures.later
    t.ensures.same.2)
