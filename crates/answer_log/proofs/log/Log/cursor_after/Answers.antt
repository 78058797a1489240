use Rattle.std.proofs.Common.{List, ℕ, refl, sym, ap, ◌∙◌, []}
use Rattle.std.proofs.lemmas.List.{append-nil}
use Rattle.answer_log.proofs.Handling.{groups_seen, hand_on, handle_sees}
use Rattle.answer_log.specs.Histories.{in_group}
use Rattle.answer_log.specs.Logs.{groups_in, history, top}
use Rattle.answer_log.specs.declared.event.Event.{Event}
use Rattle.answer_log.proofs.Logs.{prefix_trans}
use Rattle.answer_log.proofs.log.Log.cursor_after.Goals as goal

pub returns-clause-handle : goal.returns-clause-handle
returns-clause-handle c =
    let h = c.args.handle.now in
    let t = c.top_node-next in
    let whole = prefix_trans h.book.log c.learn.new.self.log t.new.book.log c.learn.ensures.2 t.ensures.later in
    hand_on h _ whole.0 c.requires.handle refl refl refl refl (t.ensures.book.1 ∙ c.learn.ensures.1) t.ensures.same whole.1

pub returns-clause-seen : goal.returns-clause-seen
returns-clause-seen c =
    let h = c.args.handle.now in
    let t = c.top_node-next in
    handle_sees h t.new.book.log c.requires.handle
    (prefix_trans h.book.log c.learn.new.self.log t.new.book.log c.learn.ensures.2 t.ensures.later) t.ensures.same.2

pub returns-clause-told : goal.returns-clause-told
returns-clause-told c =
    let t = c.top_node-next in
    prefix_trans c.args.told.now.log c.learn.new.self.log t.new.book.log c.learn.ensures.3 t.ensures.later

pub returns-clause-ahead : goal.returns-clause-ahead
returns-clause-ahead c =
    let h = c.args.handle.now in
    let t = c.top_node-next in
    let log : List Event = t.new.book.log in
    let group : ℕ = c.args.group in
    let on = groups_seen h log c.requires.handle
    (prefix_trans h.book.log c.learn.new.self.log log c.learn.ensures.2 t.ensures.later) ∙ c.requires.groups in
    let same = ap (λ b. groups_in b.log) c.again.ensures in record {
      group = group;
      front = log;
      back = [];
      split = ap (λ b. b.log) c.again.ensures ∙ sym (append-nil log);
      at = t.ensures.top ∙ ap (λ groups. top groups group log) (sym same);
      stores = ap (λ groups. in_group groups group (history log)) (sym on ∙ sym same);
    }

pub returns-clause-cursor : goal.returns-clause-cursor
returns-clause-cursor c =
    let h = c.args.handle.now in
    let t = c.top_node-next in
    let log : List Event = t.new.book.log in
    let on = groups_seen h log c.requires.handle
    (prefix_trans h.book.log c.learn.new.self.log log c.learn.ensures.2 t.ensures.later) ∙ c.requires.groups in (
      ap (λ b. b.book) c.again.ensures ∙ (t.ensures.book.0 ∙ (c.learn.ensures.0 ∙ c.requires.book)),
      ap (λ b. b.log) c.again.ensures,
      t.ensures.top ∙ ap (λ groups. top groups c.args.group log) on,
    )
