use Rattle.std.proofs.Common.{arith, ap, ◌∙◌}
use Rattle.std.specs.Arc.{arc_value}
use Rattle.answer_cache.proofs.Seating.{stored}
use Rattle.answer_cache.proofs.shared_cache.SharedCache.store_against.Goals as goal

pub returns-clause-stored : goal.returns-clause-stored
returns-clause-stored g c =
    let put = c.put-stored in
    let some = c.if-life-eq0.false in
    let is = c.life.ensures.life ∙ ap (λ a. a.life) c.deref.ensures in
    stored put.result c.seat.inside.handle c.seat.inside.notes c.args.seat.now put.new.handle.book.log put.new.handle.number
    put.new.handle.groups _
    c.args.question.now (arc_value c.args.answer.now) c.args.now c.seat.view_is put.ensures.holds.number
    (omega (arith, some, is)) c.law_log_keeps_its_rule.ensures.history
    (put.ensures.holds.handle.groups ∙ put.ensures.holds.groups) put.ensures.put
