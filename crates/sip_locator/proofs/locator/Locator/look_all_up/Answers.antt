use Rattle.std.proofs.Common.{subst, sym}
use Rattle.sip_selection.specs.Selections.{SelectionValue}
use Rattle.sip_locator.specs.Gains.{Gains}
use Rattle.sip_locator.proofs.Gaining.{gains-earlier, lacks-earlier, on-through, nothing-through, ok-each, lacks-now}
use Rattle.sip_locator.proofs.Looking.{progress, is-ready}
use Rattle.sip_locator.proofs.locator.Locator.look_all_up.Goals as goal

pub returns-in-Ok-clause-stays : goal.returns-in-Ok-clause-stays
returns-in-Ok-clause-stays g c =
    is-ready g.B.AnswerBook.shown (g.B.AnswerBook.belongs c.args.book.now) c.args.now c.self.inside.selection c.args.seat.now
    c.in-Ok.ensures.consulted.1

pub returns-in-Ok-clause-goes_on : goal.returns-in-Ok-clause-goes_on
returns-in-Ok-clause-goes_on g c =
    (progress g.B.AnswerBook.shown (g.B.AnswerBook.belongs c.args.book.now) c.args.now c.self.inside.selection c.args.seat.now
    c.in-Ok.ensures.consulted.1).1.goes_on

pub returns-in-Ok-clause-stores_nothing : goal.returns-in-Ok-clause-stores_nothing
returns-in-Ok-clause-stores_nothing g c =
    (progress g.B.AnswerBook.shown (g.B.AnswerBook.belongs c.args.book.now) c.args.now c.self.inside.selection c.args.seat.now
    c.in-Ok.ensures.consulted.1).1.stores_nothing

pub returns-in-Ok-clause-gains : goal.returns-in-Ok-clause-gains
returns-in-Ok-clause-gains g c =
    rw (← c.self.view_is) (subst (λ (value : SelectionValue). Gains (g.B.AnswerBook.shown c.consult.new.seat).seen c.args.now
    (g.B.AnswerBook.shown c.args.seat.now).seen c.self.inside.selection value) (sym c.in-Ok.ensures.consulted.0)
    (progress g.B.AnswerBook.shown (g.B.AnswerBook.belongs c.args.book.now) c.args.now c.self.inside.selection c.args.seat.now
    c.in-Ok.ensures.consulted.1).1.gains)

pub returns-in-Ok-clause-lacks : goal.returns-in-Ok-clause-lacks
returns-in-Ok-clause-lacks g c = λ question is.
    lacks-now (g.B.AnswerBook.shown c.args.seat.now) (g.B.AnswerBook.shown c.consult.new.seat) c.args.now question
    (progress g.B.AnswerBook.shown (g.B.AnswerBook.belongs c.args.book.now) c.args.now c.self.inside.selection c.args.seat.now
    c.in-Ok.ensures.consulted.1).1.goes_on
    (sym (c.in-Ok.ensures.lacks question is))

-- ---- where memory was refused

pub look_up_in_turn-requires : goal.look_up_in_turn-requires
look_up_in_turn-requires g c =
    is-ready g.B.AnswerBook.shown (g.B.AnswerBook.belongs c.args.book.now) c.args.now c.self.inside.selection c.args.seat.now
    c.in-Err.ensures.goes_on.1

pub returns-in-Err-clause-goes_on : goal.returns-in-Err-clause-goes_on
returns-in-Err-clause-goes_on g c =
    on-through _ _ _
    (progress g.B.AnswerBook.shown (g.B.AnswerBook.belongs c.args.book.now) c.args.now c.self.inside.selection c.args.seat.now
    c.in-Err.ensures.goes_on.1).1.goes_on c.look_up_in_turn.ensures.goes_on

pub returns-in-Err-clause-stores_nothing : goal.returns-in-Err-clause-stores_nothing
returns-in-Err-clause-stores_nothing g c =
    nothing-through _ _ _
    (progress g.B.AnswerBook.shown (g.B.AnswerBook.belongs c.args.book.now) c.args.now c.self.inside.selection c.args.seat.now
    c.in-Err.ensures.goes_on.1).1.stores_nothing c.look_up_in_turn.ensures.stores_nothing

pub returns-in-Err-clause-gains : goal.returns-in-Err-clause-gains
returns-in-Err-clause-gains g c =
    gains-earlier _ c.args.now (progress g.B.AnswerBook.shown (g.B.AnswerBook.belongs c.args.book.now) c.args.now c.self.inside.selection
    c.args.seat.now c.in-Err.ensures.goes_on.1).1.goes_on.seen
    (rw (c.in-Err.ensures.unchanged, c.self.view_is) at c.look_up_in_turn.ensures.gains)

pub returns-in-Err-clause-lacks : goal.returns-in-Err-clause-lacks
returns-in-Err-clause-lacks g c =
    ok-each (λ lacks question is. lacks-earlier _ _ _ c.args.now question
    (progress g.B.AnswerBook.shown (g.B.AnswerBook.belongs c.args.book.now) c.args.now c.self.inside.selection
    c.args.seat.now c.in-Err.ensures.goes_on.1).1.goes_on.seen (lacks question is)) c.look_up_in_turn.result
    c.look_up_in_turn.ensures.lacks
