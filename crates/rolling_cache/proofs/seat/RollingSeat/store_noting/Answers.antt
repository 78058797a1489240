use Rattle.std.proofs.Common.{IfErr, OnOk, subst, sym, ◌∙◌}
use Rattle.std.specs.Arc.{arc_value}
use Rattle.answer_cache.specs.Seats.{GoesOn, IsRefused, IsStored, offer_of}
use Rattle.answer_cache.specs.Shared.{SharedView}
use Rattle.rolling_cache.proofs.Ending.{refused-after, stored-after, tells-after}
use Rattle.rolling_cache.proofs.seat.RollingSeat.store_noting.Goals as goal

pub returns-clause-stored : goal.returns-clause-stored
returns-clause-stored g c =
    let offer = offer_of c.args.question.now (arc_value c.args.answer.now) c.args.now in
    let S : SharedView → Type 0 = λ seat. OnOk c.store_here-stored.result (IsStored c.args.self.now.seat.seat seat.seat offer) in
    subst S (sym c.note_full.ensures.seat)
    (stored-after c.store_here-stored.result c.args.self.now.seat.seat c.note_end.new.self.seat.seat
    c.store_here-stored.new.self.seat.seat offer c.note_end.ensures.goes_on c.note_end.ensures.stores_nothing
    c.store_here-stored.ensures.stored)

pub returns-clause-refused : goal.returns-clause-refused
returns-clause-refused g c =
    let offer = offer_of c.args.question.now (arc_value c.args.answer.now) c.args.now in
    let R : SharedView → Type 0 = λ seat. IfErr c.store_here-stored.result (IsRefused c.args.self.now.seat.seat seat.seat offer) in
    subst R (sym c.note_full.ensures.seat)
    (refused-after c.store_here-stored.result c.args.self.now.seat.seat c.note_end.new.self.seat.seat
    c.store_here-stored.new.self.seat.seat offer c.note_end.ensures.goes_on c.note_end.ensures.stores_nothing
    c.store_here-stored.ensures.refused)

pub returns-clause-ends : goal.returns-clause-ends
returns-clause-ends g c =
    let G : SharedView → Type 0 = λ seat. GoesOn c.note_end.new.self.seat.seat seat.seat in
    tells-after c.args.question.now c.args.self.now c.note_end.new.self c.note_full.new.self c.note_end.ensures.ends
    (subst G (sym c.note_full.ensures.seat) c.store_here-stored.ensures.goes_on)
    (λ was. c.note_full.ensures.still (c.store_here-stored.ensures.ending ∙ was))
