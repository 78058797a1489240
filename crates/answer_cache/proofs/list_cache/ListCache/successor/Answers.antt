use Rattle.std.proofs.Common.{◌∙◌, List, [], ap, arith, length, sym}
use Rattle.answer_log.specs.Histories.{cached, in_group}
use Rattle.answer_cache.specs.Carried.{carried_stores, living_of}
use Rattle.answer_cache.specs.Lists.{seat_at}
use Rattle.answer_cache.specs.Marks.{StoresView}
use Rattle.answer_cache.specs.Seats.{Offer, SeatView}
use Rattle.answer_cache.proofs.CarriedAnswers.{answers}
use Rattle.answer_cache.proofs.Following.{few-living}
use Rattle.answer_cache.proofs.list_cache.ListCache.successor.Goals as goal

pub returns-clause-seat : goal.returns-clause-seat
returns-clause-seat c =
    let old = c.seat.inside.stores in
    ap (λ (it : StoresView). seat_at it.groups it.stores c.none.result) c.in_ok-living.ensures.living
    ∙ (ap (λ (notes : List Offer). seat_at old.groups (carried_stores (living_of c.args.now old.stores)) notes) c.none.ensures
    ∙ ap (λ (seat : SeatView). seat_at seat.groups (carried_stores (living_of c.args.now seat.seen)) []) c.seat.view_is)

pub returns-clause-answers : goal.returns-clause-answers
returns-clause-answers c question later le =
    let same = c.law_same_questions_are_equal.ensures in
    ap (λ (it : StoresView). cached it.stores question later) c.in_ok-living.ensures.living
    ∙ (answers question same c.args.now later le c.seat.inside.stores.stores
    ∙ ap (λ (seat : SeatView). cached seat.seen question later) c.seat.view_is)

pub returns-clause-few : goal.returns-clause-few
returns-clause-few c group =
    let groups = c.seat.inside.stores.groups in
    let fewer = few-living c.args.now groups group c.seat.inside.stores.stores in
    let new = ap (λ (it : StoresView). length (in_group it.groups group it.stores)) c.in_ok-living.ensures.living in
    let old = ap (λ (seat : SeatView). length (in_group groups group seat.seen)) c.seat.view_is
    ∙ ap (λ (it : StoresView). length (in_group it.groups group c.args.seat.now.seen)) (sym c.in_ok-living.ensures.living) in
    omega (arith, fewer, new, old)
