use Rattle.std.proofs.Common.{is_ok, subst, sym}
use Rattle.std.specs.List.{Contains}
use Rattle.answer_cache.specs.Seats.{Offer}
use Rattle.rolling_cache.specs.Rolling.{RollingView}
use Rattle.rolling_cache.proofs.Late.{late-push}
use Rattle.rolling_cache.proofs.seat.RollingSeat.keep.Goals as goal

pub invariant_of-self : goal.invariant_of-self
invariant_of-self c =
    let S : Offer → Type 0 = λ one. Contains c.args.self.now.seat.seat.offered one in
    let C : RollingView → Type 0 = λ it. Contains it.seat.seat.offered c.in-Ok.store in
    late-push c.self.inside.seat.seat.offered c.self.inside.late.items c.push.new.self.items c.in-Ok.store (is_ok c.push.result)
    c.push.ensures.items c.self.invariant (subst C (sym c.self.view_is) (subst S (sym c.in-Ok.ensures) c.requires.offered))
