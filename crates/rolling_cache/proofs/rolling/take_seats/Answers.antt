use Rattle.std.proofs.Common.{◌∙◌, ◌∷◌, [], arith}
use Rattle.std.proofs.lemmas.List.{length-append}
use Rattle.rolling_cache.proofs.Opening.{one-more}
use Rattle.rolling_cache.proofs.rolling.take_seats.Goals as goal

pub seats-preserved : goal.seats-preserved
seats-preserved c = (
  c.take.ensures.same ∙ c.seats.invariant.0,
  one-more _ _ _ _ c.in_ok-push.ensures.items c.seats.invariant.1 c.in-Some.ensures.given.fresh
      (c.in-Some.ensures.given.here ∙ c.seats.invariant.0),
  rw c.in_ok-push.ensures.items omega (arith, length-append c.seats.made.items (c.in-Some.seat ∷ []), c.seats.invariant.2),
)
