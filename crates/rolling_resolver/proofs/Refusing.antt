-- Why a request is not taken in, and what is so where memory is refused.
use Rattle.std.proofs.Common.{◌≡◌, ◌<◌, ◌≤◌, ◌⊎◌, inl, inr, ℕ, arith, Result, Ok, Err}
use Rattle.std.specs.Prelude.{IsSomeAnd, OnErr}
use Rattle.std.specs.List.{Contains}
use Rattle.sip_resolver.specs.Requests.{count_of, numbers_of}
use Rattle.sip_resolver.specs.Resolvers.{RefusesSubmit}
use Rattle.sip_resolver.specs.declared.refusal.SubmitRefusal.{SubmitRefusal}
use Rattle.sip_resolver.specs.declared.refusal.SubmitRefusal.TheVariants.{Full, NumberTaken, Memory}
use Rattle.rolling_resolver.specs.Inside.{RefusesRequest, count_inside, most_inside}
use Rattle.rolling_resolver.specs.Rolling.{GenerationView, HasRequest, RollingView}

-- what the younger generation refuses, where both have room and the older one has no request of the number
pub refused-by : (it : RollingView) (number : ℕ) (refusal : SubmitRefusal) → count_inside it < most_inside it
    → (IsSomeAnd it.draining (λ older. Contains (numbers_of older.core.requests) number) → ⊥)
    → RefusesSubmit it.current.core number refusal → RefusesRequest it number refusal
refused-by it number Full room apart full =
    absurd (full (let all : count_of it.current.core.requests ≤ count_inside it = omega arith in omega (arith, all, room)))
refused-by it number NumberTaken room apart taken = (room, inl taken.1)
refused-by it number Memory room apart none = (room, away)
  where
    away : HasRequest number it → ⊥
    away (inl there) = none.1 there
    away (inr there) = apart there

-- what is so in any case is so where memory is refused
pub wanted-by : {X E P : Type 0} (it : Result X E) → P → OnErr it P
wanted-by (Ok x) p = tt
wanted-by (Err e) p = p
