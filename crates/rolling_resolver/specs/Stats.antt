-- What is counted of a resolver.
use Rattle.std.specs.Prelude.{◌≡◌, ◌+◌, ◌-◌, ◌^◌, ℕ, length, min, Option, Some, None}
use Rattle.sip_resolver.specs.Questions.{count_out}
use Rattle.sip_resolver.specs.Requests.{count_of}
use Rattle.rolling_resolver.specs.Rolling.{GenerationView, RollingView}
use Rattle.rolling_resolver.specs.declared.counts.Stats.{Stats}

-- a number of the older generation, which is 0 where there is none
abbrev pub of_older : (GenerationView → ℕ) → Option GenerationView → ℕ
of_older count None = 0
of_older count (Some older) = count older

-- a number of both generations
abbrev pub of_both : (GenerationView → ℕ) → RollingView → ℕ
of_both count it = count it.current + of_older count it.draining

-- the requests that are inside both generations, the questions that are out of both, and the
-- answers that their books have, as far as 64 bits count
pub record AreCounted (told : Stats) (it : RollingView) : Type 0 where
  pub inside : told.requests ≡ of_both (λ one. count_of one.core.requests) it
  pub out : told.questions ≡ of_both (λ one. count_out one.core.questions) it
  pub kept : told.answers ≡ min (of_both (λ one. length one.seat.seen) it) (2 ^ 64 - 1)
