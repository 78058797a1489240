-- The limits that C sets when it opens a resolver.
use Rattle.std.specs.Prelude.{◌≡◌, ◌⊎◌, ℕ, ◌≤◌, Option, None, IsSome}
use Rattle.answer_cache.specs.Lists.{IsGroupCount}
use Rattle.rolling_resolver.specs.Rolling.{RollingView}
use Rattle.wokhleas.specs.declared.status.Status.{Status}
use Rattle.wokhleas.specs.declared.status.Status.TheVariants.{Argument, Memory, Open}

-- so many requests can be inside, and so many questions out
pub record AreCounts (requests questions : ℕ) : Type 0 where
  pub requests_from : 1 ≤ requests
  pub requests_to : requests ≤ 65536
  pub questions_from : 2 ≤ questions
  pub questions_to : questions ≤ 8192

-- and the cache can be of so many groups
abbrev pub AreLimits : ℕ → ℕ → ℕ → Type 0
AreLimits requests questions groups = AreCounts requests questions × IsGroupCount groups

-- why a resolver with such limits is not opened: it is open, or memory is refused
abbrev pub WhyNotBegun : Option RollingView → Status → Type 0
WhyNotBegun state status =
    ((status ≡ Open) × IsSome state) ⊎ ((status ≡ Memory) × (state ≡ None))

-- why a resolver is not opened: a limit is out of its range, or for that
abbrev pub WhyNotOpened : ℕ → ℕ → ℕ → Option RollingView → Status → Type 0
WhyNotOpened requests questions groups state status =
    ((status ≡ Argument) × (AreLimits requests questions groups → ⊥))
    ⊎ (AreLimits requests questions groups × WhyNotBegun state status)
