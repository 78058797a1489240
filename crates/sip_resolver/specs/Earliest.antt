-- The first moment by which one of some requests ends. No public clause cites this module.
use Rattle.std.specs.Prelude.{◌≡◌, ◌==◌, nat_lt, ℕ, List, ◌++◌, Option, Some, None, if◌then◌else◌, map}
use Rattle.std.specs.List.{sum_by}
use Rattle.sip_resolver.specs.Tasks.{TaskView, WaitingView}
use Rattle.sip_resolver.specs.declared.earliest.Earliest.{Earliest}

-- 1 where a request that ends by the second moment, if it has one, ends before the first one, and
-- else 0; each moment comes before none
abbrev pub ends_before : Option ℕ → Option ℕ → ℕ
ends_before moment None = 0
ends_before None (Some until) = 1
ends_before (Some moment) (Some until) = if nat_lt until moment then 1 else 0

-- 1 where it ends at the first moment, and else 0
abbrev pub ends_at : Option ℕ → Option ℕ → ℕ
ends_at moment None = 0
ends_at None (Some until) = 0
ends_at (Some moment) (Some until) = if until == moment then 1 else 0

-- none of those that end by these moments, where they have one, ends before this one, and so many
-- end at it
pub record IsEarliest (untils : List (Option ℕ)) (it : Earliest) : Type 0 where
  pub none_before : sum_by (ends_before it.moment) untils ≡ 0
  pub count_is : sum_by (ends_at it.moment) untils ≡ it.count

-- the moments by which requests end that have not ended, where they have one: those that can go on,
-- those that are held, and those that wait
abbrev pub untils_in : List TaskView → List TaskView → List WaitingView → List (Option ℕ)
untils_in ready held waiting =
    map (λ task. task.until) ready ++ map (λ task. task.until) held
    ++ map (λ waiting. waiting.task.until) waiting
