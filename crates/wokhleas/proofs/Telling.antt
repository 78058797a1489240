-- The next request that ended is told.
use Rattle.std.proofs.Common.{◌≡◌, Some, sym, ap, ◌∙◌}
use Rattle.sip_resolver.specs.Outcomes.{Ended}
use Rattle.rolling_resolver.specs.Rolling.{RollingView, Tells}
use Rattle.wokhleas.specs.Told.{IsTold, outcome_told}
use Rattle.wokhleas.specs.declared.told.ToldOutcome.{ToldOutcome}

-- the numbers of what was told last are those of the request that was taken out
pub told-as : (outcome : ToldOutcome) (ended : Ended) (old new : RollingView) → Tells old new → new.told ≡ Some ended
    → outcome ≡ outcome_told ended → IsTold outcome old new
told-as outcome ended old new tells told is =
    let both : Some ended ≡ Some tells.ended = sym told ∙ ap (λ (it : RollingView). it.told) tells.is in
    let same : ended ≡ tells.ended = cc in
    record { tells = tells; are = is ∙ ap outcome_told same }
