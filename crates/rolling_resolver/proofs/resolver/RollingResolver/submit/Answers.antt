use Rattle.std.proofs.Common.{ap, refl}
use Rattle.rolling_resolver.specs.Rolling.{GenerationView}
use Rattle.rolling_resolver.proofs.Inside.{gains-by}
use Rattle.rolling_resolver.proofs.Renewing.{renews-still}
use Rattle.rolling_resolver.proofs.Resting.{current-keeps}
use Rattle.rolling_resolver.proofs.resolver.RollingResolver.submit.Goals as goal

pub returns-in_err-submit-clause-answers : goal.returns-in_err-submit-clause-answers
returns-in_err-submit-clause-answers c =
    let renewed = rw (← c.self.view_is) at c.renew.ensures.answers in
    λ given it.
    current-keeps _ c.submit.new.self (ap (λ (g : GenerationView). g.seat) c.in_err-submit.ensures.unchanged) given (renewed given it)

pub returns-clause-answers : goal.returns-clause-answers
returns-clause-answers c =
    let renewed = rw (← c.self.view_is) at c.renew.ensures.answers in
    λ given it.
    current-keeps _ c.submit.new.self (ap (λ (g : GenerationView). g.seat) c.in_ok-submit.ensures.submitted) given (renewed given it)

pub returns-in_err-submit-clause-renews : goal.returns-in_err-submit-clause-renews
returns-in_err-submit-clause-renews c =
    let renewed = rw (← c.self.view_is) at c.renew.ensures.renews in
    renews-still _ _ _ renewed (ap (λ (g : GenerationView). g.seat) c.in_err-submit.ensures.unchanged) refl

pub returns-clause-renews : goal.returns-clause-renews
returns-clause-renews c =
    let renewed = rw (← c.self.view_is) at c.renew.ensures.renews in
    renews-still _ _ _ renewed (ap (λ (g : GenerationView). g.seat) c.in_ok-submit.ensures.submitted) refl

pub returns-clause-gains : goal.returns-clause-gains
returns-clause-gains c =
    gains-by c.args.number c.args.request c.args.caps _ c.args.until _ _ c.submit.new.self c.in_ok-submit.ensures.submitted
    (rw (← c.self.view_is) at c.renew.ensures.inside)
