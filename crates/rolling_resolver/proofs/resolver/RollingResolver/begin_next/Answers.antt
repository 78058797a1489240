use Rattle.std.proofs.Common.{inr, refl, ap, ◌∙◌}
use Rattle.sip_resolver.specs.Resolvers.{ResolverView}
use Rattle.rolling_resolver.specs.Rolling.{GenerationView}
use Rattle.rolling_resolver.proofs.resolver.RollingResolver.begin_next.Goals as goal

pub returns-clause-begins : goal.returns-clause-begins
returns-clause-begins c =
    rw (← c.self.view_is, c.replace.ensures.after, c.replace-before.ensures.value, c.replace-before.ensures.after)
    (inr (record { carries = c.in-Ok.ensures.seat; older = refl }))

pub invariant_of-self : goal.invariant_of-self
invariant_of-self c = (
  c.self.invariant.0,
  ap (λ (it : GenerationView). it.core.requests.limit) c.replace-before.ensures.after
      ∙ ap (λ (it : ResolverView). it.requests.limit) c.in-Ok.ensures.core,
  rw (c.replace.ensures.after, c.replace-before.ensures.value, c.replace-before.ensures.after) c.in-Ok.ensures.back,
)
