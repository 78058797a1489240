use Rattle.std.proofs.Common.{◌<◌}
use Rattle.sip_resolver.proofs.Numbers.{lacks}
use Rattle.sip_resolver.specs.NumberFilters.{count_at}
use Rattle.sip_resolver.specs.Requests.{requests_of}
use Rattle.sip_resolver.proofs.requests.Requests.has.Goals as goal

pub returns-then-not-may_have : goal.returns-then-not-may_have
returns-then-not-may_have g c =
    let it = c.self.inside in
    let none : 0 < count_at c.args.number it.numbers → ⊥ =
    λ some-of. let yes = c.may_have.ensures.1 some-of in let no = c.if-not-may_have.true in cc in
    rw (← c.self.view_is) (
      (λ yes. absurd cc),
      (λ there.
          absurd
          (lacks c.args.number (requests_of it.ready.items it.held.items it.waiting.items it.ended.items it.limit) it.numbers
          c.self.invariant.numbers_are none there)
          ),
    )
