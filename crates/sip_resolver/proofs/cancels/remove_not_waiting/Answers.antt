use Rattle.std.specs.List.{Contains}
use Rattle.sip_resolver.proofs.Cancelling.{rest-none}
use Rattle.sip_resolver.specs.Requests.{numbers_of}
use Rattle.sip_resolver.proofs.cancels.remove_not_waiting.Goals as goal

pub returns-then-not-has : goal.returns-then-not-has
returns-then-not-has g c =
    let none : Contains (numbers_of c.args.requests.now) c.args.number → ⊥ =
    λ there. let yes = c.has.ensures.1 there in let no = c.if-not-has.true in cc in
    rest-none c.args.number c.args.requests.now none
