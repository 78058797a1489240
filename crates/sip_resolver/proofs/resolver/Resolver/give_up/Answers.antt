use Rattle.std.proofs.Common.{ap, refl}
use Rattle.sip_resolver.proofs.Awaiting.{closed-in}
use Rattle.sip_resolver.specs.Requests.{RequestsView}
use Rattle.sip_resolver.proofs.resolver.Resolver.give_up.Goals as goal

pub returns-clause-gives_up : goal.returns-clause-gives_up
returns-clause-gives_up g c = λ yes.
    rw (← c.self.view_is) record {
      over = c.in-Some.field-0-0;
      question = c.in-Some.question;
      was = c.in-Some.ensures.1;
      left = c.in-Some.ensures.0;
      settles = c.settle_all.ensures.settles;
      streams = refl;
    }

pub returns-clause-stand : goal.returns-clause-stand
returns-clause-stand g c = rw (← c.self.view_is) (λ seat it. c.settle_all.ensures.stand seat tt it)

pub returns-clause-awaited : goal.returns-clause-awaited
returns-clause-awaited g c =
    rw (← c.self.view_is)
    (λ it.
    rw (c.in-Some.ensures.0, ap (λ (v : RequestsView). v.waiting) c.settle_all.ensures.settles.new_is)
    (closed-in c.in-Some.field-0-0 c.args.id c.self.inside.questions c.self.inside.requests.waiting it))
