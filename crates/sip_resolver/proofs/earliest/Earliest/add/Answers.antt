use Rattle.sip_resolver.proofs.Earlier.{first-too, sooner-too}
use Rattle.sip_resolver.proofs.earliest.Earliest.add.Goals as goal

pub returns-in_default-moment : goal.returns-in_default-moment
returns-in_default-moment c = λ untils so.
    rw (c.in-Some.is, c.at.ensures) (first-too untils c.in-Some.until c.args.self.now c.in_default-moment.is so)

pub returns-then-until-moment : goal.returns-then-until-moment
returns-then-until-moment c = λ untils so.
    rw (c.in-Some.is, c.at-then-until-moment.ensures)
    (sooner-too untils c.in-Some.until c.in-Some-moment.moment c.args.self.now c.in-Some-moment.is c.if-until-moment.true so)
