use Rattle.rolling_resolver.proofs.Refusing.{wanted-by}
use Rattle.rolling_resolver.proofs.Seating.{learned}
use Rattle.rolling_resolver.proofs.generation.Generation.receive.Goals as goal

pub returns-then-eq-clause-learns : goal.returns-then-eq-clause-learns
returns-then-eq-clause-learns c =
    rw (← c.self.view_is)
    (learned _ _ c.self.invariant.0.seated c.handle.ensures.stays c.handle.ensures.works.goes_on.number
    c.handle.ensures.works.goes_on.groups c.args.over c.args.octets.now c.args.at.now.second
    c.in_ok-heard.heard c.self.inside.mark c.self.inside.core c.handle.new.self
    c.in_ok-heard.ensures.hears c.handle.ensures.hands c.in_ok-heard.ensures.untouched)

pub returns-else-eq-clause-learns : goal.returns-else-eq-clause-learns
returns-else-eq-clause-learns c =
    rw (← c.self.view_is)
    (learned _ _ c.self.invariant.0.seated c.handle.ensures.stays c.handle.ensures.works.goes_on.number
    c.handle.ensures.works.goes_on.groups c.args.over c.args.octets.now c.args.at.now.second
    c.in_ok-heard.heard c.self.inside.mark c.self.inside.core c.handle.new.self
    c.in_ok-heard.ensures.hears c.handle.ensures.hands c.in_ok-heard.ensures.untouched)

pub returns-in_err-heard-clause-wanted : goal.returns-in_err-heard-clause-wanted
returns-in_err-heard-clause-wanted c =
    wanted-by c.from_residual.result (rw (← c.self.view_is) c.in_err-heard.ensures.wanted)
