use Rattle.std.proofs.Common.{refl}
use Rattle.sip_resolver.specs.Driven.{alone, begun, leaves, shared}
use Rattle.sip_resolver.proofs.drive.cancel_over.Goals as goal

pub returns-then-not-is_out-clause-lets_go : goal.returns-then-not-is_out-clause-lets_go
returns-then-not-is_out-clause-lets_go g c =
    alone c.in-Some.id c.in-Some.ensures
    (λ out. let yes = c.is_out.ensures.1 out in let no = c.if-not-is_out.true in cc)
    c.leave.ensures.did

pub returns-then-not-is_out-clause-drives : goal.returns-then-not-is_out-clause-drives
returns-then-not-is_out-clause-drives g c = leaves c.in-Some.id _ _ begun c.leave.ensures.did

pub returns-else-not-is_out-clause-lets_go : goal.returns-else-not-is_out-clause-lets_go
returns-else-not-is_out-clause-lets_go g c =
    shared c.in-Some.id c.in-Some.ensures (c.is_out.ensures.0 c.if-not-is_out.false) refl

pub returns-else-not-is_out-clause-drives : goal.returns-else-not-is_out-clause-drives
returns-else-not-is_out-clause-drives g c = begun

pub returns-in_default-clause-drives : goal.returns-in_default-clause-drives
returns-in_default-clause-drives g c = begun
