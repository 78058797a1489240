use Rattle.std.proofs.Common.{arith}
use Rattle.sipwhere_options.specs.Plans.{IsServerAt}
use Rattle.sipwhere_options.proofs.Words.{one_more}
use Rattle.sipwhere_options.proofs.plan.plan_of.Goals as goal

pub addresses-preserved : goal.addresses-preserved
addresses-preserved c =
    let is = rw c.servers-address-items.ensures at c.server_at.ensures in
    let within = rw c.servers-address-items.ensures at c.addresses-test.true in
    rw c.in_ok-push.ensures.items (one_more IsServerAt c.args.file.now.servers c.addresses.servers.items c.addresses.address-index _ _
    (omega (arith, within)) c.addresses.invariant is)
