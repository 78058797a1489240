use Rattle.std.proofs.Common.{arith}
use Rattle.dns_transport.proofs.Rounds.{behind-round, below-round}
use Rattle.dns_transport.proofs.server_order.server_at.Goals as goal

pub returns-then-place-behind-clause-is : goal.returns-then-place-behind-clause-is
returns-then-place-behind-clause-is c = below-round c.args.first c.args.sends c.args.servers (omega arith)

pub returns-else-place-behind-clause-is : goal.returns-else-place-behind-clause-is
returns-else-place-behind-clause-is c =
    let is = behind-round c.args.first c.args.sends c.args.servers c.requires (omega arith) in omega (arith, is)
