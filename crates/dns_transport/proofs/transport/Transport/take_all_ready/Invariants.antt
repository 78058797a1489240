use Rattle.std.proofs.Common.{◌≡◌}
use Rattle.dns_transport.proofs.transport.Transport.take_all_ready.Given as goal

abbrev pub invariant-messages : goal.invariant-messages
invariant-messages g l = l.self.exchanges ≡ l.fn.self.exchanges
