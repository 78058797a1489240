use Rattle.std.proofs.Common.{◌≡◌}
use Rattle.dns_transport.proofs.transport.Transport.take_failed.Given as goal

abbrev pub invariant-links : goal.invariant-links
invariant-links g l = l.self-inside.exchanges ≡ l.fn.self.exchanges
