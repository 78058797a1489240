use Rattle.std.proofs.Common.{◌≡◌}
use Rattle.dns_transport.proofs.server_wire.ServerWire.ask_next.Given as goal

abbrev pub invariant-servers : goal.invariant-servers
invariant-servers g l = (l.self.servers ≡ l.fn.self.servers) × (l.lookup.first ≡ l.fn.lookup.first)
