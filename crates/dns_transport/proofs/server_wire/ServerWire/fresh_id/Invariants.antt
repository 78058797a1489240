use Rattle.std.proofs.Common.{◌≡◌}
use Rattle.dns_transport.proofs.server_wire.ServerWire.fresh_id.Given as goal

abbrev pub invariant-draws : goal.invariant-draws
invariant-draws g l =
    (l.self.transport ≡ l.fn.self.transport) × (l.self.options ≡ l.fn.self.options) × (l.self.servers ≡ l.fn.self.servers)
