use Rattle.std.proofs.Common.{◌≡◌, length}
use Rattle.dns_transport.specs.Ends.{without_number}
use Rattle.dns_transport.proofs.transport.Transport.leave.Given as goal

abbrev pub invariant-queries : goal.invariant-queries
invariant-queries g l = without_number l.number l.self.exchanges ≡ without_number l.number l.fn.self.exchanges

abbrev pub decreases-queries : goal.decreases-queries
decreases-queries g l = length l.self.exchanges
