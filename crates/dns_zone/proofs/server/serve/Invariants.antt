use Rattle.dns_zone.specs.Servers.{RepliesTo, Serves}
use Rattle.dns_zone.proofs.server.serve.Given as goal

abbrev pub invariant-loop : goal.invariant-loop
invariant-loop g l = Serves g.W.PeerWire.does (RepliesTo l.fn.zone) l.initial.wire l.sent l.wire
