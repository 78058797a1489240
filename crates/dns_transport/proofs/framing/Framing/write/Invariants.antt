use Rattle.std.proofs.Common.{◌≡◌}
use Rattle.dns_transport.specs.Frames.{Writes}
use Rattle.dns_transport.proofs.framing.Framing.write.Given as goal

abbrev pub invariant-parts : goal.invariant-parts
invariant-parts g l =
    (l.self.untaken ≡ l.fn.self.untaken)
    × Writes (g.S.Write.contents l.fn.stream) (g.S.Write.contents l.stream) l.fn.self.unwritten l.self.unwritten
