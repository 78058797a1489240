use Rattle.std.proofs.Common.{◌≡◌}
use Rattle.dns_transport.specs.Frames.{Reads}
use Rattle.dns_transport.proofs.framing.Framing.read.Given as goal

abbrev pub invariant-parts : goal.invariant-parts
invariant-parts g l =
    (l.self.unwritten ≡ l.fn.self.unwritten)
    × Reads (g.S.Read.remaining l.fn.stream) (g.S.Read.remaining l.stream) l.fn.self.untaken l.self.untaken
