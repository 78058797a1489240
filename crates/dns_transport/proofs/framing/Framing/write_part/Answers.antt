use Rattle.std.proofs.Common.{◌≡◌, ℕ, List, take, subst, ap}
use Rattle.std.specs.Io.KnownBytes.{Appends}
use Rattle.dns_transport.proofs.Flows.{writes_part}
use Rattle.dns_transport.proofs.framing.Framing.write_part.Goals as goal

pub returns-in-Ok-clause-writes : goal.returns-in-Ok-clause-writes
returns-in-Ok-clause-writes g c =
    let Goes : List ℕ → Type 0 =
    λ left. Appends (g.S.Write.contents c.args.stream.now) (g.S.Write.contents c.write.new.self) (take c.in-Ok.count left) in
    writes_part (g.S.Write.contents c.args.stream.now) (g.S.Write.contents c.write.new.self)
    c.args.self.now.unwritten c.self.inside.sent c.in-Ok.count c.self.inside.out.items
    (ap (λ it. it.unwritten) c.self.view_is) (subst Goes c.unwritten.ensures c.in-Ok.ensures.bytes)
