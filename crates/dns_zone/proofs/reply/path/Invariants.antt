use Rattle.dns_zone.proofs.Paths.{Walking}
use Rattle.dns_zone.proofs.reply.path.Given as goal

abbrev pub invariant-loop : goal.invariant-loop
invariant-loop l = Walking l.zone l.start l.links.items l.name l.counter
