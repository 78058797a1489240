use Rattle.dns_answers.proofs.KeptRecords.{Keeping}
use Rattle.dns_answers.proofs.kept.kept.Given as goal

abbrev pub invariant-loop-entry : goal.invariant-loop-entry
invariant-loop-entry g l = Keeping g.T.Wanted.data_in l.name l.section l.limit l.entry-index l.items.items l.life
