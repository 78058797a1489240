use Rattle.std.proofs.Common.{length}
use Rattle.std.specs.Str.Lines.{lines}
use Rattle.dns_zone.proofs.Said.{Building}
use Rattle.dns_zone.proofs.zone.Zone.read.Given as goal

abbrev pub invariant-loop-at : goal.invariant-loop-at
invariant-loop-at l = record {
  can_next : goal.iterator-loop-at.can_next l.at-iterator;
  is_finite : goal.iterator-loop-at.is_finite l.at-iterator;
  drafting : Building (lines l.text) (length l.yielded) l.builder.count l.builder.zone;
}
