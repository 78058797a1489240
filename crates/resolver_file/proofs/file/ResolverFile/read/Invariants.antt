use Rattle.std.proofs.Common.{length}
use Rattle.resolver_file.proofs.Taken.{Taken}
use Rattle.resolver_file.specs.ResolverLines.{lines_of}
use Rattle.resolver_file.proofs.file.ResolverFile.read.Given as goal

-- the lines so far are taken
abbrev pub invariant-loop-at : goal.invariant-loop-at
invariant-loop-at l = record {
  can_next : goal.iterator-loop-at.can_next l.at-iterator;
  is_finite : goal.iterator-loop-at.is_finite l.at-iterator;
  taken : Taken (lines_of l.text) (length l.yielded) l.file;
}
