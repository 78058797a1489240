use Rattle.std.proofs.Common.{◌≤◌, length}
use Rattle.std.specs.Str.Lines.{lines}
use Rattle.siplocate.proofs.Runs.{HasCounted, HasRead}
use Rattle.siplocate.proofs.requests.read_requests.Given as goal

abbrev pub invariant-lines : goal.invariant-lines
invariant-lines l = record {
  can_next : goal.iterator-lines.can_next l.at-iterator;
  is_finite : goal.iterator-lines.is_finite l.at-iterator;
  read : HasRead (lines l.text) (length l.yielded) l.entries.items l.jobs.items;
  counted : HasCounted (lines l.text) (length l.yielded) l.jobs.items;
  limit : length l.jobs.items ≤ 10000;
}
