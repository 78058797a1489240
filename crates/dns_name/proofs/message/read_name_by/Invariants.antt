use Rattle.std.proofs.Common.{◌≡◌, ◌+◌, ◌-◌, ◌≤◌, ◌++◌, length, take, slice_range}
use Rattle.dns_name.specs.Labels.{small_letters}
use Rattle.dns_name.proofs.Finding.{Finding}
use Rattle.dns_name.proofs.message.read_name_by.Given as goal

abbrev pub invariant-loop-front : goal.invariant-loop-front
invariant-loop-front l = record {
  within : l.limit ≤ length l.bytes;
  -- the run so far
  size : length (slice_range l.bytes l.start l.offset) + l.start ≡ l.offset;
  counted : l.count + l.start ≡ l.passed + l.offset;
  short : l.count ≤ 254;
  filled : length (take l.passed l.front) ≡ l.passed;
  finding : Finding l.bytes l.at l.offset l.start l.limit
      (small_letters (take l.passed l.front ++ slice_range l.bytes l.start l.offset)) l.after;
}

-- the octets of this run that are left, and those before it
abbrev pub decreases-loop-front : goal.decreases-loop-front
decreases-loop-front l = (l.limit - l.offset) + l.start
