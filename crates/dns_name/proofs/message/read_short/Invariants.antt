use Rattle.std.proofs.Common.{◌≡◌, ◌+◌, ◌-◌, ◌≤◌, ◌++◌, length, take, slice_range}
use Rattle.dns_name.specs.Labels.{small_letters}
use Rattle.dns_name.specs.Octets.{IsPadded}
use Rattle.dns_name.proofs.Finding.{Finding}
use Rattle.dns_name.proofs.message.read_short.Given as goal

abbrev pub invariant-loop-octets : goal.invariant-loop-octets
invariant-loop-octets l = record {
  within : l.limit ≤ length l.bytes;
  -- the run so far
  size : length (slice_range l.bytes l.run_start l.offset) + l.run_start ≡ l.offset;
  counted : l.count + l.run_start ≡ l.passed + l.offset;
  short : l.count ≤ 30;
  padded : IsPadded l.octets l.passed;
  finding : Finding l.bytes l.at l.offset l.run_start l.limit
      (take l.passed l.octets ++ small_letters (slice_range l.bytes l.run_start l.offset)) l.end;
}

-- the octets of this run that are left, and those before it
abbrev pub decreases-loop-octets : goal.decreases-loop-octets
decreases-loop-octets l = (l.limit - l.offset) + l.run_start
