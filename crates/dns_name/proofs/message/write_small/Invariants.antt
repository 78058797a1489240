use Rattle.std.proofs.Common.{◌≡◌, length, take}
use Rattle.dns_name.specs.Labels.{small_letters}
use Rattle.dns_name.proofs.message.write_small.Given as goal

abbrev pub invariant-loop-at : goal.invariant-loop-at
invariant-loop-at l = record {
  size : length l.octets ≡ length l.run;
  written : take l.at l.octets ≡ small_letters (take l.at l.run);
}
