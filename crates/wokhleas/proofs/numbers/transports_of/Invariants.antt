use Rattle.std.proofs.Common.{◌≡◌, length, map, take}
use Rattle.wokhleas.specs.Numbers.{number_of}
use Rattle.wokhleas.proofs.numbers.transports_of.Given as goal

abbrev pub invariant-loop-at : goal.invariant-loop-at
invariant-loop-at l = record {
  so_far : map number_of (take l.at l.transports) ≡ take l.at l.numbers;
  size : length l.transports ≡ 4;
}
