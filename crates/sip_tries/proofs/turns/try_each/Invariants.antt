use Rattle.std.proofs.Common.{◌≡◌, take}
use Rattle.sip_tries.specs.Turns.{AreAsked, targets_of}
use Rattle.sip_tries.proofs.turns.try_each.Given as goal

abbrev pub invariant-targets : goal.invariant-targets
invariant-targets g l = record {
  turn : targets_of l.tries.items ≡ take l.target-index l.fn.targets;
  asked : AreAsked g.P.Pinger.asks l.fn.pinger l.tries.items l.pinger;
}
