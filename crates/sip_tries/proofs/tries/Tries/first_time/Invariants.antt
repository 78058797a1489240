use Rattle.std.proofs.Common.{◌≡◌, take}
use Rattle.sip_tries.specs.Turns.{first_time}
use Rattle.sip_tries.proofs.tries.Tries.first_time.Given as goal

abbrev pub invariant-tries : goal.invariant-tries
invariant-tries l = l.time ≡ first_time (take l.it-index l.self.tries.items)
