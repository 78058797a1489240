use Rattle.sip_uri.proofs.ParamSteps.{StandsSoFar}
use Rattle.sip_uri.proofs.params.stands_before.Given as goal

abbrev pub invariant-loop : goal.invariant-loop
invariant-loop l = StandsSoFar l.params l.name l.count l.rest l.counter
