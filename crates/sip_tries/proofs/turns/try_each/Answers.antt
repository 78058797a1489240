use Rattle.sip_tries.proofs.InTurn.{asked-more, turn-more}
use Rattle.sip_tries.proofs.turns.try_each.Goals as goal

pub targets-preserved : goal.targets-preserved
targets-preserved g c =
    let was = c.targets.invariant in
    rw c.in_ok-push.ensures.items (record {
      turn = turn-more _ _ _ _ _ c.targets-test.true was.turn c.in_ok-try_one.ensures.target;
      asked = asked-more _ _ _ _ _ _ was.asked c.in_ok-try_one.ensures.asked;
    })
