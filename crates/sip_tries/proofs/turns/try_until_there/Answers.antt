use Rattle.std.proofs.Common.{sym, ◌∙◌, arith}
use Rattle.std.proofs.lemmas.List.{take_all}
use Rattle.sip_tries.proofs.InTurn.{asked-more, in-turn-all, in-turn-there, none-more, turn-more}
use Rattle.sip_tries.proofs.turns.try_until_there.Goals as goal

pub targets-preserved : goal.targets-preserved
targets-preserved g c =
    let was = c.targets.invariant in
    rw c.in_ok-push.ensures.items (record {
      turn = turn-more _ _ _ _ _ c.targets-test.true was.turn c.in_ok-one.ensures.target;
      none = none-more _ _ was.none (sym c.if-is_there.ensures);
      asked = asked-more _ _ _ _ _ _ was.asked c.in_ok-one.ensures.asked;
    })

pub returns-then-is_there-clause-tried : goal.returns-then-is_there-clause-tried
returns-then-is_there-clause-tried g c =
    let was = c.targets.invariant in
    rw c.in_ok-push.ensures.items (in-turn-there _ _ _ _ _ c.targets-test.true was.turn was.none c.in_ok-one.ensures.target
    (sym c.if-is_there.ensures))

pub returns-then-is_there-clause-asked : goal.returns-then-is_there-clause-asked
returns-then-is_there-clause-asked g c =
    rw c.in_ok-push.ensures.items (asked-more _ _ _ _ _ _ c.targets.invariant.asked c.in_ok-one.ensures.asked)

pub returns-clause-tried : goal.returns-clause-tried
returns-clause-tried g c =
    let was = c.targets.invariant in
    in-turn-all _ _ (was.turn ∙ take_all c.targets.target-index c.args.targets.now (omega (arith, c.targets-test.false))) was.none
