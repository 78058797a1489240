use Rattle.sip_locator.proofs.Gaining.{begins, stays, gains-one, lacks}
use Rattle.sip_locator.proofs.locator.Locator.look_up_in_turn.Goals as goal

pub loop-round-init : goal.loop-round-init
loop-round-init g c = (c.requires, begins c.args.self.now (g.B.AnswerBook.shown c.args.seat.now) c.args.now)

pub returns-in_err-look_up-clause-gains : goal.returns-in_err-look_up-clause-gains
returns-in_err-look_up-clause-gains g c =
    (stays _ _ _ _ _ _ _ _ c.loop-round.invariant.1 c.in_err-look_up.ensures.goes_on c.in_err-look_up.ensures.stores_nothing
    c.in_err-look_up.ensures.unchanged).gains

pub returns-then-not-branch-clause-gains : goal.returns-then-not-branch-clause-gains
returns-then-not-branch-clause-gains g c =
    let none = rw c.if-not-branch.true at c.in_ok-look_up.ensures.found in
    (stays _ _ _ _ _ _ _ _ c.loop-round.invariant.1 c.in_ok-look_up.ensures.goes_on c.in_ok-look_up.ensures.stores_nothing none.0).gains

pub returns-then-not-branch-clause-lacks : goal.returns-then-not-branch-clause-lacks
returns-then-not-branch-clause-lacks g c =
    let none = rw c.if-not-branch.true at c.in_ok-look_up.ensures.found in
    lacks _ _ _ _ _ _ _ _ c.loop-round.invariant.1 c.in_ok-look_up.ensures.goes_on c.in_ok-look_up.ensures.stores_nothing none.1 none.0

pub loop-round-preserved : goal.loop-round-preserved
loop-round-preserved g c =
    let found = rw c.if-not-branch.false at c.in_ok-look_up.ensures.found in (
      c.in_ok-look_up.ensures.stays,
      gains-one _ _ _ _ _ _ _ _ c.loop-round.invariant.1 c.in_ok-look_up.ensures.goes_on c.in_ok-look_up.ensures.stores_nothing found,
    )
