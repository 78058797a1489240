use Rattle.sip_resolver.specs.Driven.{begun, closes, receives, times_out, waits}
use Rattle.sip_resolver.proofs.Standing.{works-not}
use Rattle.sip_resolver.proofs.drive.receive_once.Goals as goal

pub returns-in-None-clause-works : goal.returns-in-None-clause-works
returns-in-None-clause-works g c = works-not _ _ (g.B.AnswerBook.shown c.args.seat.now)

pub returns-in-Some-Closed-clause-works : goal.returns-in-Some-Closed-clause-works
returns-in-Some-Closed-clause-works g c = works-not _ _ (g.B.AnswerBook.shown c.args.seat.now)

pub returns-in-Some-TimedOut-clause-works : goal.returns-in-Some-TimedOut-clause-works
returns-in-Some-TimedOut-clause-works g c = works-not _ _ (g.B.AnswerBook.shown c.args.seat.now)

pub returns-in-Some-Message-clause-drives : goal.returns-in-Some-Message-clause-drives
returns-in-Some-Message-clause-drives g c =
    let did = rw c.in-Some-Message.field-0-is at (rw c.in-Some-Message.is at c.receive.ensures.did) in
    receives c.in-Some-Message.message.items _ _ begun did

pub returns-in-Some-Closed-clause-drives : goal.returns-in-Some-Closed-clause-drives
returns-in-Some-Closed-clause-drives g c =
    let did = rw c.in-Some-Closed.field-0-is at (rw c.in-Some-Closed.is at c.receive.ensures.did) in
    closes c.in-Some-Closed.id _ _ begun did

pub returns-in-Some-Closed-clause-stand : goal.returns-in-Some-Closed-clause-stand
returns-in-Some-Closed-clause-stand g c = c.close-closed.ensures.stand (g.B.AnswerBook.shown c.args.seat.now) c.requires.stand

pub returns-in-Some-TimedOut-clause-drives : goal.returns-in-Some-TimedOut-clause-drives
returns-in-Some-TimedOut-clause-drives g c =
    let did = rw c.in-Some-TimedOut.field-0-is at (rw c.in-Some-TimedOut.is at c.receive.ensures.did) in
    times_out c.in-Some-TimedOut.id _ _ begun did

pub returns-in-Some-TimedOut-clause-stand : goal.returns-in-Some-TimedOut-clause-stand
returns-in-Some-TimedOut-clause-stand g c = c.give_up-given_up.ensures.stand (g.B.AnswerBook.shown c.args.seat.now) c.requires.stand

pub returns-in-None-clause-drives : goal.returns-in-None-clause-drives
returns-in-None-clause-drives g c = waits _ _ begun c.in-None.ensures.waited
