use Rattle.sip_resolver.proofs.Inside.{ready-too}
use Rattle.sip_resolver.proofs.expiries.turn_ready.Goals as goal

pub returns-else-is_expired-clause-stand : goal.returns-else-is_expired-clause-stand
returns-else-is_expired-clause-stand g c =
    rw c.add.ensures
    (ready-too _ _ (g.B.AnswerBook.shown c.args.seat.now) c.args.requests.now c.args.task c.requires.stand c.requires.counted)
