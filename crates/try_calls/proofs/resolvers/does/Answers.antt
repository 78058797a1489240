use Rattle.try_calls.proofs.resolvers.does.Goals as goal

pub returns-in-Submit-clause-stand : goal.returns-in-Submit-clause-stand
returns-in-Submit-clause-stand g c = c.submit.ensures (g.B.AnswerBook.shown c.args.seat.now) c.requires.stand

pub returns-in-PollOutcome-clause-stand : goal.returns-in-PollOutcome-clause-stand
returns-in-PollOutcome-clause-stand g c = c.outcome.ensures (g.B.AnswerBook.shown c.args.seat.now) c.requires.stand

pub returns-in-Cancel-clause-stand : goal.returns-in-Cancel-clause-stand
returns-in-Cancel-clause-stand g c = c.cancel.ensures (g.B.AnswerBook.shown c.args.seat.now) c.requires.stand

pub returns-in-Close-clause-stand : goal.returns-in-Close-clause-stand
returns-in-Close-clause-stand g c = c.close.ensures (g.B.AnswerBook.shown c.args.seat.now) c.requires.stand

pub returns-in-Restart-clause-stand : goal.returns-in-Restart-clause-stand
returns-in-Restart-clause-stand g c = c.restart.ensures (g.B.AnswerBook.shown c.args.seat.now) c.requires.stand
