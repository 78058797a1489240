use Rattle.sipwhere.proofs.locate_run.LocateRun.locate_side_by_side.Goals as goal

pub locate_open-told-requires-clause-stands : goal.locate_open-told-requires-clause-stands
locate_open-told-requires-clause-stands g c = c.in-Ok.ensures.stands (g.B.AnswerBook.shown c.self.inside.seat)
