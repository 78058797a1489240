use Rattle.sip_resolver.proofs.questions.Questions.law_stand_in_order.Goals as goal

pub returns-clause-distinct : goal.returns-clause-distinct
returns-clause-distinct c = rw (← c.self.view_is) c.self.invariant.bounded.distinct

pub returns-clause-scheduled : goal.returns-clause-scheduled
returns-clause-scheduled c = rw (← c.self.view_is) c.self.invariant.bounded.scheduled
