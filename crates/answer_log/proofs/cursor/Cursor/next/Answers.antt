use Rattle.answer_log.proofs.Walking.{at-end}
use Rattle.answer_log.proofs.cursor.Cursor.next.Goals as goal

pub returns-then-self-eq0-clause-end : goal.returns-then-self-eq0-clause-end
returns-then-self-eq0-clause-end c left it = at-end c.args.self.now left c.law_log_keeps_its_rule.ensures c.if-self-eq0.true it
