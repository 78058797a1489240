use Rattle.answer_log.proofs.Fronts.{front-log}
use Rattle.answer_log.proofs.log.law_log_keeps_its_rule.Goals as goal

pub returns : goal.returns
returns c = let it = c.learn.ensures in front-log it.4.0 c.args.book.now.log c.learn.new.self.log it.3 it.4.1
