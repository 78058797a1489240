use Rattle.answer_log.specs.Logs.{history}
use Rattle.answer_log.proofs.Handling.{history-prefix}
use Rattle.answer_log.proofs.Prefixes.{one-front}
use Rattle.answer_log.proofs.log.law_histories_are_one.Goals as goal

pub returns : goal.returns
returns c =
    let it = c.learn.ensures in
    let one = c.args.one.now.log in
    let other = c.args.other.now.log in
    let all = c.learn.new.self.log in
    one-front (history one) (history other) (history all) (history-prefix one all (rw (← c.again-probe.ensures) it.2))
    (history-prefix other all it.3)
