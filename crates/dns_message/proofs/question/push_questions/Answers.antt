use Rattle.std.proofs.lemmas.Result.{err_from_is_err_and}
use Rattle.dns_message.specs.Fits.{QuestionFits}
use Rattle.dns_message.specs.Written.{question_octets}
use Rattle.dns_message.proofs.WrittenOctets.{octets-next, all-next, too_long-item, few-item}
use Rattle.dns_message.proofs.question.push_questions.Goals as goal

pub loop-asked-preserved : goal.loop-asked-preserved
loop-asked-preserved c =
    let l = c.loop-asked in
    let pushed = c.in_ok-push_question.ensures in
    record {
      so_far = octets-next question_octets c.args.out.now.items l.out.items c.push_question.new.out.items c.args.questions.now
          l.asked-index c.asked-item.result c.loop-asked-test.true c.asked-item.is l.invariant.so_far pushed.ok;
      fit = all-next QuestionFits c.args.questions.now l.asked-index c.asked-item.result c.loop-asked-test.true c.asked-item.is
          l.invariant.fit pushed.fits;
    }

pub returns-in_err-push_question-clause-too_long : goal.returns-in_err-push_question-clause-too_long
returns-in_err-push_question-clause-too_long c =
    let l = c.loop-asked in
    rw (err_from_is_err_and c.from_residual.result c.from_residual.ensures.1).1
    (too_long-item question_octets c.args.out.now.items l.out.items c.args.questions.now l.asked-index c.asked-item.result
    c.loop-asked-test.true c.asked-item.is l.invariant.so_far c.in_err-push_question.ensures.too_long)

pub returns-in_err-push_question-clause-few : goal.returns-in_err-push_question-clause-few
returns-in_err-push_question-clause-few c =
    let l = c.loop-asked in
    let refused = c.in_err-push_question.ensures in
    rw (err_from_is_err_and c.from_residual.result c.from_residual.ensures.1).1
    (few-item c.args.out.now.items l.out.items c.args.questions.now l.asked-index c.asked-item.result c.loop-asked-test.true
    l.invariant.so_far l.invariant.fit refused.fits refused.too_long)
