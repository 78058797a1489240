use Rattle.dns_answers.proofs.AnswerParts.{kind_is, answer-few, answer-short}
use Rattle.dns_answers.proofs.laws.law_answers_are_bounded.Goals as goal

pub returns-clause-kind : goal.returns-clause-kind
returns-clause-kind c = λ question message. kind_is question.kind _

pub returns-clause-few : goal.returns-clause-few
returns-clause-few c = λ question message. answer-few question message

pub returns-clause-short : goal.returns-clause-short
returns-clause-short c = λ question message. answer-short question message
