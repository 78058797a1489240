use Rattle.std.proofs.Common.{ap, arith}
use Rattle.answer_cache.specs.Carried.{carried_stores}
use Rattle.answer_cache.proofs.CarriedAnswers.{carried-answers, no-more}
use Rattle.answer_cache.proofs.carried.law_carried_answers_as_before.Goals as goal

pub returns-clause-same : goal.returns-clause-same
returns-clause-same c before after now later le it question =
    carried-answers question c.law_same_questions_are_equal.ensures now later le c.args.carried.now.groups
    (let least = c.carried.invariant.0 in let is = ap (λ v. v.groups) c.carried.view_is in omega arith) before after
    c.args.carried.now.offers it

pub returns-clause-no_more : goal.returns-clause-no_more
returns-clause-no_more c now later le question none = no-more question (carried_stores c.args.carried.now.offers) now later le none
