use Rattle.dns_answers.specs.Found.{answer_in}
use Rattle.sip_selection.specs.Consulting.{onward, one}
use Rattle.sip_selection.proofs.Consulting.{answers-last, extends-more}
use Rattle.sip_selection.proofs.Reaching.{extends-itself}
use Rattle.sip_selection.proofs.source.drawn.Goals as goal

pub returns-in_err-answer-clause-consulted : goal.returns-in_err-answer-clause-consulted
returns-in_err-answer-clause-consulted g c = onward _ c.requires.consulted c.answer.ensures.goes c.answer.ensures.ready

pub returns-in_err-add-in-Some-clause-consulted : goal.returns-in_err-add-in-Some-clause-consulted
returns-in_err-add-in-Some-clause-consulted g c =
    rw c.in_err-add-in-Some.ensures.unchanged (onward _ c.requires.consulted c.answer.ensures.goes c.answer.ensures.ready)

pub returns-in_err-new-in-None-clause-consulted : goal.returns-in_err-new-in-None-clause-consulted
returns-in_err-new-in-None-clause-consulted g c = onward _ c.requires.consulted c.answer.ensures.goes c.answer.ensures.ready

pub returns-in_ok-new-in-None-clause-consulted : goal.returns-in_ok-new-in-None-clause-consulted
returns-in_ok-new-in-None-clause-consulted g c = onward _ c.requires.consulted c.answer.ensures.goes c.answer.ensures.ready

pub returns-in_ok-add-in-Some-clause-consulted : goal.returns-in_ok-add-in-Some-clause-consulted
returns-in_ok-add-in-Some-clause-consulted g c =
    let known = c.args.walk.now.known in
    let said = rw c.in-Some.is at c.in_ok-answer.ensures.says in
    let needed = c.requires.needs known c.args.question (extends-itself known) c.requires.unknown in
    rw c.in_ok-add-in-Some.ensures.added
    (one _ c.args.question (answer_in c.in-Some.answer) c.requires.consulted c.answer.ensures.goes c.answer.ensures.ready said needed
    c.add.ensures.few)

pub returns-in_ok-add-in-Some-clause-extends : goal.returns-in_ok-add-in-Some-clause-extends
returns-in_ok-add-in-Some-clause-extends g c = rw c.in_ok-add-in-Some.ensures.added (extends-more c.args.walk.now.known _)

pub returns-in_ok-add-in-Some-clause-answer : goal.returns-in_ok-add-in-Some-clause-answer
returns-in_ok-add-in-Some-clause-answer g c =
    rw (c.in_ok-add-in-Some.ensures.added, c.in_ok-add-in-Some.ensures.answer)
    (answers-last c.args.question (answer_in c.in-Some.answer) c.args.walk.now.known c.requires.unknown)
