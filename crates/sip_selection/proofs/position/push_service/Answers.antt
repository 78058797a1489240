use Rattle.dns_answers.specs.Found.{answer_in}
use Rattle.dns_message.specs.declared.kind.Kind.TheVariants.{Srv}
use Rattle.std.proofs.Common.{refl}
use Rattle.srv_choice.specs.Draws.{words_of}
use Rattle.sip_selection.specs.Callers.{kinds_of}
use Rattle.sip_selection.specs.Consulting.{inquiry}
use Rattle.sip_selection.specs.Known.{answer_to}
use Rattle.sip_selection.specs.Services.{offer_along, offer_by}
use Rattle.sip_selection.proofs.Consulting.{extends-on, needs-of, needs-on}
use Rattle.sip_selection.proofs.Walking.{ok-both, ok-each, walks-too, named-left}
use Rattle.sip_selection.proofs.position.push_service.Goals as goal

pub answer_from-requires-clause-needs : goal.answer_from-requires-clause-needs
answer_from-requires-clause-needs g c =
    let a = c.args in
    let b = a.context.now in
    needs-of (inquiry b) a.walk.now.known
    (λ all. offer_along all (kinds_of b.caps.now.families) b.caps.now.is_fixed (words_of b.words.now) a.service.now a.position.word)
    (λ all. answer_to all (record { name = c.in-Some.name; kind = Srv }))
    (λ all question extends is. rw (c.in-Some.is, is) refl) c.requires.needs

pub push_answer-requires-clause-needs : goal.push_answer-requires-clause-needs
push_answer-requires-clause-needs g c =
    let a = c.args in
    let b = a.context.now in
    let then = c.answer_from.new.walk.known in
    let answer = answer_in c.in-Ok.answer in
    needs-of (inquiry b) then
    (λ all. offer_along all (kinds_of b.caps.now.families) b.caps.now.is_fixed (words_of b.words.now) a.service.now a.position.word)
    (λ all. offer_by all (kinds_of b.caps.now.families) b.caps.now.is_fixed (words_of b.words.now) a.service.now.transport a.position.word
    answer)
    (λ all question extends is. rw (c.in-Some.is, extends (record { name = c.in-Some.name; kind = Srv }) answer c.in-Ok.ensures.answer) is)
    (needs-on (inquiry b) a.walk.now.known then _ c.answer_from.ensures.extends c.requires.needs)

pub returns-in-Ok-clause-left : goal.returns-in-Ok-clause-left
returns-in-Ok-clause-left g c =
    let a = c.args in
    let b = a.context.now in
    let answer = answer_in c.in-Ok.answer in
    let then = c.answer_from.new.walk.known in
    let more = c.push_answer.new.walk.known in
    let left = rw c.answer_from.ensures.targets at c.push_answer.ensures.left in
    ok-both _ _ _ (λ service_step on walks services there. walks-too b more services _ _ service_step a.walk.now.targets.items _
    (λ all extends fallback found. named-left b.caps.now (words_of b.words.now) b.name.now all services fallback a.position found
    a.service.now
    c.in-Some.name
    c.in-Some.is there answer
    (extends-on then more all on extends (record { name = c.in-Some.name; kind = Srv }) answer c.in-Ok.ensures.answer))
    (walks services)) c.push_answer.result c.push_answer.ensures.extends left

pub returns-in-Ok-clause-extends : goal.returns-in-Ok-clause-extends
returns-in-Ok-clause-extends g c =
    ok-each _ _ (λ _ on. extends-on c.args.walk.now.known c.answer_from.new.walk.known c.push_answer.new.walk.known
    c.answer_from.ensures.extends on) c.push_answer.result c.push_answer.ensures.extends
