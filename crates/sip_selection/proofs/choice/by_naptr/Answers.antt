use Rattle.std.proofs.Common.{◌∙◌, refl}
use Rattle.srv_choice.specs.Draws.{words_of}
use Rattle.dns_answers.specs.Found.{answer_in}
use Rattle.dns_message.specs.declared.kind.Kind.TheVariants.{Naptr}
use Rattle.sip_selection.proofs.Choosing.{goes-too, by_services-left}
use Rattle.sip_selection.proofs.Consulting.{extends-on}
use Rattle.sip_selection.proofs.Walking.{ok-both, ok-each}
use Rattle.sip_selection.proofs.choice.by_naptr.Goals as goal

pub answer_from-requires-clause-needs : goal.answer_from-requires-clause-needs
answer_from-requires-clause-needs g c = λ all question extends is. c.requires.needs all question extends (rw is refl)

pub along_all-requires-clause-needs : goal.along_all-requires-clause-needs
along_all-requires-clause-needs g c = λ all question extends unknown.
    let a = c.args in
    let b = a.context.now in
    let answer = answer_in c.in-Ok.answer in
    let is = rw (c.rules_in.ensures.rules, c.deref.ensures, c.as_arc.ensures) at c.in_ok-candidates-in-Ok.ensures.is in
    c.requires.needs all question (extends-on a.walk.now.known c.answer_from.new.walk.known all c.answer_from.ensures.extends extends)
    (rw (extends (record { name = b.name.now; kind = Naptr }) answer c.in-Ok.ensures.answer) (is all ∙ unknown))

pub returns-in_ok-candidates-in-Ok-clause-goes : goal.returns-in_ok-candidates-in-Ok-clause-goes
returns-in_ok-candidates-in-Ok-clause-goes g c =
    let a = c.args in
    let b = a.context.now in
    let answer = answer_in c.in-Ok.answer in
    let candidates = c.in_ok-candidates-in-Ok.candidates in
    let then = c.answer_from.new.walk.known in
    let more = c.along_all.new.walk.known in
    let is = rw (c.rules_in.ensures.rules, c.deref.ensures, c.as_arc.ensures) at c.in_ok-candidates-in-Ok.ensures.is in
    let left = rw c.answer_from.ensures.targets at c.along_all.ensures.goes in
    ok-both _ _ _ (λ step on goes. goes-too b more _ _ step a.walk.now.targets.items _
    (λ found all extends. by_services-left b.secure b.caps.now (words_of b.words.now) b.name.now all candidates.services.items
    candidates.fallback
    found answer
    (extends-on then more all on extends (record { name = b.name.now; kind = Naptr }) answer c.in-Ok.ensures.answer) (is all)) goes)
    c.along_all.result c.along_all.ensures.extends left

pub returns-in_ok-candidates-in-Ok-clause-extends : goal.returns-in_ok-candidates-in-Ok-clause-extends
returns-in_ok-candidates-in-Ok-clause-extends g c =
    ok-each _ _ (λ _ on. extends-on c.args.walk.now.known c.answer_from.new.walk.known c.along_all.new.walk.known
    c.answer_from.ensures.extends on) c.along_all.result c.along_all.ensures.extends
