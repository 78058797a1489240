use Rattle.std.proofs.Common.{[], ◌++◌, ◌∙◌, sym}
use Rattle.srv_choice.specs.Draws.{words_of}
use Rattle.sip_selection.specs.Choice.{along}
use Rattle.sip_selection.specs.Known.{made}
use Rattle.sip_selection.specs.Stages.{ended, in_front}
use Rattle.sip_selection.proofs.Choosing.{along-left, goes-then, made-asks, position-ended}
use Rattle.sip_selection.proofs.Consulting.{extends-on}
use Rattle.sip_selection.proofs.Walking.{ok-both, ok-each}
use Rattle.sip_selection.proofs.choice.along_all.Goals as goal

pub push_services-requires-clause-needs : goal.push_services-requires-clause-needs
push_services-requires-clause-needs g c =
    let a = c.args in
    let b = a.context.now in
    rw (c.deref.ensures.value, c.start.ensures) (
      a.candidates.fallback,
      λ all question extends is. c.requires.needs all question extends
          (made-asks (in_front a.walk.now.targets.items)
          (along b.caps.now (words_of b.words.now) all b.name.now a.candidates.fallback a.candidates.services.items) question
          (along-left b.caps.now (words_of b.words.now) b.name.now all a.candidates.fallback a.walk.now.targets.items
          a.candidates.services.items
          ∙ is)),
    )

pub ended-requires-clause-needs : goal.ended-requires-clause-needs
ended-requires-clause-needs g c = λ all question extends is.
    let a = c.args in
    let b = a.context.now in
    let candidates = a.candidates in
    let position = c.in-Position.position in
    let walks = rw (c.deref.ensures.value, c.start.ensures, c.in-Position.is) at c.in_ok-position.ensures.left in
    let past = rw (c.deref.ensures.value, c.in-Position.is) at c.in_ok-position.ensures.all in
    c.requires.needs all question
    (extends-on a.walk.now.known c.push_services.new.walk.known all c.in_ok-position.ensures.extends extends)
    (made-asks (in_front a.walk.now.targets.items)
    (along b.caps.now (words_of b.words.now) all b.name.now candidates.fallback candidates.services.items) question
    (along-left b.caps.now (words_of b.words.now) b.name.now all candidates.fallback a.walk.now.targets.items candidates.services.items
    ∙ (walks candidates.fallback []).0 all extends
    ∙ position-ended b.caps.now (words_of b.words.now) b.name.now all candidates.services.items candidates.fallback position _ past ∙ is))

pub returns-in-Position-clause-goes : goal.returns-in-Position-clause-goes
returns-in-Position-clause-goes g c =
    let a = c.args in
    let b = a.context.now in
    let candidates = a.candidates in
    let position = c.in-Position.position in
    let then = c.push_services.new.walk.known in
    let more = c.ended.new.walk.known in
    let walks = rw (c.deref.ensures.value, c.start.ensures, c.in-Position.is) at c.in_ok-position.ensures.left in
    let past = rw (c.deref.ensures.value, c.in-Position.is) at c.in_ok-position.ensures.all in
    ok-both _ _ _ (λ step on goes. goes-then b more
    (λ found all. ended b.caps.now b.name.now all candidates.fallback position found [])
    (λ found all. made (in_front found)
    (along b.caps.now (words_of b.words.now) all b.name.now candidates.fallback candidates.services.items))
    step a.walk.now.targets.items c.push_services.new.walk.targets.items c.ended.new.walk.targets.items
    (λ front all extends. along-left b.caps.now (words_of b.words.now) b.name.now all candidates.fallback
    (front ++ a.walk.now.targets.items)
    candidates.services.items
    ∙ (walks candidates.fallback front).0 all (extends-on then more all on extends)
    ∙ position-ended b.caps.now (words_of b.words.now) b.name.now all candidates.services.items candidates.fallback position _ past) goes)
    c.ended.result c.ended.ensures.extends c.ended.ensures.goes

pub returns-in-Position-clause-extends : goal.returns-in-Position-clause-extends
returns-in-Position-clause-extends g c =
    ok-each _ _ (λ _ on. extends-on c.args.walk.now.known c.push_services.new.walk.known c.ended.new.walk.known
    c.in_ok-position.ensures.extends on) c.ended.result c.ended.ensures.extends

pub returns-in_ok-stage-in-Stop-clause-goes : goal.returns-in_ok-stage-in-Stop-clause-goes
returns-in_ok-stage-in-Stop-clause-goes g c = λ front.
    let a = c.args in
    let b = a.context.now in
    let candidates = a.candidates in
    let walks = rw (c.deref.ensures.value, c.start.ensures, c.in-Stop.is) at c.in_ok-position.ensures.left in
    let left = c.in_ok-stage-in-Stop.ensures.left b.secure b.caps.now (words_of b.words.now) b.name.now
    (front ++ c.push_services.new.walk.targets.items) in (
      λ all extends. along-left b.caps.now (words_of b.words.now) b.name.now all candidates.fallback (front ++ a.walk.now.targets.items)
          candidates.services.items ∙ (walks candidates.fallback front).0 all extends ∙ sym (left all),
      (left c.push_services.new.walk.known ∙ (walks candidates.fallback front).1, c.in_ok-stage-in-Stop.ensures.fits),
    )
