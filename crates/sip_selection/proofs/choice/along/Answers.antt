use Rattle.std.proofs.Common.{[], ◌++◌, ◌∙◌, sym}
use Rattle.std.specs.Arc.{arc_value}
use Rattle.srv_choice.specs.Draws.{words_of}
use Rattle.sip_selection.specs.Stages.{ended, service_stage_left}
use Rattle.sip_selection.proofs.Choosing.{goes-then, position-ended}
use Rattle.sip_selection.proofs.Consulting.{extends-on}
use Rattle.sip_selection.proofs.Walking.{ok-both, ok-each}
use Rattle.sip_selection.proofs.choice.along.Goals as goal

pub push_from-requires-clause-needs : goal.push_from-requires-clause-needs
push_from-requires-clause-needs g c =
    rw (c.deref-2.ensures.value, c.deref.ensures) ((arc_value c.args.candidates.now).fallback, c.requires.needs)

pub ended-requires-clause-needs : goal.ended-requires-clause-needs
ended-requires-clause-needs g c = λ all question extends is.
    let a = c.args in
    let b = a.context.now in
    let candidates = arc_value a.candidates.now in
    let position = c.in-Position.position in
    let walks = rw (c.deref-2.ensures.value, c.deref.ensures, c.in-Position.is) at c.in_ok-position.ensures.left in
    let past = rw (c.deref-2.ensures.value, c.deref.ensures, c.in-Position.is) at c.in_ok-position.ensures.all in
    let here = rw c.deref-in-Position.ensures at is in
    c.requires.needs all question
    (extends-on a.walk.now.known c.push_from.new.walk.known all c.in_ok-position.ensures.extends extends)
    ((walks candidates.fallback []).0 all extends
    ∙ position-ended b.caps.now (words_of b.words.now) b.name.now all candidates.services.items candidates.fallback position _ past ∙ here)

pub returns-in-Position-clause-goes : goal.returns-in-Position-clause-goes
returns-in-Position-clause-goes g c =
    let a = c.args in
    let b = a.context.now in
    let candidates = arc_value a.candidates.now in
    let position = c.in-Position.position in
    let then = c.push_from.new.walk.known in
    let more = c.ended.new.walk.known in
    let walks = rw (c.deref-2.ensures.value, c.deref.ensures, c.in-Position.is) at c.in_ok-position.ensures.left in
    let past = rw (c.deref-2.ensures.value, c.deref.ensures, c.in-Position.is) at c.in_ok-position.ensures.all in
    ok-both _ _ _ (λ step on goes. goes-then b more
    (λ found all. ended b.caps.now b.name.now all candidates.fallback position found [])
    (λ found all. service_stage_left b.caps.now (words_of b.words.now) b.name.now all candidates.services.items candidates.fallback
    a.service_stage.now found)
    step a.walk.now.targets.items c.push_from.new.walk.targets.items c.ended.new.walk.targets.items
    (λ front all extends. (walks candidates.fallback front).0 all (extends-on then more all on extends)
    ∙ position-ended b.caps.now (words_of b.words.now) b.name.now all candidates.services.items candidates.fallback position _ past) goes)
    c.ended.result c.ended.ensures.extends
    (rw c.deref-in-Position.ensures at c.ended.ensures.goes)

pub returns-in-Position-clause-extends : goal.returns-in-Position-clause-extends
returns-in-Position-clause-extends g c =
    ok-each _ _ (λ _ on. extends-on c.args.walk.now.known c.push_from.new.walk.known c.ended.new.walk.known
    c.in_ok-position.ensures.extends on) c.ended.result c.ended.ensures.extends

pub returns-in_ok-stage-in-Stop-clause-goes : goal.returns-in_ok-stage-in-Stop-clause-goes
returns-in_ok-stage-in-Stop-clause-goes g c = λ front.
    let b = c.args.context.now in
    let candidates = arc_value c.args.candidates.now in
    let walks = rw (c.deref-2.ensures.value, c.deref.ensures, c.in-Stop.is) at c.in_ok-position.ensures.left in
    let found = front ++ c.push_from.new.walk.targets.items in
    let left = c.in_ok-stage-in-Stop.ensures.left b.secure b.caps.now (words_of b.words.now) b.name.now found in (
      λ all extends. (walks candidates.fallback front).0 all extends ∙ sym (left all),
      (left c.push_from.new.walk.known ∙ (walks candidates.fallback front).1, c.in_ok-stage-in-Stop.ensures.fits),
    )
