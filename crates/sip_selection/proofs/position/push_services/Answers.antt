use Rattle.std.proofs.Common.{◌+◌, [], ℕ, ◌∙◌, ap}
use Rattle.srv_choice.specs.Draws.{words_of}
use Rattle.sip_selection.proofs.Consulting.{extends-on}
use Rattle.sip_selection.proofs.Walking.{next-service, service-asks}
use Rattle.sip_selection.proofs.position.push_services.Goals as goal

pub push_service-requires-clause-needs : goal.push_service-requires-clause-needs
push_service-requires-clause-needs g c = λ all question extends is.
    let l = c.loop-at in
    let a = c.args in
    let b = a.context.now in
    let fallback = c.requires.needs.0 in
    let there = next-service a.services.now l.position l.at c.index-services-at.result l.invariant.at c.loop-at-test.true
    c.index-services-at.is in
    c.requires.needs.1 all question (extends-on a.walk.now.known l.walk.known all l.invariant.more extends)
    (l.invariant.left fallback [] all extends
    ∙ service-asks b.caps.now (words_of b.words.now) b.name.now all a.services.now fallback l.position l.walk.targets.items
    c.index-services-at.result there question is)

pub returns-in_default-clause-left : goal.returns-in_default-clause-left
returns-in_default-clause-left g c = λ fallback front.
    let l = c.loop-at in
    let there = next-service c.args.services.now l.position l.at c.index-services-at.result l.invariant.at c.loop-at-test.true
    c.index-services-at.is in
    let walks = c.in_ok-stop.ensures.left c.args.services.now there fallback front in (
      λ all extends. l.invariant.left fallback front all
          (extends-on l.walk.known c.push_service.new.walk.known all c.in_ok-stop.ensures.extends extends) ∙ walks.0 all extends,
      walks.1,
    )

pub returns-in_default-clause-extends : goal.returns-in_default-clause-extends
returns-in_default-clause-extends g c =
    extends-on c.args.walk.now.known c.loop-at.walk.known c.push_service.new.walk.known c.loop-at.invariant.more
    c.in_ok-stop.ensures.extends

pub loop-at-preserved : goal.loop-at-preserved
loop-at-preserved g c =
    let l = c.loop-at in
    let then = c.push_service.new.walk.known in
    let there = next-service c.args.services.now l.position l.at c.index-services-at.result l.invariant.at c.loop-at-test.true
    c.index-services-at.is in
    let goes_on = rw c.in-Position.is at c.in_ok-stop.ensures.goes_on in
    let fits = rw c.in-Position.is at c.in_ok-stop.ensures.fits in
    let walks = rw c.in-Position.is at (c.in_ok-stop.ensures.left c.args.services.now there) in
    record {
      at = goes_on ∙ ap (λ (at : ℕ). at + 1) l.invariant.at;
      word = fits;
      left = λ fallback front all extends. l.invariant.left fallback front all
          (extends-on l.walk.known then all c.in_ok-stop.ensures.extends extends) ∙ (walks fallback front).0 all extends;
      more = extends-on c.args.walk.now.known l.walk.known then l.invariant.more c.in_ok-stop.ensures.extends;
      consulted = c.push_service.ensures.consulted;
    }
