use Rattle.std.proofs.Common.{◌∙◌, ap}
use Rattle.dns_answers.specs.Found.{answer_in}
use Rattle.dns_message.specs.declared.kind.Kind.TheVariants.{A}
use Rattle.std.proofs.Common.{get_or}
use Rattle.sip_selection.specs.Callers.{kinds_of}
use Rattle.sip_selection.specs.Consulting.{inquiry}
use Rattle.sip_selection.specs.Known.{answer_to}
use Rattle.sip_selection.specs.Stages.{kinds_left}
use Rattle.sip_selection.proofs.Consulting.{came-grown, came-needs, extends-on, needs-of}
use Rattle.sip_selection.proofs.Reaching.{came-first, came-more, came-stop, kind-more, kind-stops}
use Rattle.sip_selection.proofs.targets.push_kinds.Goals as goal

pub answer_from-requires-clause-needs : goal.answer_from-requires-clause-needs
answer_from-requires-clause-needs g c =
    let l = c.loop-at in
    let a = c.args in
    let caps = a.context.now.caps.now in
    let it = inquiry a.context.now in
    let kinds = c.kinds_of-kinds.result.now in
    let are = c.kinds_of-kinds.ensures ∙ ap kinds_of c.families.ensures in
    needs-of it l.walk.known (λ all. kinds_left caps all a.transport a.port a.name.now l.at)
    (λ all. answer_to all (record { name = a.name.now; kind = get_or kinds l.at A }))
    (λ all question extends is. kind-stops caps a.transport a.port a.name.now kinds l.at are c.loop-at-test.true all question is)
    (came-needs it a.walk.now.known l.walk.known (λ all. kinds_left caps all a.transport a.port a.name.now) a.from
    a.walk.now.targets.items l.at l.walk.targets.items l.invariant.more l.invariant.came c.requires.needs)

pub loop-at-init : goal.loop-at-init
loop-at-init g c =
    let a = c.args in
    record {
      came = came-first a.walk.now.known (λ all. kinds_left a.context.now.caps.now all a.transport a.port a.name.now) a.from
          a.walk.now.targets.items;
      more = λ question answer is. is;
      consulted = c.requires.consulted;
    }

pub loop-at-preserved : goal.loop-at-preserved
loop-at-preserved g c =
    let l = c.loop-at in
    let a = c.args in
    let caps = a.context.now.caps.now in
    let then = c.answer_from.new.walk.known in
    let are = c.kinds_of-kinds.ensures ∙ ap kinds_of c.families.ensures in
    record {
      came = came-more then
          (λ all. kinds_left caps all a.transport a.port a.name.now) a.from a.walk.now.targets.items l.at _ l.walk.targets.items _ _
          (came-grown l.walk.known then (λ all. kinds_left caps all a.transport a.port a.name.now) a.from a.walk.now.targets.items l.at
          l.walk.targets.items c.answer_from.ensures.extends l.invariant.came)
          (rw (
            ← c.as_arc.ensures,
            ← c.deref.ensures,
            ← c.records-records.ensures.records,
            ← c.answer_from.ensures.targets,
            ← c.is_fixed-is_fixed.ensures,
          ) c.in_ok-push_addresses-in-Ok.ensures)
          (kind-more caps a.transport a.port a.name.now c.kinds_of-kinds.result.now l.at are c.loop-at-test.true then
          (answer_in c.in-Ok.answer) c.in-Ok.ensures.answer);
      more = extends-on a.walk.now.known l.walk.known then l.invariant.more c.answer_from.ensures.extends;
      consulted = c.answer_from.ensures.consulted;
    }

pub returns-in-Err-Need-clause-reaches : goal.returns-in-Err-Need-clause-reaches
returns-in-Err-Need-clause-reaches g c =
    let l = c.loop-at in
    let a = c.args in
    let caps = a.context.now.caps.now in
    let then = c.answer_from.new.walk.known in
    let it = c.in-Err-Need in
    let are = c.kinds_of-kinds.ensures ∙ ap kinds_of c.families.ensures in
    let unknown = rw it.field-0-is at it.ensures.answer in
    let came = came-grown l.walk.known then (λ all. kinds_left caps all a.transport a.port a.name.now) a.from a.walk.now.targets.items
    l.at l.walk.targets.items c.answer_from.ensures.extends l.invariant.came in
    rw (it.field-0-is, c.answer_from.ensures.targets) (came-stop then (λ all. kinds_left caps all a.transport a.port a.name.now) a.from
    a.walk.now.targets.items l.at l.walk.targets.items it.question came
    (kind-stops caps a.transport a.port a.name.now c.kinds_of-kinds.result.now l.at are c.loop-at-test.true then it.question unknown))

pub returns-in-Err-Need-clause-extends : goal.returns-in-Err-Need-clause-extends
returns-in-Err-Need-clause-extends g c =
    extends-on c.args.walk.now.known c.loop-at.walk.known c.answer_from.new.walk.known c.loop-at.invariant.more
    c.answer_from.ensures.extends
