use Rattle.sip_selection.specs.Consulting.{Consulted, inquiry}
use Rattle.sip_selection.specs.Stages.{Extends, kinds_left}
use Rattle.sip_selection.proofs.Reaching.{Came}
use Rattle.sip_selection.proofs.targets.push_kinds.Given as goal

abbrev pub invariant-loop-at : goal.invariant-loop-at
invariant-loop-at g l = record {
  came : Came l.walk.known (λ all. kinds_left l.context.caps.now all l.transport l.port l.name) l.from l.initial.walk.targets.items
      l.at l.walk.targets.items;
  more : Extends l.initial.walk.known l.walk.known;
  consulted : Consulted (g.S.AnswerSource.ready l.context.source.now) g.S.AnswerSource.goes
      (g.S.AnswerSource.says l.context.source.now) (inquiry l.context) l.context.start.value l.seat l.walk.known;
}
