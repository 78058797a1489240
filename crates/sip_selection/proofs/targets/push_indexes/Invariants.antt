use Rattle.sip_selection.specs.Consulting.{Consulted, inquiry}
use Rattle.sip_selection.specs.Stages.{Extends, servers_left}
use Rattle.sip_selection.proofs.Reaching.{Came}
use Rattle.sip_selection.proofs.targets.push_indexes.Given as goal

abbrev pub invariant-loop-server : goal.invariant-loop-server
invariant-loop-server g l = record {
  came : Came l.walk.known (λ all. servers_left l.context.caps.now all l.transport l.servers l.indexes) l.fn.from
      l.initial.walk.targets.items (record { server = l.server; kind = l.kind }) l.walk.targets.items;
  more : Extends l.initial.walk.known l.walk.known;
  consulted : Consulted (g.S.AnswerSource.ready l.context.source.now) g.S.AnswerSource.goes
      (g.S.AnswerSource.says l.context.source.now) (inquiry l.context) l.context.start.value l.seat l.walk.known;
}
