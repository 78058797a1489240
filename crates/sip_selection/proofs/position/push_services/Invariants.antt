use Rattle.std.proofs.Common.{◌≡◌, ◌*◌, ◌≤◌, List, ◌++◌, Result}
use Rattle.srv_choice.specs.Draws.{words_of}
use Rattle.sip_uri.specs.declared.transport.Transport.{Transport}
use Rattle.sip_selection.specs.Consulting.{Consulted, inquiry}
use Rattle.sip_selection.specs.Known.{Given}
use Rattle.sip_selection.specs.Stages.{Extends, position_left}
use Rattle.sip_selection.specs.declared.reason.Reason.{Reason}
use Rattle.sip_selection.specs.declared.target.Target.{Target}
use Rattle.sip_selection.proofs.position.push_services.Given as goal

abbrev pub invariant-loop-at : goal.invariant-loop-at
invariant-loop-at g l =
    let b = l.context in
    record {
      at : l.position.service ≡ l.at;
      word : l.position.word ≤ 32 * l.position.service;
      left : (fallback : Result Transport Reason) (front : List Target) (all : List Given) → Extends l.walk.known all
          → position_left b.caps.now (words_of b.words.now) b.name.now all l.services fallback l.fn.from
          (front ++ l.initial.walk.targets.items)
          ≡ position_left b.caps.now (words_of b.words.now) b.name.now all l.services fallback l.position (front ++ l.walk.targets.items);
      more : Extends l.initial.walk.known l.walk.known;
      consulted : Consulted (g.S.AnswerSource.ready b.source.now) g.S.AnswerSource.goes (g.S.AnswerSource.says b.source.now)
          (inquiry b) b.start.value l.seat l.walk.known;
    }
