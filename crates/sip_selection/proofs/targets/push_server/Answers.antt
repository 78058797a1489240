use Rattle.sip_selection.specs.Consulting.{inquiry}
use Rattle.sip_selection.specs.Stages.{kinds_left, server_left}
use Rattle.sip_selection.proofs.Consulting.{needs-of}
use Rattle.sip_selection.proofs.Reaching.{server-kinds, named-is}
use Rattle.sip_selection.proofs.targets.push_server.Goals as goal

pub push_kinds-requires-clause-needs : goal.push_kinds-requires-clause-needs
push_kinds-requires-clause-needs g c =
    let a = c.args in
    let caps = a.context.now.caps.now in
    needs-of (inquiry a.context.now) a.walk.now.known (λ all. server_left caps all a.transport a.server.now a.from)
    (λ all. kinds_left caps all a.transport a.server.now.port a.server.now.target a.from)
    (λ all question extends is. rw (named-is a.server.now.target c.if-is_root.ensures.1) is) c.requires.needs

pub returns-clause-reaches : goal.returns-clause-reaches
returns-clause-reaches g c = rw (server-kinds c.args.context.now.caps.now c.args.transport c.args.server.now
    (named-is c.args.server.now.target c.if-is_root.ensures.1)) c.push_kinds.ensures.reaches
