use Rattle.std.proofs.Common.{[], refl, sym}
use Rattle.std.proofs.lemmas.List.{append-nil}
use Rattle.std.proofs.lemmas.Option.{slice_get_past, slice_get_read}
use Rattle.sip_selection.specs.Consulting.{inquiry}
use Rattle.sip_selection.specs.Stages.{index_left, server_left}
use Rattle.sip_selection.proofs.Consulting.{needs-of}
use Rattle.sip_selection.proofs.Reaching.{index-server}
use Rattle.sip_selection.proofs.targets.push_index.Goals as goal

pub push_server-requires-clause-needs : goal.push_server-requires-clause-needs
push_server-requires-clause-needs g c =
    let a = c.args in
    let caps = a.context.now.caps.now in
    let server = c.in-Some.server.now in
    needs-of (inquiry a.context.now) a.walk.now.known (λ all. index_left caps all a.transport a.servers.now a.index a.from)
    (λ all. server_left caps all a.transport server a.from)
    (λ all question extends is. rw (slice_get_read a.servers.now _ a.index server refl c.in-Some.ensures.lookup.3.0
    c.in-Some.ensures.lookup.1) is) c.requires.needs

pub returns-in-Some-clause-reaches : goal.returns-in-Some-clause-reaches
returns-in-Some-clause-reaches g c = rw (index-server c.args.context.now.caps.now c.args.transport c.args.servers.now c.args.index
    c.in-Some.server.now
    (slice_get_read c.args.servers.now _ c.args.index c.in-Some.server.now refl c.in-Some.ensures.lookup.3.0 c.in-Some.ensures.lookup.1))
    c.push_server.ensures.reaches

pub returns-in-None-clause-reaches : goal.returns-in-None-clause-reaches
returns-in-None-clause-reaches g c = (
  [],
  sym (append-nil c.args.walk.now.targets.items),
  λ all extends. rw (slice_get_past c.args.servers.now c.args.index c.in-None.ensures.lookup.3) refl,
)
