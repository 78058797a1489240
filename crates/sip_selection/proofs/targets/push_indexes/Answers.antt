use Rattle.sip_selection.specs.Consulting.{inquiry}
use Rattle.sip_selection.specs.Stages.{index_left, servers_left}
use Rattle.sip_selection.proofs.Consulting.{came-grown, came-needs, extends-on, needs-of}
use Rattle.sip_selection.proofs.Reaching.{came-more, came-stop, server-done, server-part, server-stops, index-stops}
use Rattle.sip_selection.proofs.targets.push_indexes.Goals as goal

pub push_index-requires-clause-needs : goal.push_index-requires-clause-needs
push_index-requires-clause-needs g c =
    let l = c.loop-server in
    let a = c.args in
    let caps = a.context.now.caps.now in
    let it = inquiry a.context.now in
    needs-of it l.walk.known
    (λ all. servers_left caps all a.transport a.servers.now a.indexes.now (record { server = l.server; kind = l.kind }))
    (λ all. index_left caps all a.transport a.servers.now c.from-index.result l.kind)
    (λ all question extends is. index-stops caps a.transport a.servers.now a.indexes.now l.server l.kind
    c.from-index.result c.loop-server-test.true c.from-index.ensures all question is)
    (came-needs it a.walk.now.known l.walk.known (λ all. servers_left caps all a.transport a.servers.now a.indexes.now) a.from
    a.walk.now.targets.items _ l.walk.targets.items l.invariant.more l.invariant.came c.requires.needs)

pub returns-in-Some-clause-reaches : goal.returns-in-Some-clause-reaches
returns-in-Some-clause-reaches g c =
    let l = c.loop-server in
    let a = c.args in
    let caps = a.context.now.caps.now in
    let then = c.push_index.new.walk.known in
    let part = rw c.in-Some.is at c.in_ok-kind.ensures.reaches in
    let index = c.from-index.result in
    let came = came-grown l.walk.known then (λ all. servers_left caps all a.transport a.servers.now a.indexes.now) a.from
    a.walk.now.targets.items _ l.walk.targets.items c.in_ok-kind.ensures.extends l.invariant.came in
    came-stop then (λ all. servers_left caps all a.transport a.servers.now a.indexes.now) a.from a.walk.now.targets.items _ _
    c.in-Some.question
    (came-more then
    (λ all. servers_left caps all a.transport a.servers.now a.indexes.now) a.from a.walk.now.targets.items _ _ l.walk.targets.items _
    part.0 came part.1
    (server-part caps a.transport a.servers.now a.indexes.now l.server l.kind index c.loop-server-test.true c.from-index.ensures then
    c.in-Some.kind c.in-Some.question part.0 part.2))
    (server-stops caps a.transport a.servers.now a.indexes.now l.server l.kind index c.loop-server-test.true c.from-index.ensures then
    c.in-Some.kind c.in-Some.question part.0 part.2)

pub returns-in-Some-clause-extends : goal.returns-in-Some-clause-extends
returns-in-Some-clause-extends g c =
    extends-on c.args.walk.now.known c.loop-server.walk.known c.push_index.new.walk.known c.loop-server.invariant.more
    c.in_ok-kind.ensures.extends

pub loop-server-preserved : goal.loop-server-preserved
loop-server-preserved g c =
    let l = c.loop-server in
    let a = c.args in
    let caps = a.context.now.caps.now in
    let then = c.push_index.new.walk.known in
    let part = rw c.in_default.is at c.in_ok-kind.ensures.reaches in
    let index = c.from-index.result in
    let came = came-grown l.walk.known then (λ all. servers_left caps all a.transport a.servers.now a.indexes.now) a.from
    a.walk.now.targets.items _ l.walk.targets.items c.in_ok-kind.ensures.extends l.invariant.came in
    record {
      came = came-more then (λ all. servers_left caps all a.transport a.servers.now a.indexes.now) a.from a.walk.now.targets.items _ _
          l.walk.targets.items _ part.0 came part.1
          (server-done caps a.transport a.servers.now a.indexes.now l.server l.kind index c.loop-server-test.true c.from-index.ensures then
          part.0 part.2);
      more = extends-on a.walk.now.known l.walk.known then l.invariant.more c.in_ok-kind.ensures.extends;
      consulted = c.push_index.ensures.consulted;
    }
