use Rattle.dns_zone.specs.Servers.{begun, without, with_one}
use Rattle.dns_zone.proofs.server.serve.Goals as goal
use Rattle.dns_zone.proofs.server.serve.Goals.{then-round, else-round, in-None, in-Some+then-failures-eq18446744073709551615, in-Some+else-failures-eq18446744073709551615+else-sent+then-load}

pub loop-init : goal.loop-init
loop-init g c = begun

pub loop-preserved : goal.loop-preserved
loop-preserved g c = elim c.if-round.branch [
  | then-round w ↦ rw w.sent-is (with_one c.loop.invariant w.if-round.ensures)
  | else-round w ↦ rw w.sent-is (without c.loop.invariant w.if-round.ensures)
]

pub returns : goal.returns
returns g c = elim c.match-next.branch [
  | in-None w ↦ rw (w.wire-is, w.sent-is) c.loop.invariant
  | in-Some+then-failures-eq18446744073709551615 w ↦ rw (w.wire-is, w.sent-is) c.loop.invariant
  | in-Some+else-failures-eq18446744073709551615+else-sent+then-load w ↦ rw (w.wire-is, w.sent-is) (elim w.if-round.branch [
    | then-round w' ↦ rw w'.sent-is (with_one c.loop.invariant w'.if-round.ensures)
    | else-round w' ↦ rw w'.sent-is (without c.loop.invariant w'.if-round.ensures)
  ])
]
