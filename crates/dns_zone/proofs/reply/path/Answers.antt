use Rattle.std.proofs.Common.{◌≡◌, arith}
use Rattle.dns_zone.specs.Views.{cname_value}
use Rattle.dns_zone.proofs.Cnames.{path_few}
use Rattle.dns_zone.proofs.Paths.{begun, follows, full, stops}
use Rattle.dns_zone.proofs.reply.path.Goals as goal

pub loop-init : goal.loop-init
loop-init c = rw c.new-links.ensures.items (begun c.args.zone.now c.args.start.now)

pub returns-in_default : goal.returns-in_default
returns-in_default c =
    let l = c.loop in
    let both = stops c.args.zone.now c.args.start.now l.links.items l.name.now l.counter l.invariant c.in_default.ensures in
    (both.0, both.1, rw both.0 (path_few c.args.zone.now c.args.start.now))

pub loop-preserved : goal.loop-preserved
loop-preserved c =
    let l = c.loop in
    rw (c.in_ok-push.ensures.items, c.in_ok-try_clone.ensures, c.in_ok-try_clone-2.ensures)
    (follows c.args.zone.now c.args.start.now l.links.items l.name.now (cname_value c.in-Some.cname) l.counter l.invariant
    (omega arith) c.in-Some.ensures)

pub returns : goal.returns
returns c =
    let l = c.loop in
    let all : l.counter ≡ 8 = omega arith in
    let both = full c.args.zone.now c.args.start.now l.links.items l.name.now (rw all at l.invariant) in
    (both.0, both.1, rw both.0 (path_few c.args.zone.now c.args.start.now))
