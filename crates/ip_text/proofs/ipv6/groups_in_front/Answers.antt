use Rattle.std.proofs.Common.{◌≡◌, ◌<◌, length, sym, arith}
use Rattle.std.proofs.lemmas.Bool.Decides.{nat_tests}
use Rattle.ip_text.proofs.V6Fronts.{none_in_front, no_address_here, no_room_for_ipv4, closes_with_ipv4, no_room, closes_here, colons_here, other_here, shorter_here, goes_on_here}
use Rattle.ip_text.proofs.ipv6.groups_in_front.Goals as goal

pub returns-in_err-number : goal.returns-in_err-number
returns-in_err-number c =
    rw c.from_residual.ensures
    (none_in_front c.args.text.now c.loop-number.octets.items c.loop-number.rest.now c.loop-number.invariant c.in_err-number.ensures)

pub returns-in_err-ipv4 : goal.returns-in_err-ipv4
returns-in_err-ipv4 c =
    rw c.from_residual-in_err-ipv4.ensures
    (no_address_here c.args.text.now c.loop-number.octets.items c.loop-number.rest.now c.loop-number.invariant
    c.in_ok-number.number c.in_ok-number.behind.now c.in_ok-number.ensures _ c.in-Some.ensures c.in_err-ipv4.ensures)

pub returns-in_err-push_octets : goal.returns-in_err-push_octets
returns-in_err-push_octets c =
    rw c.from_residual-in_err-push_octets.ensures
    (no_room_for_ipv4 c.args.text.now c.loop-number.octets.items c.loop-number.rest.now c.loop-number.invariant
    c.in_ok-ipv4.field-0 (sym c.in_ok-ipv4.ensures) c.in_err-push_octets.ensures)

pub returns-in-Some : goal.returns-in-Some
returns-in-Some c =
    rw c.in_ok-push_octets.ensures
    (closes_with_ipv4 c.args.text.now c.loop-number.octets.items c.loop-number.rest.now c.loop-number.invariant
    c.in_ok-ipv4.field-0 (sym c.in_ok-ipv4.ensures))

pub returns-in_err-push_group : goal.returns-in_err-push_group
returns-in_err-push_group c =
    rw c.from_residual-in_err-push_group.ensures
    (no_room c.args.text.now c.loop-number.octets.items c.loop-number.rest.now c.loop-number.invariant
    c.in_err-push_group.ensures)

pub returns-then-is_empty : goal.returns-then-is_empty
returns-then-is_empty c =
    let none : length c.in_ok-number.behind.now ≡ 0 = grind (arith, nat_tests, c.if-is_empty.ensures) in
    rw c.in_ok-push_group.ensures
    (closes_here c.args.text.now c.loop-number.octets.items c.loop-number.rest.now c.loop-number.invariant
    c.in_ok-number.number c.in_ok-number.behind.now c.in_ok-number.ensures none)

pub returns-in-Some-behind_colons : goal.returns-in-Some-behind_colons
returns-in-Some-behind_colons c =
    rw c.in_ok-push_group.ensures
    (colons_here c.args.text.now c.loop-number.octets.items c.loop-number.rest.now c.loop-number.invariant
    c.in_ok-number.number c.in_ok-number.behind.now c.in_ok-number.ensures c.in-Some-behind_colons.right.now
    c.in-Some-behind_colons.ensures)

pub returns-in_err-rest : goal.returns-in_err-rest
returns-in_err-rest c =
    let some : 0 < length c.in_ok-number.behind.now = grind (arith, nat_tests, c.if-is_empty.ensures) in
    rw c.from_residual-in_err-rest.ensures
    (other_here c.args.text.now c.loop-number.octets.items c.loop-number.rest.now c.loop-number.invariant
    c.in_ok-number.number c.in_ok-number.behind.now c.in_ok-number.ensures some c.in_err-rest.ensures c.in_default.ensures)

pub loop-number-smaller : goal.loop-number-smaller
loop-number-smaller c =
    shorter_here c.args.text.now c.loop-number.octets.items c.loop-number.rest.now c.loop-number.invariant
    c.in_ok-number.number c.in_ok-number.behind.now c.in_ok-number.ensures c.in_ok-rest.rest.now c.in_ok-rest.ensures

pub loop-number-preserved : goal.loop-number-preserved
loop-number-preserved c =
    rw c.in_ok-push_group.ensures
    (goes_on_here c.args.text.now c.loop-number.octets.items c.loop-number.rest.now c.loop-number.invariant
    c.in_ok-number.number c.in_ok-number.behind.now c.in_ok-number.ensures c.in_ok-rest.rest.now c.in_ok-rest.ensures
    c.in_default-behind_colons.ensures)
