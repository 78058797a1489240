use Rattle.std.proofs.Common.{◌∙◌}
use Rattle.ip_text.proofs.V6Fronts.{no_front_no_address, whole_read, filled_read, not_filled}
use Rattle.ip_text.proofs.ipv6.ipv6.Goals as goal

pub returns-in_err-groups_in_front : goal.returns-in_err-groups_in_front
returns-in_err-groups_in_front c =
    rw c.from_residual-in_err-groups_in_front.ensures
    (no_front_no_address c.args.text.now c.in_err-groups_in_front.ensures c.in_default.ensures)

pub returns-in_err-side-in-Some-2 : goal.returns-in_err-side-in-Some-2
returns-in_err-side-in-Some-2 c =
    rw c.from_residual-in_err-side-in-Some-2.ensures
    (not_filled c.args.text.now c.groups_in_front.new.octets.items c.in-Some-2.right.now
    (rw c.in-Some-2.is at c.in_ok-groups_in_front.ensures) c.in_err-side-in-Some-2.ensures)

pub returns-in-None : goal.returns-in-None
returns-in-None c =
    c.whole.ensures ∙ whole_read c.args.text.now c.groups_in_front.new.octets.items
    (rw c.in-None.is at c.in_ok-groups_in_front.ensures)

pub returns-in_ok-side-in-Some-2 : goal.returns-in_ok-side-in-Some-2
returns-in_ok-side-in-Some-2 c =
    c.filled-in-Some-2.ensures ∙ rw c.as_slice-in-Some-2.ensures.value
    (filled_read c.args.text.now c.groups_in_front.new.octets.items c.in-Some-2.right.now
    c.in_ok-side-in-Some-2.field-0.items (rw c.in-Some-2.is at c.in_ok-groups_in_front.ensures)
    c.in_ok-side-in-Some-2.ensures)
