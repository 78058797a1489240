use Rattle.std.proofs.Common.{sym, ap, ◌∙◌}
use Rattle.std.specs.List.{find}
use Rattle.dns_zone.specs.Views.{says}
use Rattle.dns_zone.proofs.Starts.{has_type, lacks_type}
use Rattle.dns_zone.proofs.authority.authority_at.Goals as goal
use Rattle.dns_zone.proofs.authority.authority_at.Goals.{in-Some+in_ok-push, in_default}

pub returns-then-is_some : goal.returns-then-is_some
returns-then-is_some c =
    c.new.ensures.items ∙ sym
    (has_type c.args.zone.now c.args.name.now c.args.type_number c.first_of.result
    (c.first_of.ensures ∙ ap (find (says c.args.type_number)) c.entries_at.ensures) c.if-is_some.ensures)

pub returns : goal.returns
returns c =
    let none = c.new-records.ensures.items in
    let whole = lacks_type c.args.zone.now c.args.name.now c.args.type_number c.first_of.result
    (c.first_of.ensures ∙ ap (find (says c.args.type_number)) c.entries_at.ensures) c.if-is_some.ensures in
    elim c.match-branch-2.branch [
      | in-Some+in_ok-push w ↦
          (let here = rw w.in-Some.is at c.in_ok-start.ensures in
          rw (w.records-is, w.in_ok-push.ensures.items, none, whole) (sym here))
      | in_default w ↦ (let here = rw w.in_default.is at c.in_ok-start.ensures in rw (w.records-is, none, whole) (sym here))
    ]
