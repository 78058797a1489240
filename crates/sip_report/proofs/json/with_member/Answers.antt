use Rattle.std.proofs.Common.{refl}
use Rattle.serde_json.proofs.Views.{view-Object, members_view-insert_entry}
use Rattle.sip_report.proofs.json.with_member.Goals as goal

pub returns-in_ok-insert-in-Object : goal.returns-in_ok-insert-in-Object
returns-in_ok-insert-in-Object c =
    let key = c.in_ok-key-in-Object.key in
    rw (
      c.in-Object.is,
      view-Object c.in-Object.members,
      view-Object c.insert.new.self,
      c.in_ok-insert-in-Object.ensures.entries,
      members_view-insert_entry c.in-Object.members.entries key c.args.member,
      c.in_ok-key-in-Object.ensures.ok,
    ) refl
