use Rattle.sip_selection.proofs.Finding.{drops-both}
use Rattle.sip_selection.proofs.known.Answers.behind.Goals as goal

pub returns : goal.returns
returns c =
    rw (
      c.in_ok-push_found.ensures,
      c.in_ok-push_given.ensures,
      c.new-entries.ensures.items,
      c.saturating_sub.ensures,
      c.count.ensures,
      c.deref.ensures.value,
      c.deref-2.ensures.value,
      c.given.view_is,
      ← c.self.view_is,
    )
    (drops-both c.self.inside.given.now c.self.inside.found.items c.args.count)
