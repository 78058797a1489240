use Rattle.std.proofs.Common.{sym, ap, ◌∙◌}
use Rattle.std.specs.List.{find}
use Rattle.dns_zone.specs.Views.{says}
use Rattle.dns_zone.proofs.Starts.{starts_above, starts_here, starts_nowhere}
use Rattle.dns_zone.proofs.authority.nearest_start.Goals as goal

pub returns-in-Some : goal.returns-in-Some
returns-in-Some c =
    let some = c.in-Some.ensures ∙ ap (find (says 6)) c.entries_at.ensures in
    let here = starts_here c.args.zone.now c.loop-entry.owner c.in-Some.entry.now some in
    rw c.in_ok-record_of.ensures (sym c.loop-entry.invariant ∙ here)

pub returns-in_default-2 : goal.returns-in_default-2
returns-in_default-2 c =
    let none = c.in_default.ensures ∙ ap (find (says 6)) c.entries_at.ensures in
    let root = sym c.in_default-2.is ∙ c.in_ok-parent.ensures.value in
    sym c.loop-entry.invariant ∙ starts_nowhere c.args.zone.now c.loop-entry.owner root none

pub loop-entry-preserved : goal.loop-entry-preserved
loop-entry-preserved c =
    let none = c.in_default.ensures ∙ ap (find (says 6)) c.entries_at.ensures in
    let above = sym c.in-Some-2.is ∙ c.in_ok-parent.ensures.value in
    starts_above c.args.zone.now c.loop-entry.owner c.in-Some-2.parent above none ∙ c.loop-entry.invariant
