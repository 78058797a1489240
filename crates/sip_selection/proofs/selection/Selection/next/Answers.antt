use Rattle.std.proofs.Common.{rules, sym}
use Rattle.sip_selection.specs.HeldWords.{held_words}
use Rattle.sip_selection.proofs.Steps.{asked-is, found-is, refused-is}
use Rattle.sip_selection.proofs.selection.Selection.next.Goals as goal

pub returns-in-Ask : goal.returns-in-Ask
returns-in-Ask c =
    let s = c.self.inside in
    rw (← c.self.view_is, c.as_ref.ensures)
    (sym (asked-is s.request s.caps (held_words s.words) s.known s.targets.items c.in-Ask.question c.in-Ask.field-1
    (rw c.in-Ask.is at c.self.invariant.0)))

pub returns-in-Refused : goal.returns-in-Refused
returns-in-Refused c =
    let s = c.self.inside in
    rw (← c.self.view_is)
    (sym (refused-is s.request s.caps (held_words s.words) s.known s.targets.items c.in-Refused.reason
    (rw c.in-Refused.is at c.self.invariant.0)))

pub returns-in-Found : goal.returns-in-Found
returns-in-Found c =
    let s = c.self.inside in
    let is = found-is s.request s.caps (held_words s.words) s.known s.targets.items (rw c.in-Found.is at c.self.invariant.0) in
    rw (← c.self.view_is, is) (search rules)

pub returns-in-Found-2 : goal.returns-in-Found-2
returns-in-Found-2 c =
    let s = c.self.inside in
    let is = found-is s.request s.caps (held_words s.words) s.known s.targets.items (rw c.in-Found-2.is at c.self.invariant.0) in
    rw (← c.self.view_is, is) (search rules)
