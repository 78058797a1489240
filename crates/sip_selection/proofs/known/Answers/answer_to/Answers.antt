use Rattle.std.proofs.Common.{refl, sym}
use Rattle.std.specs.Arc.{arc_value}
use Rattle.sip_selection.proofs.Finding.{found-then, given-first}
use Rattle.sip_selection.proofs.known.Answers.answer_to.Goals as goal

pub returns-in-Some : goal.returns-in-Some
returns-in-Some c =
    let first = rw c.in-Some.is at c.answer_to.ensures in
    rw (← c.self.view_is)
    (sym (given-first c.self.inside.given.now c.self.inside.found.items _ (arc_value c.in-Some.answer.now) (sym first)))

pub returns-in_ok-try_clone-in-Some-first_of : goal.returns-in_ok-try_clone-in-Some-first_of
returns-in_ok-try_clone-in-Some-first_of c =
    let none = rw c.in_default.is at c.answer_to.ensures in
    let found = rw (c.in-Some-first_of.is, c.deref.ensures.value) at c.first_of.ensures in
    rw (
      c.in_ok-try_clone-in-Some-first_of.ensures.same,
      ← c.self.view_is,
      found-then c.self.inside.given.now c.self.inside.found.items _ (sym none),
      ← found,
      ← c.entry.view_is,
    ) refl

pub returns-in-None : goal.returns-in-None
returns-in-None c =
    let none = rw c.in_default.is at c.answer_to.ensures in
    let found = rw (c.in-None.is, c.deref.ensures.value) at c.first_of.ensures in
    rw (← c.self.view_is, found-then c.self.inside.given.now c.self.inside.found.items _ (sym none), ← found) refl
