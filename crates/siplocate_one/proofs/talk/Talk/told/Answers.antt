use Rattle.std.proofs.Common.{◌∙◌, ap}
use Rattle.sip_selection.specs.Selections.{now_of}
use Rattle.siplocate_one.specs.Words.{shown, status_of}
use Rattle.siplocate_one.proofs.Books.{next-is}
use Rattle.siplocate_one.proofs.talk.Talk.told.Goals as goal

pub returns-clause-told : goal.returns-clause-told
returns-clause-told c =
    let steps = rw c.in_ok-next.was at c.step.follows.holds-at-none in
    let same = next-is c.law_questions_are_missing.ensures.missing _ _ _ _ _ c.self.invariant c.step.ensures.stays
    c.step.ensures.stores_nothing c.in_ok-next.next steps
    ∙ ap now_of c.self.view_is in
    (c.in_ok-shown.ensures ∙ ap shown same, c.status_of.ensures.status ∙ ap status_of same)
