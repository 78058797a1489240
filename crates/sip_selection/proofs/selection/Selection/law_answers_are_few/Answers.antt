use Rattle.sip_selection.specs.HeldWords.{held_words}
use Rattle.sip_selection.proofs.selection.Selection.law_answers_are_few.Goals as goal

pub returns-clause-few : goal.returns-clause-few
returns-clause-few c =
    let s = c.self.inside in
    let asked = c.self.invariant.1 in
    rw (← c.self.view_is)
    (c.law_questions_are_few.ensures s.request s.caps (held_words s.words) s.known c.law_transports_are_few.ensures.few asked.few
    asked.needed)

pub returns-clause-few_targets : goal.returns-clause-few_targets
returns-clause-few_targets c =
    let s = c.self.inside in
    rw (← c.self.view_is)
    (c.law_targets_are_few.ensures s.request s.caps (held_words s.words) s.known c.law_transports_are_few.ensures.few
    c.self.invariant.1.few)
