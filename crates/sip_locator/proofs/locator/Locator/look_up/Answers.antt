use Rattle.sip_locator.proofs.CachedKinds.{cached-kind}
use Rattle.sip_locator.proofs.locator.Locator.look_up.Goals as goal

pub use_answer-requires-clause-kind : goal.use_answer-requires-clause-kind
use_answer-requires-clause-kind g c =
    let found = rw c.in-Some.is at c.in_ok-answer.ensures.found in
    let question = c.in_ok-question.ensures in
    let holds = g.met.B.AnswerBook.holds _ _ c.lookup.ensures.stays in
    rw question (cached-kind c.law_same_questions_are_equal.ensures _ _ _ _ _ holds.history found)
