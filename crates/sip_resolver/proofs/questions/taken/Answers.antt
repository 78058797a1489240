use Rattle.sip_resolver.proofs.Indexing.{index-cancelled}
use Rattle.sip_resolver.specs.QuestionTables.{id_in}
use Rattle.sip_resolver.proofs.questions.taken.Goals as goal

pub returns-clause-index : goal.returns-clause-index
returns-clause-index c = λ it.
    rw c.cancel.ensures.left
    (index-cancelled c.law_same_questions_are_equal.ensures (id_in c.args.ids.now) (id_in c.remove.new.self) _ c.args.id
    c.args.asker.now.tickets c.in_ok-question.ensures.given c.remove.ensures it)
