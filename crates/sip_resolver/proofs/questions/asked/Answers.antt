use Rattle.sip_resolver.proofs.Indexing.{index-asked, put-after}
use Rattle.sip_resolver.specs.QuestionTables.{id_in}
use Rattle.sip_resolver.proofs.questions.asked.Goals as goal

pub returns-in-Ok-ask-clause-index : goal.returns-in-Ok-ask-clause-index
returns-in-Ok-ask-clause-index c = λ lacks free it.
    let asks = rw c.in-Ok-ask.is at c.ask.follows.holds-at-none in
    let put = put-after (id_in c.args.ids.now) (id_in c.reserve.new.self) (id_in c.insert.new.self) c.args.question.now
    c.in-Ok.key _ c.in-Ok.ensures c.reserve.ensures.same c.insert.ensures in
    rw (asks.1, c.in-Ok-try_clone.ensures)
    (index-asked c.law_same_questions_are_equal.ensures (id_in c.args.ids.now) (id_in c.insert.new.self) _ c.args.asker.now.tickets put
    free it lacks)
