use Rattle.sip_resolver.proofs.Indexing.{index-told}
use Rattle.sip_resolver.specs.QuestionTables.{id_in}
use Rattle.sip_resolver.proofs.questions.heard.Goals.{in-Ended, in_default}
use Rattle.sip_resolver.proofs.questions.heard.Goals as goal

pub returns-clause-index : goal.returns-clause-index
returns-clause-index c = λ it. elim c.match-heard.branch [
  | in-Ended w ↦
      let means = rw w.in-Ended.is at c.in_ok-heard.ensures.means in
      let left = rw w.in-Ended.is at c.in_ok-heard.ensures.left in
      rw (left, w.ids-is)
      (index-told c.law_same_questions_are_equal.ensures (id_in c.args.ids.now) (id_in w.remove.new.self) c.args.asker.now
      c.args.octets.now w.in-Ended.field-0 w.in-Ended.question w.in-Ended.field-2 means w.remove.ensures it)
  | in_default w ↦
      let left = rw w.in_default.is at c.in_ok-heard.ensures.left in
      rw (left, w.ids-is) it
]
