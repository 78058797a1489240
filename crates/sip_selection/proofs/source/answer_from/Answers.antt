use Rattle.dns_message.specs.declared.question.Question.{Question}
use Rattle.sip_selection.proofs.Finding.{none-found}
use Rattle.sip_selection.proofs.source.answer_from.Goals as goal

pub drawn-requires-clause-unknown : goal.drawn-requires-clause-unknown
drawn-requires-clause-unknown g c =
    let question : Question = record { name = c.args.name.now; kind = c.args.kind } in
    rw c.in_ok-name-in-None.ensures (none-found c.args.walk.now.known question (rw c.in-None.is at c.in_ok-answer.ensures))
