use Rattle.std.proofs.Common.{◌≡◌, drop}
use Rattle.std.specs.List.{list_any}
use Rattle.dns_message.specs.Questions.{same_question}
use Rattle.answer_cache.proofs.carry.is_among.Given as goal

-- none of those that were passed is of the question
abbrev pub invariant-nodes : goal.invariant-nodes
invariant-nodes l =
    list_any (λ it. same_question it.now.question l.node.question) (drop l.it-index l.nodes)
    ≡ list_any (λ it. same_question it.now.question l.node.question) l.nodes
