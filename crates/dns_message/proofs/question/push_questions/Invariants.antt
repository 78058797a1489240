use Rattle.std.proofs.Common.{◌≡◌, ◌++◌, take}
use Rattle.std.specs.List.{AllByRecursion, flat_map}
use Rattle.dns_message.specs.Fits.{QuestionFits}
use Rattle.dns_message.specs.Written.{question_octets}
use Rattle.dns_message.proofs.question.push_questions.Given as goal

abbrev pub invariant-loop-asked : goal.invariant-loop-asked
invariant-loop-asked l = record {
  so_far : l.out.items ≡ l.initial.out.items ++ flat_map question_octets (take l.asked-index l.questions);
  fit : AllByRecursion QuestionFits (take l.asked-index l.questions);
}
