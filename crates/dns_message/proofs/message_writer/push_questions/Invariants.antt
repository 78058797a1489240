use Rattle.std.proofs.Common.{◌≡◌, ◌++◌, take}
use Rattle.std.specs.List.{flat_map}
use Rattle.dns_message.specs.Written.{question_octets}
use Rattle.dns_message.proofs.message_writer.push_questions.Given as goal

-- the questions that were passed stand behind what stood there
abbrev pub invariant-loop-asked : goal.invariant-loop-asked
invariant-loop-asked l = l.out.items ≡ l.initial.out.items ++ flat_map question_octets (take l.asked-index l.questions)
