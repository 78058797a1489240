-- Which messages are replies to a question (RFC 1035 4.1).
use Rattle.std.specs.Prelude.{◌==◌, Bool, false, ◌&&◌, ◌||◌, not, List, [], ◌∷◌, Option, Some, None, if◌then◌else◌}
use Rattle.dns_message.specs.Kinds.{type_of_kind}
use Rattle.dns_message.specs.declared.message.Message.{Message}
use Rattle.dns_message.specs.declared.question.Asked.{Asked}
use Rattle.dns_message.specs.declared.question.Question.{Question}
use Rattle.dns_name.specs.Labels.{same_name}
use Rattle.dns_answers.specs.declared.refusal.ReplyRefusal.{ReplyRefusal}
use Rattle.dns_answers.specs.declared.refusal.ReplyRefusal.TheVariants.{NotReply, OtherQuestion, Truncated, ServerFault}

-- a question of a message is this one, in class IN
abbrev pub is_asked : Question → Asked → Bool
is_asked question asked =
    same_name asked.name question.name && asked.type_number == type_of_kind question.kind
    && asked.class_number == 1

-- the questions of a message are this one alone, in class IN (RFC 1035 4.1.2)
abbrev pub asks_this_alone : Question → List Asked → Bool
asks_this_alone question [] = false
asks_this_alone question (asked ∷ []) = is_asked question asked
asks_this_alone question (asked ∷ other ∷ more) = false

-- why a message gives no answer to a question: the first reason in this order
abbrev pub reply_refusal : Question → Message → Option ReplyRefusal
reply_refusal question message =
    if not (message.header.reply && message.header.opcode == 0) then Some NotReply else
    (if not (asks_this_alone question message.questions) then Some OtherQuestion else
    (if message.header.truncated then Some Truncated else
    (if message.header.rcode == 0 || message.header.rcode == 3 then None
    else Some (ServerFault message.header.rcode))))
