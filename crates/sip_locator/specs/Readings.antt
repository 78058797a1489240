-- Why octets have no answer to a question that is asked.
use Rattle.std.specs.Prelude.{ℕ, ◌≤◌, List, length}
use Rattle.dns_message.specs.declared.question.Question.{Question}
use Rattle.sip_locator.specs.Replies.{AnswerFault, MayAnswer, MessageFault}
use Rattle.sip_locator.specs.declared.refusal.LocatorRefusal.{LocatorRefusal}
use Rattle.sip_locator.specs.declared.refusal.LocatorRefusal.TheVariants.{NothingAsked, Message, Reply, Memory}

abbrev pub NoAnswer : Question → List ℕ → LocatorRefusal → Type 0
NoAnswer question octets NothingAsked = ⊥
NoAnswer question octets (Message refusal) = MessageFault octets refusal
NoAnswer question octets (Reply refusal) = AnswerFault question octets refusal
NoAnswer question octets Memory = (length octets ≤ 65535) × MayAnswer question octets
