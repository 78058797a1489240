-- An answer that a talk takes from a line.
use Rattle.std.specs.Prelude.{◌≡◌, ℕ, List, Some}
use Rattle.dns_answers.specs.Values.{AnswerValue}
use Rattle.dns_message.specs.declared.message.Message.{Message}
use Rattle.dns_message.specs.declared.question.Question.{Question}
use Rattle.sip_locator.specs.Replies.{Answers, Refuses}
use Rattle.sip_locator.specs.declared.refusal.LocatorRefusal.{LocatorRefusal}
use Rattle.sip_selection.specs.Choice.{need}
use Rattle.sip_selection.specs.Known.{Given}
use Rattle.sip_selection.specs.Selections.{SelectionValue, given_too, now_of}
use Rattle.siplocate_one.specs.Replies.{ReplyLine, of_locator}
use Rattle.siplocate_one.specs.Talks.{told}
use Rattle.siplocate_one.specs.declared.reply.BadReply.{BadReply}

-- the octets answer what is needed, and their answer is given
pub record IsGiven (old new : SelectionValue) (octets : List ℕ) : Type 0 where
  pub question : Question
  pub found : AnswerValue
  pub asked : now_of old ≡ need question
  pub answers : Answers question octets found
  pub is : new ≡ given_too old question found

-- the locator refuses the octets
pub record IsRefusedAs (old : SelectionValue) (octets : List ℕ) (reply : BadReply) : Type 0 where
  pub refusal : LocatorRefusal
  pub refuses : Refuses (now_of old) octets refusal
  pub is : reply ≡ of_locator refusal

-- the line is a reply to the question that is needed, and its answer is given
pub record IsTaken (old new : SelectionValue) (line : List ℕ) : Type 0 where
  pub message : Message
  pub more : Given
  pub reply : ReplyLine line message
  pub told_is : told (now_of old) message ≡ Some more
  pub each : (found : Message) → ReplyLine line found → told (now_of old) found ≡ Some more
  pub is : new ≡ given_too old more.question more.answer
