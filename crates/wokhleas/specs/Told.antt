-- What C is told of a request that ended, in the numbers of its header.
use Rattle.std.specs.Prelude.{◌≡◌, ◌⊎◌, ℕ, ◌<◌, List, [], ◌∷◌, ◌++◌, drop, length, Option, Some, None, IsSomeAnd, option_and_then, slice_get}
use Rattle.std.specs.Option.{option_map}
use Rattle.dns_answers.specs.declared.refusal.ReplyRefusal.{ReplyRefusal}
use Rattle.dns_answers.specs.declared.refusal.ReplyRefusal.TheVariants.{NotReply, OtherQuestion, Truncated, ServerFault}
use Rattle.dns_answers.specs.declared.refusal.ReplyRefusal.TheVariants as refusals
use Rattle.dns_message.specs.Kinds.{type_of_kind}
use Rattle.dns_message.specs.declared.question.Question.{Question}
use Rattle.dns_name.specs.Texts.{text_of}
use Rattle.ip_text.specs.declared.address.Address.{Address}
use Rattle.ip_text.specs.declared.address.Address.TheVariants.{V4, V6}
use Rattle.sip_resolver.specs.Outcomes.{Ended}
use Rattle.sip_resolver.specs.declared.outcome.Outcome.{Outcome}
use Rattle.sip_resolver.specs.declared.outcome.Outcome.TheVariants.{Targets, Refused, NoAnswer, NoServer, BadReply, Memory}
use Rattle.rolling_resolver.specs.Rolling.{RollingView, Tells}
use Rattle.sip_selection.specs.declared.reason.Reason.{Reason}
use Rattle.sip_selection.specs.declared.reason.Reason.TheVariants.{TransportUnsupported, TransportNotSecure, NotOffered, NoAddress}
use Rattle.sip_selection.specs.declared.target.Target.{Target}
use Rattle.wokhleas.specs.Handles.{WhyNothing}
use Rattle.wokhleas.specs.Numbers.{number_of}
use Rattle.wokhleas.specs.declared.outcomes.ToldQuestion.{ToldQuestion}
use Rattle.wokhleas.specs.declared.status.Status.{Status}
use Rattle.wokhleas.specs.declared.status.Status.TheVariants as statuses
use Rattle.wokhleas.specs.declared.told.ToldOutcome.{ToldOutcome}
use Rattle.wokhleas.specs.declared.told.ToldTarget.{ToldTarget}

-- the number of what became of a request
abbrev pub kind_of : Outcome → ℕ
kind_of (Targets list) = 1
kind_of (Refused reason) = 2
kind_of (NoAnswer question) = 3
kind_of (BadReply question refusal) = 4
kind_of (NoServer question) = 5
kind_of Memory = 6

-- the number of the reason why a request goes nowhere
abbrev pub number_of_reason : Reason → ℕ
number_of_reason TransportUnsupported = 1
number_of_reason TransportNotSecure = 2
number_of_reason NotOffered = 3
number_of_reason NoAddress = 4

-- the RCODE of a reply that says no answer (RFC 1035 4.1.1); 0 where it was cut
abbrev pub rcode_of : ReplyRefusal → ℕ
rcode_of NotReply = 0
rcode_of OtherQuestion = 0
rcode_of Truncated = 0
rcode_of (ServerFault rcode) = rcode
rcode_of refusals.Memory = 0

-- the reason of a refusal, or the RCODE of a bad reply
abbrev pub detail_of : Outcome → ℕ
detail_of (Targets list) = 0
detail_of (Refused reason) = number_of_reason reason
detail_of (NoAnswer question) = 0
detail_of (BadReply question refusal) = rcode_of refusal
detail_of (NoServer question) = 0
detail_of Memory = 0

-- the targets of a request, in their order
abbrev pub targets_of : Outcome → List Target
targets_of (Targets list) = list.targets
targets_of (Refused reason) = []
targets_of (NoAnswer question) = []
targets_of (BadReply question refusal) = []
targets_of (NoServer question) = []
targets_of Memory = []

-- the question whose answer a request lacks
abbrev pub question_of : Outcome → Option Question
question_of (Targets list) = None
question_of (Refused reason) = None
question_of (NoAnswer question) = Some question
question_of (BadReply question refusal) = Some question
question_of (NoServer question) = Some question
question_of Memory = None

-- what became of a request
abbrev pub outcome_told : Ended → ToldOutcome
outcome_told ended = record {
  number = ended.sought.number;
  targets = length (targets_of ended.outcome);
  kind = kind_of ended.outcome;
  detail = detail_of ended.outcome;
}

-- the octets of an address, with zeros behind those of IPv4
abbrev pub octets_of : Address → List ℕ
octets_of (V4 octets) =
    octets ++ 0 ∷ 0 ∷ 0 ∷ 0 ∷ 0 ∷ 0 ∷ 0 ∷ 0 ∷ 0 ∷ 0 ∷ 0 ∷ 0 ∷ []
octets_of (V6 octets) = octets

-- the number of the family of an address
abbrev pub family_of : Address → ℕ
family_of (V4 octets) = 4
family_of (V6 octets) = 6

-- a target
abbrev pub target_told : Target → ToldTarget
target_told target = record {
  address = octets_of target.address;
  port = target.port;
  transport = number_of target.transport;
  family = family_of target.address;
}

-- the target at an index of an outcome
abbrev pub target_at : Ended → ℕ → Option ToldTarget
target_at ended index = option_map target_told (slice_get (targets_of ended.outcome) index)

-- the next request that ended is told so
pub record IsTold (outcome : ToldOutcome) (old new : RollingView) : Type 0 where
  pub tells : Tells old new
  pub are : outcome ≡ outcome_told tells.ended

-- the target at an index of the outcome that was told last
abbrev pub target_told_at : ℕ → Option RollingView → Option ToldTarget
target_told_at index state =
    option_and_then (λ it. option_and_then (λ ended. target_at ended index) it.told) state

-- the question whose answer the outcome that was told last lacks
abbrev pub question_lacked : Option RollingView → Option Question
question_lacked state =
    option_and_then (λ it. option_and_then (λ ended. question_of ended.outcome) it.told) state

-- A question is told: the text of its name is in front of the buffer, whose other octets stay; its
-- length and the number of its type are these.
pub record IsQuestionTold (told : ToldQuestion) (before after : List ℕ) (question : Question)
    : Type 0 where
  pub text : after ≡ text_of question.name ++ drop told.length before
  pub long : told.length ≡ length (text_of question.name)
  pub type : told.type_number ≡ type_of_kind question.kind

-- why a question is not told into a buffer with so much room: the resolver is closed, no answer is
-- lacked, memory is refused, or the text of the name is too long
abbrev pub WhyNoQuestion : ℕ → Option RollingView → Status → Type 0
WhyNoQuestion room state status =
    WhyNothing (λ it. question_lacked (Some it) ≡ None) state status
    ⊎ ((question : Question) × (question_lacked state ≡ Some question)
    × ((status ≡ statuses.Memory)
    ⊎ ((status ≡ statuses.Room) × (room < length (text_of question.name)))))
