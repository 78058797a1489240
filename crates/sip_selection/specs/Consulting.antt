-- A source of answers that is asked while a choice is made.
use Rattle.std.specs.Prelude.{◌≡◌, ⊤, ℕ, ◌≤◌, List, [], ◌∷◌, ◌++◌, Option, Some, None, Result, Err}
use Rattle.srv_choice.specs.Draws.{words_of}
use Rattle.dns_answers.specs.Records.{count_of}
use Rattle.dns_answers.specs.Values.{AnswerValue}
use Rattle.dns_message.specs.declared.question.Question.{Question}
use Rattle.sip_selection.specs.Choice.{need}
use Rattle.sip_selection.specs.Known.{Given, Needing}
use Rattle.sip_selection.specs.Requests.{request_of}
use Rattle.sip_selection.specs.Selections.{SelectionValue, now_of}
use Rattle.sip_selection.specs.Stages.{Extends}
use Rattle.sip_uri.specs.declared.transport.Transport.{Transport}
use Rattle.sip_selection.specs.declared.caps.Caps.{Caps}
use Rattle.sip_selection.specs.declared.reason.Reason.{Reason}
use Rattle.sip_selection.specs.declared.request.Request.{Request}
use Rattle.sip_selection.specs.declared.stage.Context.{Context}
use Rattle.sip_selection.specs.declared.stage.ServiceStep.{ServiceStep}
use Rattle.sip_selection.specs.declared.stage.ServiceStep.TheVariants as service_step
use Rattle.sip_selection.specs.declared.stage.Step.{Step}
use Rattle.sip_selection.specs.declared.stage.Step.TheVariants.{Ask, Found, Refused}

-- a choice that was given these answers
abbrev pub with_given : SelectionValue → List Given → SelectionValue
with_given it given = record it { given = given }

-- From its start a source came to this state, and was asked for one answer after the other: each to
-- the question that was needed with the answers before it (RFC 3263 4).
pub data Consulted {Seat : Type 0} (ready : Seat → Type 0) (goes : Seat → Seat → Type 0)
    (says : Seat → Question → Option AnswerValue → Type 0) (it : SelectionValue) (start : Seat)
    : Seat → List Given → Type 0 where
  nothing : ready start → Consulted ready goes says it start start it.given
  onward : {seat : Seat} {given : List Given} (next : Seat)
      → Consulted ready goes says it start seat given → goes seat next → ready next
      → Consulted ready goes says it start next given
  one : {seat : Seat} {given : List Given} (next : Seat) (question : Question)
      (answer : AnswerValue)
      → Consulted ready goes says it start seat given → goes seat next → ready next
      → says next question (Some answer) → now_of (with_given it given) ≡ need question
      → count_of answer.records ≤ 32
      → Consulted ready goes says it start next
      (given ++ record { question = question; answer = answer } ∷ [])

-- a choice that was given these answers, by its parts
abbrev pub asked_with : Request → Caps → List ℕ → List Given → SelectionValue
asked_with request caps words given =
    record { request = request; caps = caps; words = words; given = given }

-- the choice that a walk is made for, with the answers that it began with
abbrev pub inquiry : {Source Seat : Type 0} → Context Source Seat → SelectionValue
inquiry context =
    asked_with (request_of context.request.now) context.caps.now (words_of context.words.now)
    context.given.value

-- the first question that is left is the one that the choice needs, whatever else is answered
abbrev pub Needs : {X : Type 0} → SelectionValue → List Given → (List Given → Needing X) → Type 0
Needs it given left =
    (all : List Given) (question : Question) → Extends given all → left all ≡ Err question
    → now_of (with_given it all) ≡ need question

-- the same of what is left along services, whose fallback is the caller's
abbrev pub NeedsAlong : {X : Type 0} → SelectionValue → List Given
    → (List Given → Result Transport Reason → Needing X) → Type 0
NeedsAlong it given left =
    (fallback : Result Transport Reason) × Needs it given (λ all. left all fallback)

-- a question that is asked of services is one that the source lacks
abbrev pub ServiceStepLacks : (Question → Option AnswerValue → Type 0) → ServiceStep → Type 0
ServiceStepLacks says (service_step.Position position) = ⊤
ServiceStepLacks says (service_step.Stop service_stage question) = says question None

-- a question that is asked is one that the source lacks
abbrev pub StepLacks : (Question → Option AnswerValue → Type 0) → Step → Type 0
StepLacks says (Ask question stage) = says question None
StepLacks says Found = ⊤
StepLacks says (Refused reason) = ⊤
