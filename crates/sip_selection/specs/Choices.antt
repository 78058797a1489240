-- What a choice over a source comes to.
use Rattle.std.specs.Prelude.{◌≡◌, ⊤, Option, None}
use Rattle.dns_answers.specs.Values.{AnswerValue}
use Rattle.dns_message.specs.declared.question.Question.{Question}
use Rattle.sip_selection.specs.Choice.{targets, refused, need}
use Rattle.sip_selection.specs.Selections.{SelectionValue, now_of}
use Rattle.sip_selection.specs.declared.selection.Choice.{Choice}
use Rattle.sip_selection.specs.declared.selection.Choice.TheVariants.{Targets, Refused, Asks}

-- with the answers used, this is where the request goes, or a choice that asks for the next one
abbrev pub ChoiceIs : SelectionValue → Choice → Type 0
ChoiceIs it (Targets list) = now_of it ≡ targets list.items
ChoiceIs it (Refused reason) = now_of it ≡ refused reason
ChoiceIs it (Asks selection) =
    (selection.value ≡ it) × (question : Question) × (now_of it ≡ need question)

-- a choice asks nothing
abbrev pub IsSettled : Choice → Type 0
IsSettled (Targets list) = ⊤
IsSettled (Refused reason) = ⊤
IsSettled (Asks selection) = ⊥

-- a question that is asked is one that the source lacks
abbrev pub ChoiceLacks : (Question → Option AnswerValue → Type 0) → Choice → Type 0
ChoiceLacks says (Targets list) = ⊤
ChoiceLacks says (Refused reason) = ⊤
ChoiceLacks says (Asks selection) =
    (question : Question) → now_of selection.value ≡ need question → says question None
