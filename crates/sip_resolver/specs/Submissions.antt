-- A request as it was submitted, before anything is looked up for it. No public clause cites this
-- module.
use Rattle.std.specs.Prelude.{◌≡◌, ℕ, List, false}
use Rattle.sip_selection.specs.Selections.{SelectionValue, begun}
use Rattle.srv_choice.specs.Draws.{drawn}
use Rattle.sip_resolver.specs.Outcomes.{Sought}
use Rattle.sip_resolver.specs.Tasks.{TaskView, sought_of}
use Rattle.sip_resolver.specs.declared.submitted.Submitted.{Submitted}
use Rattle.sip_resolver.specs.declared.submitted.SubmittedWords.{SubmittedWords}
use Rattle.sip_resolver.specs.declared.submitted.SubmittedWords.TheVariants.{Drawn, Given}

-- the random words: those of a draw, or those that were given
abbrev pub words_in : SubmittedWords → List ℕ
words_in (Drawn key draw) = drawn key draw
words_in (Given words) = words.value.0

-- the request that was submitted
abbrev pub sought_in : Submitted → Sought
sought_in it = record {
  number = it.number;
  request = it.request;
  caps = it.caps;
  words = words_in it.words;
  until = it.until;
}

-- a request that was submitted: it was given no answer
abbrev pub task_of_new : Submitted → TaskView
task_of_new it = record {
  number = it.number;
  selection = begun it.request it.caps (words_in it.words);
  cut = false;
  until = it.until;
}

-- a choice is that of the request that was submitted
abbrev pub IsChoiceOf : Submitted → SelectionValue → Type 0
IsChoiceOf it selection =
    sought_of (record (task_of_new it) { selection = selection }) ≡ sought_in it
