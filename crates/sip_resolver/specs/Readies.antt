-- A request that can go on, and how far a step of it leads.
use Rattle.std.specs.Prelude.{◌≡◌, ℕ, List}
use Rattle.dns_message.specs.declared.question.Question.{Question}
use Rattle.answer_cache.specs.Seats.{SeatView}
use Rattle.sip_selection.specs.Choice.{need}
use Rattle.sip_selection.specs.Selections.{SelectionValue, now_of}
use Rattle.sip_resolver.specs.Ends.{IsByChoice, IsMemory}
use Rattle.sip_resolver.specs.Outcomes.{IsOutcome}
use Rattle.sip_resolver.specs.Submissions.{task_of_new}
use Rattle.sip_resolver.specs.Tasks.{IsCounted, Lacks, TaskView, sought_of}
use Rattle.sip_resolver.specs.declared.ready.Start.{Start}
use Rattle.sip_resolver.specs.declared.ready.Start.TheVariants.{New, Begun}
use Rattle.sip_resolver.specs.declared.ready.Lead.{Lead}
use Rattle.sip_resolver.specs.declared.ready.Lead.TheVariants.{Asks, Ended}
use Rattle.sip_resolver.specs.declared.submitted.Submitted.{Submitted}

-- a request, whether its choice has begun or not
abbrev pub task_in : {Book : Type 0} → Start Book → TaskView
task_in (New it) = task_of_new it.value
task_in (Begun task) = task

-- where a step of a request leads: it is the same request, and asks for an answer that was lacking,
-- or this is its true outcome
abbrev pub Leads : {Book : Type 0} → (List ℕ → Type 0) → (ℕ → Type 0) → SeatView → TaskView
    → Lead Book → Type 0
Leads gives shows seat was (Asks task) =
    (sought_of task ≡ sought_of was) × IsCounted gives shows seat task × Lacks shows seat task
    × ((question : Question) × (now_of task.selection ≡ need question))
Leads gives shows seat was (Ended outcome) = IsOutcome gives shows seat (sought_of was) outcome

-- where a step ends a request, the choice does, or want of memory
abbrev pub EndsSo : {Book : Type 0} → Lead Book → Type 0
EndsSo (Asks task) = Unit {0}
EndsSo (Ended outcome) = IsByChoice outcome

-- a request that was submitted waits with this choice, or memory was refused
abbrev pub WaitsBy : {Book : Type 0} → Submitted → SelectionValue → Lead Book → Type 0
WaitsBy it selection (Asks task) = task ≡ record (task_of_new it) { selection = selection }
WaitsBy it selection (Ended outcome) = IsMemory outcome
