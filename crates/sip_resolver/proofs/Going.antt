-- How a request goes on.
use Rattle.std.proofs.Common.{◌≡◌, ℕ, inl, Bool, false, List, Option, refl, ◌∙◌}
use Rattle.std.proofs.lemmas.List.Elements.{All-push}
use Rattle.std.specs.List.{All}
use Rattle.dns_answers.specs.Values.{AnswerValue}
use Rattle.dns_message.specs.declared.question.Question.{Question}
use Rattle.answer_log.specs.declared.store.Store.{Store}
use Rattle.answer_cache.specs.Seats.{GoesOn, SeatView, StoresNothing}
use Rattle.sip_locator.specs.Gains.{Gains, nothing, one, IsAnswered, IsBetween, IsNext, Lacks}
use Rattle.sip_selection.specs.Choice.{Resolution, need, refused, targets}
use Rattle.sip_selection.specs.Requests.{target_of}
use Rattle.sip_selection.specs.Selections.{SelectionValue, given_too, now_of}
use Rattle.sip_uri.specs.declared.host.Host.{Host}
use Rattle.sip_resolver.proofs.Standing.{counted-later, prefix-self, works-quietly}
use Rattle.sip_resolver.specs.Outcomes.{Counts, IsChosen, IsLacking}
use Rattle.sip_resolver.specs.Tasks.{IsCounted, Leaves, Progresses, TaskView, sought_of}
use Rattle.sip_resolver.specs.Tasks as tasks
use Rattle.sip_resolver.specs.declared.outcome.Outcome.TheVariants.{Targets, Refused, NoAnswer, NoServer, BadReply, Memory}
use Rattle.sip_resolver.specs.declared.task.Progress.{Progress}
use Rattle.sip_resolver.specs.declared.task.Progress.TheVariants.{Asks, Ended}

abbrev task_of : ℕ → Bool → Option ℕ → SelectionValue → TaskView
task_of number cut until selection = record { number = number; selection = selection; cut = cut; until = until }

-- the request stays the same while answers are gained
pub same-request : (number : ℕ) (cut : Bool) (until : Option ℕ) (last : List Store) (now : ℕ) (first : List Store)
    (old new : SelectionValue) → Gains last now first old new
    → sought_of (task_of number cut until new) ≡ sought_of (task_of number cut until old)
same-request number cut until last now first old new (nothing is) = rw is refl
same-request number cut until last now first old new (one history middle between found others) =
    same-request number cut until last now history middle new others ∙ (rw found.is refl)

-- and so does the host that it asks for
pub same-host : (last : List Store) (now : ℕ) (first : List Store) (old new : SelectionValue) → Gains last now first old new
    → target_of old.request ≡ target_of new.request
same-host last now first old new (nothing is) = rw is refl
same-host last now first old new (one history middle between found others) =
    rw (← same-host last now history middle new others, found.is) refl

module _ (gives : List ℕ → Type 0) (shows : ℕ → Type 0) (seat : SeatView) where
  module _ (now : ℕ) (shown : shows now) where
    answered : (old new : SelectionValue) (history : List Store) → IsBetween history seat.seen history → IsAnswered old new history now
        → All (Counts gives shows seat) old.given → All (Counts gives shows seat) new.given
    answered old new history between it counted =
        rw it.is
        (All-push (Counts gives shows seat) old.given (record { question = it.question; answer = it.answer }) counted
        (inl (record { history = history; before = between.before; now = now; shown = shown; found = it.found })))

    -- what was looked up counts
    pub gained : (first : List Store) (old new : SelectionValue) → Gains seat.seen now first old new
        → All (Counts gives shows seat) old.given → All (Counts gives shows seat) new.given
    gained first old new (nothing is) it = rw is it
    gained first old new (one history middle between found others) it =
        gained history middle new others
        (answered old middle history (record { after = prefix-self history; before = between.before }) found it)

    pub lacked : (first : List Store) (question : Question) → Lacks first seat.seen now question → IsLacking shows seat.seen question
    lacked first question it =
        record { history = it.history; before = it.between.before; now = now; shown = shown; none = it.none }

  -- the choice of a request is what is next for it
  pub chosen : (task : TaskView) (resolution : Resolution) → now_of task.selection ≡ resolution → IsCounted gives shows seat task
      → IsChosen (Counts gives shows seat) (sought_of task) resolution
  chosen task resolution is it = record { given = task.selection.given; counted = it; is = is }

  -- with one more answer that counts
  pub counted-more : (task : TaskView) (question : Question) (answer : AnswerValue) → IsCounted gives shows seat task
      → Counts gives shows seat (record { question = question; answer = answer })
      → IsCounted gives shows seat (record task { selection = given_too task.selection question answer; cut = false })
  counted-more task question answer it more =
      All-push (Counts gives shows seat) task.selection.given (record { question = question; answer = answer }) it more

  -- how far a request is, of which this is next
  leads-to : (task : TaskView) (progress : Progress) → Leaves (now_of task.selection) (target_of task.selection.request) progress
      → IsCounted gives shows seat task
      → tasks.Lacks shows seat task → Progresses gives shows seat task progress
  leads-to task Asks leaves it lacks = (it, lacks, leaves)
  leads-to task (Ended (Targets list)) leaves it lacks = (chosen task (targets list.targets) leaves.0 it, leaves.1)
  leads-to task (Ended (Refused reason)) leaves it lacks = chosen task (refused reason) leaves it
  leads-to task (Ended (NoAnswer question)) leaves it lacks = absurd leaves
  leads-to task (Ended (NoServer question)) leaves it lacks = absurd leaves
  leads-to task (Ended (BadReply question refusal)) leaves it lacks = absurd leaves
  leads-to task (Ended Memory) leaves it lacks = tt

module _ (gives : List ℕ → Type 0) (shows : ℕ → Type 0) (before after : SeatView) (now : ℕ) (shown : shows now)
    (on : GoesOn before after) (quiet : StoresNothing before after) (number : ℕ) (cut : Bool)
    (until : Option ℕ) (old new : SelectionValue) where
  of-step : IsCounted gives shows before (task_of number cut until old) → Gains after.seen now before.seen old new
      → IsCounted gives shows after (task_of number cut until new)
  of-step it gains =
      let works = works-quietly gives shows before after on quiet in
      gained gives shows after now shown before.seen old new gains
      (counted-later gives shows before after works (task_of number cut until old) it)

  pub on-next : (resolution : Resolution) (host : Host) (progress : Progress)
      → IsNext old new before.seen after.seen now resolution → host ≡ target_of old.request → Leaves resolution host progress
      → IsCounted gives shows before (task_of number cut until old)
      → Progresses gives shows after (task_of number cut until new) progress
  on-next resolution host progress it asks leaves counted =
      let same : host ≡ target_of new.request = asks ∙ same-host after.seen now before.seen old new it.gains in
      let leaves' : Leaves (now_of new) (target_of new.request) progress = rw (← it.is, ← same) leaves in
      let lacks : (question : Question) → now_of new ≡ need question → IsLacking shows after.seen question =
      λ question needs. lacked gives shows after now shown before.seen question (it.lacks question (it.is ∙ needs)) in
      leads-to gives shows after (task_of number cut until new) progress leaves' (of-step counted it.gains) lacks
