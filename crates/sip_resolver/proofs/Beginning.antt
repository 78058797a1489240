-- How the choice of a request begins.
use Rattle.std.proofs.Common.{◌≡◌, ℕ, false, List, refl, subst}
use Rattle.std.proofs.lemmas.List.Elements.{All-nil}
use Rattle.answer_cache.specs.Seats.{GoesOn, SeatView, StoresNothing}
use Rattle.sip_locator.specs.Gains.{IsAsking, IsNext}
use Rattle.sip_selection.specs.Choice.{Resolution}
use Rattle.sip_selection.specs.Requests.{target_of}
use Rattle.sip_selection.specs.Selections.{SelectionValue, now_of}
use Rattle.sip_resolver.proofs.Going.{on-next, same-request}
use Rattle.sip_resolver.specs.Outcomes.{Counts, IsOutcome}
use Rattle.sip_resolver.specs.Readies.{Leads, WaitsBy}
use Rattle.sip_resolver.specs.Submissions.{task_of_new}
use Rattle.sip_resolver.specs.Tasks.{Leaves, sought_of}
use Rattle.sip_resolver.specs.declared.outcome.Outcome.{Outcome}
use Rattle.sip_resolver.specs.declared.outcome.Outcome.TheVariants.{Targets, Refused, NoAnswer, NoServer, BadReply, Memory}
use Rattle.sip_resolver.specs.declared.submitted.Submitted.{Submitted}
use Rattle.sip_resolver.specs.declared.ready.Lead.{Lead}
use Rattle.sip_resolver.specs.declared.ready.Lead.TheVariants as leads
use Rattle.sip_resolver.specs.declared.task.Progress.TheVariants.{Asks, Ended}

module _ (gives : List ℕ → Type 0) (shows : ℕ → Type 0) (before after : SeatView) (now : ℕ) (shown : shows now)
    (on : GoesOn before after) (quiet : StoresNothing before after) (it : Submitted) (new : SelectionValue) where
  -- it ended by its choice
  pub begun-ended : (outcome : Outcome) (resolution : Resolution)
      → IsNext (task_of_new it).selection new before.seen after.seen now resolution
      → Leaves resolution (target_of it.request) (Ended outcome)
      → IsOutcome gives shows after (sought_of (task_of_new it)) outcome
  begun-ended outcome resolution next leaves =
      subst (λ sought. IsOutcome gives shows after sought outcome)
      (same-request it.number false it.until after.seen now before.seen (task_of_new it).selection new next.gains)
      (on-next gives shows before after now shown on quiet it.number false it.until (task_of_new it).selection new
      resolution (target_of it.request) (Ended outcome) next refl leaves (All-nil (Counts gives shows before)))

  -- it asks
  pub begun-asks : {Book : Type 0} (lead : Lead Book) (locator : SelectionValue)
      → IsNext (task_of_new it).selection new before.seen after.seen now (now_of locator) → locator ≡ new → IsAsking (now_of new)
      → WaitsBy it locator lead → Leads gives shows after (task_of_new it) lead
  begun-asks (leads.Asks task) locator next is asking waits =
      let asks : IsAsking (now_of locator) = rw is asking in
      let goes = on-next gives shows before after now shown on quiet it.number false it.until (task_of_new it).selection new
      (now_of locator) (target_of it.request) Asks next refl asks (All-nil (Counts gives shows before)) in
      rw (waits, is) (
        same-request it.number false it.until after.seen now before.seen (task_of_new it).selection new next.gains,
        goes.0,
        goes.1,
        goes.2,
      )
  begun-asks (leads.Ended (Targets list)) locator next is asking waits = absurd waits
  begun-asks (leads.Ended (Refused reason)) locator next is asking waits = absurd waits
  begun-asks (leads.Ended (NoAnswer question)) locator next is asking waits = absurd waits
  begun-asks (leads.Ended (NoServer question)) locator next is asking waits = absurd waits
  begun-asks (leads.Ended (BadReply question refusal)) locator next is asking waits = absurd waits
  begun-asks (leads.Ended Memory) locator next is asking waits = tt
