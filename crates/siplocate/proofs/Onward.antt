-- What an outcome says over a history it says over one that goes on from there.
use Rattle.std.proofs.Common.{ℕ, List, ◌++◌, inl, inr, sym, ap, ◌∙◌, append_assoc}
use Rattle.std.proofs.lemmas.List.Elements.{All-weaker}
use mathlib.Core.List.{IsPrefix}
use Rattle.dns_message.specs.declared.question.Question.{Question}
use Rattle.answer_log.specs.declared.store.Store.{Store}
use Rattle.sip_selection.specs.Choice.{Resolution, need, refused, targets}
use Rattle.sip_selection.specs.Known.{Given}
use Rattle.sip_resolver.specs.Outcomes.{IsLacking}
use Rattle.sip_resolver.specs.declared.outcome.Outcome.{Outcome}
use Rattle.sip_resolver.specs.declared.outcome.Outcome.TheVariants.{Targets, Refused, NoAnswer, NoServer, BadReply, Memory}
use Rattle.sip_worker.specs.Outcomes.{Counts, IsChosen, IsOutcome}
use Rattle.sip_worker.specs.declared.job.Job.{Job}

through : (first middle last : List Store) → IsPrefix first middle → IsPrefix middle last → IsPrefix first last
through first middle last front back =
    (front.0 ++ back.0, sym (append_assoc first front.0 back.0) ∙ ap (λ l. l ++ back.0) front.1 ∙ back.1)

module _ (gives : List ℕ → Type 0) (shows : ℕ → Type 0) (seen history : List Store) (on : IsPrefix seen history) where
  lacking-on : (question : Question) → IsLacking shows seen question → IsLacking shows history question
  lacking-on question it = record {
    history = it.history;
    before = through it.history seen history it.before on;
    now = it.now;
    shown = it.shown;
    none = it.none;
  }

  counts-on : (given : Given) → Counts gives shows seen given → Counts gives shows history given
  counts-on given (inl it) = inl (record {
    history = it.history;
    before = through it.history seen history it.before on;
    now = it.now;
    shown = it.shown;
    found = it.found;
  })
  counts-on given (inr replied) = inr replied

  module _ (job : Job) where
    chosen-on : (resolution : Resolution) → IsChosen (Counts gives shows seen) job resolution
        → IsChosen (Counts gives shows history) job resolution
    chosen-on resolution it = record {
      given = it.given;
      counted = All-weaker (Counts gives shows seen) (Counts gives shows history) counts-on it.given it.counted;
      is = it.is;
    }

    pub outcome-on : (outcome : Outcome) → IsOutcome gives shows seen job outcome → IsOutcome gives shows history job outcome
    outcome-on (Targets list) it = (chosen-on (targets list.targets) it.0, it.1)
    outcome-on (Refused reason) it = chosen-on (refused reason) it
    outcome-on (NoAnswer question) it = (chosen-on (need question) it.0, lacking-on question it.1)
    outcome-on (NoServer question) it = (chosen-on (need question) it.0, lacking-on question it.1)
    outcome-on (BadReply question refusal) it = (chosen-on (need question) it.0, it.1)
    outcome-on Memory it = it
