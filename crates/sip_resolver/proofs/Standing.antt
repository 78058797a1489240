-- What goes on to be so while a seat goes on with its history.
use Rattle.std.proofs.Common.{ℕ, inl, inr, List, [], ◌++◌, refl, sym, ap, ◌∙◌, append_assoc}
use Rattle.std.proofs.lemmas.List.{append-nil}
use Rattle.std.proofs.lemmas.List.Elements.{All-nil, All-weaker, Contains-append_left}
use mathlib.Core.List.{IsPrefix}
use Rattle.dns_message.specs.declared.question.Question.{Question}
use Rattle.answer_cache.specs.Seats.{GoesOn, SeatView, StoresNothing, offer_of}
use Rattle.sip_selection.specs.Choice.{Resolution, need, refused, targets}
use Rattle.sip_selection.specs.Known.{Given}
use Rattle.sip_resolver.specs.Outcomes.{Counts, Ended, IsCached, IsChosen, IsLacking, IsOutcome, Sought}
use Rattle.sip_resolver.specs.Requests.{RequestsView, Stand}
use Rattle.sip_resolver.specs.Tasks.{IsCounted, Lacks, TaskView, WaitingView}
use Rattle.sip_resolver.specs.Works.{IsHeard, Works, offer_in}
use Rattle.sip_resolver.specs.declared.outcome.Outcome.{Outcome}
use Rattle.sip_resolver.specs.declared.outcome.Outcome.TheVariants.{Targets, Refused, NoAnswer, NoServer, BadReply, Memory}

pub prefix-self : {X : Type 0} (history : List X) → IsPrefix history history
prefix-self history = ([], append-nil history)

pub prefix-through : {X : Type 0} (first middle last : List X) → IsPrefix first middle → IsPrefix middle last → IsPrefix first last
prefix-through first middle last front back =
    (front.0 ++ back.0, sym (append_assoc first front.0 back.0) ∙ ap (λ l. l ++ back.0) front.1 ∙ back.1)

pub goes-not : (seat : SeatView) → GoesOn seat seat
goes-not seat = record { number = refl; seen = prefix-self seat.seen; groups = refl }

pub goes-through : (old middle new : SeatView) → GoesOn old middle → GoesOn middle new → GoesOn old new
goes-through old middle new front back = record {
  number = back.number ∙ front.number;
  seen = prefix-through old.seen middle.seen new.seen front.seen back.seen;
  groups = back.groups ∙ front.groups;
}

pub nothing-not : (seat : SeatView) → StoresNothing seat seat
nothing-not seat = record { own = refl; offered = refl }

pub nothing-through : (old middle new : SeatView) → StoresNothing old middle → StoresNothing middle new → StoresNothing old new
nothing-through old middle new front back = record { own = back.own ∙ front.own; offered = back.offered ∙ front.offered }

module _ (gives : List ℕ → Type 0) (shows : ℕ → Type 0) where
  pub works-not : (seat : SeatView) → Works gives shows seat seat
  works-not seat = record {
    goes_on = record { number = refl; seen = prefix-self seat.seen; groups = refl };
    offers = [];
    offered = sym (append-nil seat.offered);
    heard = All-nil (IsHeard gives shows);
    stores = [];
    own = sym (append-nil seat.own);
    kept = All-nil (λ store. IsHeard gives shows (offer_in store));
  }

  pub works-quietly : (old new : SeatView) → GoesOn old new → StoresNothing old new → Works gives shows old new
  works-quietly old new on nothing = record {
    goes_on = on;
    offers = [];
    offered = nothing.offered ∙ sym (append-nil old.offered);
    heard = All-nil (IsHeard gives shows);
    stores = [];
    own = nothing.own ∙ sym (append-nil old.own);
    kept = All-nil (λ store. IsHeard gives shows (offer_in store));
  }

  module _ (old new : SeatView) (works : Works gives shows old new) where
    cached-later : (given : Given) → IsCached shows old.seen given → IsCached shows new.seen given
    cached-later given it = record {
      history = it.history;
      before = prefix-through it.history old.seen new.seen it.before works.goes_on.seen;
      now = it.now;
      shown = it.shown;
      found = it.found;
    }

    lacking-later : (question : Question) → IsLacking shows old.seen question → IsLacking shows new.seen question
    lacking-later question it = record {
      history = it.history;
      before = prefix-through it.history old.seen new.seen it.before works.goes_on.seen;
      now = it.now;
      shown = it.shown;
      none = it.none;
    }

    counts-later : (given : Given) → Counts gives shows old given → Counts gives shows new given
    counts-later given (inl cached) = inl (cached-later given cached)
    counts-later given (inr replied) =
        let offer = offer_of given.question given.answer replied.1.now in
        inr (
          replied.0,
          record {
            now = replied.1.now;
            stands = rw works.offered (Contains-append_left old.offered works.offers offer replied.1.stands);
          },
        )

    chosen-later : (sought : Sought) (resolution : Resolution) → IsChosen (Counts gives shows old) sought resolution
        → IsChosen (Counts gives shows new) sought resolution
    chosen-later sought resolution it = record {
      given = it.given;
      counted = All-weaker (Counts gives shows old) (Counts gives shows new) counts-later it.given it.counted;
      is = it.is;
    }

    outcome-later : (sought : Sought) (outcome : Outcome) → IsOutcome gives shows old sought outcome
        → IsOutcome gives shows new sought outcome
    outcome-later sought (Targets list) it = (chosen-later sought (targets list.targets) it.0, it.1)
    outcome-later sought (Refused reason) it = chosen-later sought (refused reason) it
    outcome-later sought (NoAnswer question) it = (chosen-later sought (need question) it.0, lacking-later question it.1)
    outcome-later sought (NoServer question) it = (chosen-later sought (need question) it.0, lacking-later question it.1)
    outcome-later sought (BadReply question refusal) it = (chosen-later sought (need question) it.0, it.1)
    outcome-later sought Memory it = it

    pub counted-later : (task : TaskView) → IsCounted gives shows old task → IsCounted gives shows new task
    counted-later task it = All-weaker (Counts gives shows old) (Counts gives shows new) counts-later task.selection.given it

    pub lacks-later : (task : TaskView) → Lacks shows old task → Lacks shows new task
    lacks-later task it = λ question needs. lacking-later question (it question needs)

    -- what is so of the requests goes on to be so
    pub stand-later : (it : RequestsView) → Stand gives shows old it → Stand gives shows new it
    stand-later it stand = record {
      ready = All-weaker (IsCounted gives shows old) (IsCounted gives shows new) counted-later it.ready stand.ready;
      held = All-weaker (IsCounted gives shows old) (IsCounted gives shows new) counted-later it.held stand.held;
      waiting = All-weaker (λ waiting. IsCounted gives shows old waiting.task × Lacks shows old waiting.task)
          (λ waiting. IsCounted gives shows new waiting.task × Lacks shows new waiting.task)
          (λ (waiting : WaitingView). λ w. (counted-later waiting.task w.0, lacks-later waiting.task w.1))
          it.waiting stand.waiting;
      ended = All-weaker (λ ended. IsOutcome gives shows old ended.sought ended.outcome)
          (λ ended. IsOutcome gives shows new ended.sought ended.outcome)
          (λ (ended : Ended). outcome-later ended.sought ended.outcome) it.ended stand.ended;
    }
