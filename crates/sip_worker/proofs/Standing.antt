-- What stays so while a worker goes on.
use Rattle.std.proofs.Common.{ℕ, inl, inr, List, [], ◌++◌, refl, sym, ap, ◌∙◌, append_assoc}
use Rattle.std.proofs.lemmas.List.{append-nil}
use Rattle.std.proofs.lemmas.List.Elements.{All-nil, All-append, All-weaker, Contains-append_left}
use mathlib.Core.List.{IsPrefix}
use Rattle.dns_message.specs.declared.question.Question.{Question}
use Rattle.answer_log.specs.declared.store.Store.{Store}
use Rattle.answer_cache.specs.Seats.{GoesOn, SeatView, StoresNothing, offer_of}
use Rattle.sip_selection.specs.Choice.{Resolution, need, refused, targets}
use Rattle.sip_selection.specs.Known.{Given}
use Rattle.sip_resolver.specs.Outcomes.{IsCached, IsLacking}
use Rattle.sip_resolver.specs.Outcomes.{Counts as CountsAt}
use Rattle.sip_resolver.specs.Works.{IsHeard, Works, offer_in}
use Rattle.sip_worker.specs.Outcomes.{Counts, IsChosen, IsOutcome, IsOutcomeAt, Says}
use Rattle.sip_worker.specs.declared.job.Job.{Job}
use Rattle.sip_resolver.specs.declared.outcome.Outcome.{Outcome}
use Rattle.sip_resolver.specs.declared.outcome.Outcome.TheVariants.{Targets, Refused, NoAnswer, NoServer, BadReply, Memory}

pub prefix-self : {X : Type 0} (history : List X) → IsPrefix history history
prefix-self history = ([], append-nil history)

pub prefix-through : {X : Type 0} (first middle last : List X) → IsPrefix first middle → IsPrefix middle last → IsPrefix first last
prefix-through first middle last front back =
    (front.0 ++ back.0, sym (append_assoc first front.0 back.0) ∙ ap (λ l. l ++ back.0) front.1 ∙ back.1)

module _ (gives : List ℕ → Type 0) (shows : ℕ → Type 0) where
  module _ (seen later : List Store) (on : IsPrefix seen later) where
    cached-later : (given : Given) → IsCached shows seen given → IsCached shows later given
    cached-later given it = record {
      history = it.history;
      before = prefix-through it.history seen later it.before on;
      now = it.now;
      shown = it.shown;
      found = it.found;
    }

    lacking-later : (question : Question) → IsLacking shows seen question → IsLacking shows later question
    lacking-later question it = record {
      history = it.history;
      before = prefix-through it.history seen later it.before on;
      now = it.now;
      shown = it.shown;
      none = it.none;
    }

    module _ (counts counts' : Given → Type 0) (weaker : (given : Given) → counts given → counts' given) (job : Job) where
      chosen-later : (resolution : Resolution) → IsChosen counts job resolution → IsChosen counts' job resolution
      chosen-later resolution it =
          record { given = it.given; counted = All-weaker counts counts' weaker it.given it.counted; is = it.is }

      -- an outcome goes on to be one where all that counted counts still
      says-later : (outcome : Outcome) → Says gives shows seen counts job outcome → Says gives shows later counts' job outcome
      says-later (Targets list) it = (chosen-later (targets list.targets) it.0, it.1)
      says-later (Refused reason) it = chosen-later (refused reason) it
      says-later (NoAnswer question) it = (chosen-later (need question) it.0, lacking-later question it.1)
      says-later (NoServer question) it = (chosen-later (need question) it.0, lacking-later question it.1)
      says-later (BadReply question refusal) it = (chosen-later (need question) it.0, it.1)
      says-later Memory it = it

  -- what a seat's outcome says to all
  pub told : (seat : SeatView) (job : Job) (outcome : Outcome) → IsOutcomeAt gives shows seat job outcome
      → IsOutcome gives shows seat.seen job outcome
  told seat job outcome it =
      says-later seat.seen seat.seen (prefix-self seat.seen) (CountsAt gives shows seat) (Counts gives shows seat.seen)
      (λ given. weaker-at given) job outcome it
    where
      weaker-at : (given : Given) → CountsAt gives shows seat given → Counts gives shows seat.seen given
      weaker-at given (inl cached) = inl cached
      weaker-at given (inr replied) = inr replied.0

  module _ (old new : SeatView) (works : Works gives shows old new) where
    counts-later : (given : Given) → CountsAt gives shows old given → CountsAt gives shows new given
    counts-later given (inl cached) = inl (cached-later old.seen new.seen works.goes_on.seen given cached)
    counts-later given (inr replied) =
        let offer = offer_of given.question given.answer replied.1.now in
        inr (
          replied.0,
          record {
            now = replied.1.now;
            stands = rw works.offered (Contains-append_left old.offered works.offers offer replied.1.stands);
          },
        )

    pub outcome-later : (job : Job) (outcome : Outcome) → IsOutcomeAt gives shows old job outcome → IsOutcomeAt gives shows new job outcome
    outcome-later job outcome it =
        says-later old.seen new.seen works.goes_on.seen (CountsAt gives shows old) (CountsAt gives shows new) counts-later job outcome it

  pub works-not : (seat : SeatView) → Works gives shows seat seat
  works-not seat = record {
    goes_on = record { number = refl; seen = prefix-self seat.seen; groups = refl };
    offers = [];
    offered = sym (append-nil seat.offered);
    heard = All-nil (IsHeard gives shows);
    stores = [];
    own = sym (append-nil seat.own);
    kept = All-nil (λ store. IsHeard gives shows (offer_in store));
  }

  pub works-quietly : (old new : SeatView) → GoesOn old new → StoresNothing old new → Works gives shows old new
  works-quietly old new on nothing = record {
    goes_on = on;
    offers = [];
    offered = nothing.offered ∙ sym (append-nil old.offered);
    heard = All-nil (IsHeard gives shows);
    stores = [];
    own = nothing.own ∙ sym (append-nil old.own);
    kept = All-nil (λ store. IsHeard gives shows (offer_in store));
  }

  pub works-through : (old middle new : SeatView) → Works gives shows old middle → Works gives shows middle new → Works gives shows old new
  works-through old middle new front back = record {
    goes_on = record {
      number = back.goes_on.number ∙ front.goes_on.number;
      seen = prefix-through old.seen middle.seen new.seen front.goes_on.seen back.goes_on.seen;
      groups = back.goes_on.groups ∙ front.goes_on.groups;
    };
    offers = front.offers ++ back.offers;
    offered = back.offered ∙ ap (λ l. l ++ back.offers) front.offered ∙ append_assoc old.offered front.offers back.offers;
    heard = All-append (IsHeard gives shows) front.offers back.offers front.heard back.heard;
    stores = front.stores ++ back.stores;
    own = back.own ∙ ap (λ l. l ++ back.stores) front.own ∙ append_assoc old.own front.stores back.stores;
    kept = All-append (λ store. IsHeard gives shows (offer_in store)) front.stores back.stores front.kept back.kept;
  }
