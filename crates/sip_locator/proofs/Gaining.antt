-- One look-up after the other.
use Rattle.std.specs.Result.{OnOk}
use Rattle.std.proofs.Common.{◌≡◌, ℕ, ◌+◌, ◌≤◌, List, [], ◌∷◌, ◌++◌, length, None, Result, Ok, Err, refl, sym, ap, ◌∙◌, append_assoc, length-append, arith}
use Rattle.std.proofs.lemmas.List.{append-nil}
use mathlib.Core.List.{IsPrefix}
use Rattle.dns_message.specs.declared.question.Question.{Question}
use Rattle.sip_selection.specs.Choice.{need}
use Rattle.sip_selection.specs.Known.{Given}
use Rattle.sip_selection.specs.Selections.{SelectionValue, now_of}
use Rattle.answer_log.specs.Histories.{cached}
use Rattle.answer_log.specs.declared.store.Store.{Store}
use Rattle.answer_cache.specs.Seats.{SeatView, GoesOn, StoresNothing}
use Rattle.sip_locator.specs.Gains.{Gains, nothing, one, IsAnswered, Lacks}

-- after so many answers
pub record Progress (old new : SelectionValue) (before after : SeatView) (now count : ℕ) : Type 0 where
  pub goes_on : GoesOn before after
  pub stores_nothing : StoresNothing before after
  pub gains : Gains after.seen now before.seen old new
  pub many : count ≤ length new.given

pub prefix-self : (history : List Store) → IsPrefix history history
prefix-self history = ([], append-nil history)

prefix-through : (first middle last : List Store) → IsPrefix first middle → IsPrefix middle last → IsPrefix first last
prefix-through first middle last front back =
    (front.0 ++ back.0, sym (append_assoc first front.0 back.0) ∙ ap (λ l. l ++ back.0) front.1 ∙ back.1)

module _ (middle last : List Store) (now : ℕ) (on : IsPrefix middle last) where
  gains-later : {first : List Store} {old new : SelectionValue} → Gains middle now first old new → Gains last now first old new
  gains-later (nothing is) = nothing is
  gains-later (one history value between answered others) =
      one history value (record { after = between.after; before = prefix-through history middle last between.before on }) answered
      (gains-later others)

module _ (last : List Store) (now : ℕ) where
  gains-more : {first : List Store} {old new : SelectionValue} (value : SelectionValue) → IsPrefix first last → Gains last now first old new
      → IsAnswered new value last now → Gains last now first old value
  gains-more {old = old} value on (nothing is) answered =
      one last value (record { after = on; before = prefix-self last }) (rw is at answered) (nothing refl)
  gains-more value on (one history next between first others) answered =
      one history next between first (gains-more value between.before others answered)

module _ (before after : SeatView) where
  pub on-through : (middle : SeatView) → GoesOn before middle → GoesOn middle after → GoesOn before after
  on-through middle front back = record {
    number = back.number ∙ front.number;
    seen = prefix-through before.seen middle.seen after.seen front.seen back.seen;
    groups = back.groups ∙ front.groups;
  }

  pub nothing-through : (middle : SeatView) → StoresNothing before middle → StoresNothing middle after → StoresNothing before after
  nothing-through middle front back = record { own = back.own ∙ front.own; offered = back.offered ∙ front.offered }

pub begins : (it : SelectionValue) (seat : SeatView) (now : ℕ) → Progress it it seat seat now 0
begins it seat now = record {
  goes_on = record { number = refl; seen = prefix-self seat.seen; groups = refl };
  stores_nothing = record { own = refl; offered = refl };
  gains = nothing refl;
  many = omega arith;
}

module _ (old it new : SelectionValue) (before middle after : SeatView) (now count : ℕ) (so-far : Progress old it before middle now count)
    (on : GoesOn middle after) (none : StoresNothing middle after) where
  all-on : GoesOn before after
  all-on = on-through before after middle so-far.goes_on on

  -- without an answer
  pub stays : new ≡ it → Progress old new before after now count
  stays is = rw is (record {
    goes_on = all-on;
    stores_nothing = nothing-through before after middle so-far.stores_nothing none;
    gains = gains-later middle.seen after.seen now on.seen so-far.gains;
    many = so-far.many;
  })

  -- with one more
  pub gains-one : IsAnswered it new after.seen now → Progress old new before after now (count + 1)
  gains-one found =
      let more : Given = record { question = found.question; answer = found.answer } in
      let all : length new.given ≡ length it.given + 1 =
      ap (λ (value : SelectionValue). length value.given) found.is ∙ length-append it.given (more ∷ []) in
      record {
        goes_on = all-on;
        stores_nothing = nothing-through before after middle so-far.stores_nothing none;
        gains = gains-more after.seen now new all-on.seen (gains-later middle.seen after.seen now on.seen so-far.gains) found;
        many = let enough = so-far.many in rw all omega arith;
      }

  -- where the book has no answer to the question
  pub lacks : ((question : Question) → now_of it ≡ need question → cached after.seen question now ≡ None) → new ≡ it
      → (question : Question) → now_of new ≡ need question → Lacks before.seen after.seen now question
  lacks unanswered is question asked = record {
    history = after.seen;
    between = record { after = all-on.seen; before = prefix-self after.seen };
    none = unanswered question (rw is at asked);
  }

-- from an earlier history on
pub gains-earlier : {first middle : List Store} (last : List Store) (now : ℕ) {old new : SelectionValue} → IsPrefix first middle
    → Gains last now middle old new → Gains last now first old new
gains-earlier last now on (nothing is) = nothing is
gains-earlier {first} {middle} last now on (one history value between answered others) =
    one history value (record { after = prefix-through first middle history on between.after; before = between.before }) answered others

pub lacks-earlier : (first middle last : List Store) (now : ℕ) (question : Question) → IsPrefix first middle
    → Lacks middle last now question → Lacks first last now question
lacks-earlier first middle last now question on lacks = record {
  history = lacks.history;
  between = record {
    after = prefix-through first middle lacks.history on lacks.between.after;
    before = lacks.between.before;
  };
  none = lacks.none;
}

-- a history that holds no answer now
pub lacks-now : (before after : SeatView) (now : ℕ) (question : Question) → GoesOn before after
    → cached after.seen question now ≡ None → Lacks before.seen after.seen now question
lacks-now before after now question on none = record {
  history = after.seen;
  between = record { after = on.seen; before = prefix-self after.seen };
  none = none;
}

pub ok-each : {T E P Q : Type 0} → (P → Q) → (result : Result T E) → OnOk result P → OnOk result Q
ok-each each (Ok value) is = each is
ok-each each (Err error) is = tt
