-- Outcomes are chosen over what the answers rest on.
use Rattle.std.specs.Prelude.{⊤, nat_lt, option_and_then, if◌then◌else◌, IsTrue, ◌↔◌}
use Rattle.std.specs.List.{All, Contains, last_or}
use Rattle.std.proofs.Common.{◌≡◌, inl, inr, ℕ, ◌+◌, Bool, true, false, List, [], ◌∷◌, ◌++◌, Option, Some, None, IfSome, refl, sym, subst}
use Rattle.std.proofs.lemmas.List.Elements.{All-cons, All-contains, All-filter, All-head, All-nil, All-tail, All-weaker, filter_passes}
use Rattle.dns_answers.specs.Values.{AnswerValue}
use Rattle.dns_message.specs.Questions.{same_question}
use Rattle.dns_message.specs.declared.question.Question.{Question}
use Rattle.answer_log.specs.Histories.{cached, living, stores_of}
use Rattle.answer_log.specs.declared.store.Store.{Store}
use Rattle.answer_cache.specs.Seats.{SeatView, offer_of}
use Rattle.sip_selection.specs.Choice.{Resolution, need, refused, targets}
use Rattle.sip_selection.specs.Known.{Given}
use Rattle.sip_resolver.specs.Outcomes.{Counts, Ended, IsChosen, IsOutcome, IsReplied, Sought}
use Rattle.sip_resolver.specs.declared.outcome.Outcome.{Outcome}
use Rattle.sip_resolver.specs.declared.outcome.Outcome.TheVariants.{Targets, Refused, NoAnswer, NoServer, BadReply, Memory}
use Rattle.rolling_resolver.specs.Rests.{AllRestOn, IsChosenOf, RestsOn, TellsOf, said_by}
use Rattle.rolling_resolver.specs.Rolling.{GenerationView, RollingView, Takes, Tells, older, younger}
use Rattle.rolling_resolver.proofs.Resting.{Handed, OlderRests, Stored}

all-front : {X : Type 0} (P : X → Type 0) (xs ys : List X) → All P (xs ++ ys) → All P xs
all-front P [] ys all = All-nil P
all-front P (x ∷ xs) ys all =
    All-cons P x xs (All-head P x (xs ++ ys) all) (all-front P xs ys (All-tail P x (xs ++ ys) all))

-- what holds of each element holds of the last one
last-of : {X : Type 0} (P : X → Type 0) (found : Option X) (xs : List X) (x : X) → ((y : X) → found ≡ Some y → P y) → All P xs
    → last_or found xs ≡ Some x → P x
last-of P found [] x before all is = before x is
last-of P found (y ∷ ys) x before all is =
    last-of P (Some y) ys x (λ z e. let same : y ≡ z = cc in rw (← same) (All-head P y ys all)) (All-tail P y ys all) is

lives-as : (now : ℕ) (store : Store) (answer : AnswerValue) (before : Bool)
    → (if before then Some store.answer else None) ≡ Some answer → store.answer ≡ answer
lives-as now store answer true is = cc
lives-as now store answer false is = absurd cc

module _ (same : (question other : Question) → IsTrue (same_question question other) ↔ (question ≡ other)) (given : List (List ℕ)) where
  -- a reply is given
  abbrev IsGiven : Given → Type 0
  IsGiven it = IsReplied (Contains given) it.question it.answer

  module _ (history : List Store) (question : Question) (now : ℕ) (answer : AnswerValue) where
    of-last : (last : Option Store) → last_or None (stores_of question history) ≡ last → All (Stored given) history
        → option_and_then (living now) last ≡ Some answer → IsReplied (Contains given) question answer
    of-last None at all is = absurd cc
    of-last (Some store) at all is =
        let asked-all = filter_passes (λ (it : Store). same_question it.question question) history in
        let kept-all = All-filter (λ (it : Store). same_question it.question question) (Stored given) history all in
        let asked = last-of (λ (it : Store). same_question it.question question ≡ true) None (stores_of question history) store
        (λ y e. absurd cc) asked-all at in
        let kept = last-of (Stored given) None (stores_of question history) store (λ y e. absurd cc) kept-all at in
        let question-is = (same store.question question).0 asked in
        let answer-is = lives-as now store answer (nat_lt now (store.moment + store.answer.life)) is in
        rw (← question-is, ← answer-is) kept

    -- what is found in a history is that of a reply
    of-cached : All (Stored given) history → cached history question now ≡ Some answer → IsReplied (Contains given) question answer
    of-cached all found = of-last (last_or None (stores_of question history)) refl all found

  module _ (seat : SeatView) (rests : RestsOn given seat) where
    of-counted : (it : Given) → Counts (λ _. ⊤) (λ _. ⊤) seat it → IsGiven it
    of-counted it (inl known) =
        of-cached known.history it.question known.now it.answer
        (all-front (Stored given) known.history known.before.0
        (subst (λ (stores : List Store). All (Stored given) stores) (sym known.before.1) rests.seen)) known.found
    of-counted it (inr known) =
        All-contains (Handed given) seat.offered (offer_of it.question it.answer known.1.now) rests.offered known.1.stands

    of-chosen : (sought : Sought) (resolution : Resolution) → IsChosen (Counts (λ _. ⊤) (λ _. ⊤) seat) sought resolution
        → IsChosen IsGiven sought resolution
    of-chosen sought resolution it = record {
      given = it.given;
      counted = All-weaker (Counts (λ _. ⊤) (λ _. ⊤) seat) IsGiven of-counted it.given it.counted;
      is = it.is;
    }

    of-outcome : (sought : Sought) (outcome : Outcome) → IsOutcome (λ _. ⊤) (λ _. ⊤) seat sought outcome
        → IfSome (said_by outcome) (IsChosen IsGiven sought)
    of-outcome sought (Targets list) it = of-chosen sought (targets list.targets) it.0
    of-outcome sought (Refused reason) it = of-chosen sought (refused reason) it
    of-outcome sought (NoAnswer question) it = of-chosen sought (need question) it.0
    of-outcome sought (NoServer question) it = of-chosen sought (need question) it.0
    of-outcome sought (BadReply question refusal) it = of-chosen sought (need question) it.0
    of-outcome sought Memory it = tt

  -- a request that is taken out is told so
  of-taken : (ended : Ended) (old new : RollingView) → Takes ended old new → AllRestOn given old → IsChosenOf given ended
  of-taken ended old new (older out) rests =
      of-outcome out.before.seat (subst (λ (d : Option GenerationView). OlderRests given d) out.was rests.draining) ended.sought
      ended.outcome out.first.sound
  of-taken ended old new (younger after out is) rests =
      of-outcome old.current.seat rests.current ended.sought ended.outcome out.sound

pub tells-of : ((question other : Question) → IsTrue (same_question question other) ↔ (question ≡ other))
    → (old new : RollingView) → Tells old new → TellsOf old new
tells-of same old new it given rests =
    subst (λ (s : RollingView). IfSome s.told (IsChosenOf given)) (sym it.is)
    (of-taken same given it.ended old it.middle it.takes rests)
