-- The kind of an answer that a history has.
use Rattle.std.specs.Prelude.{nat_lt, option_and_then, if◌then◌else◌, IsTrue, ◌↔◌}
use Rattle.std.specs.List.{All, last_or}
use Rattle.std.proofs.Common.{◌≡◌, ℕ, ◌+◌, Bool, true, false, List, [], ◌∷◌, Option, Some, None, refl, sym}
use Rattle.std.proofs.lemmas.List.Elements.{All-filter, All-head, All-tail, filter_passes}
use Rattle.dns_answers.specs.Records.{kind_of}
use Rattle.dns_answers.specs.Values.{AnswerValue}
use Rattle.dns_message.specs.Questions.{same_question}
use Rattle.dns_message.specs.declared.question.Question.{Question}
use Rattle.answer_log.specs.Histories.{IsHistory, IsSound, cached, living, stores_of}
use Rattle.answer_log.specs.declared.store.Store.{Store}

-- what holds of each element holds of the last one
last-of : {X : Type 0} (P : X → Type 0) (found : Option X) (xs : List X) (x : X) → ((y : X) → found ≡ Some y → P y) → All P xs
    → last_or found xs ≡ Some x → P x
last-of P found [] x before all is = before x is
last-of P found (y ∷ ys) x before all is =
    last-of P (Some y) ys x (λ z e. let same : y ≡ z = cc in rw (← same) (All-head P y ys all)) (All-tail P y ys all) is

lives-as : (now : ℕ) (store : Store) (answer : AnswerValue) (before : Bool)
    → (if before then Some store.answer else None) ≡ Some answer → store.answer ≡ answer
lives-as now store answer true is = cc
lives-as now store answer false is = absurd cc

module _ (same : (question other : Question) → IsTrue (same_question question other) ↔ (question ≡ other)) (history : List Store)
    (question : Question) (now : ℕ) (answer : AnswerValue) where
  of-kind : (last : Option Store) → last_or None (stores_of question history) ≡ last → All IsSound history
      → option_and_then (living now) last ≡ Some answer → kind_of answer.records ≡ question.kind
  of-kind None at sound is = absurd cc
  of-kind (Some store) at sound is =
      let asked-all = filter_passes (λ (it : Store). same_question it.question question) history in
      let sound-all = All-filter (λ (it : Store). same_question it.question question) IsSound history sound in
      let asked = last-of (λ (it : Store). same_question it.question question ≡ true) None (stores_of question history) store
      (λ y e. absurd cc) asked-all at in
      let kind = last-of IsSound None (stores_of question history) store (λ y e. absurd cc) sound-all at in
      let question-is = (same store.question question).0 asked in
      let answer-is = lives-as now store answer (nat_lt now (store.moment + store.answer.life)) is in
      rw (← question-is, ← answer-is) kind.1

  -- of the question's kind
  pub cached-kind : (groups : ℕ) → IsHistory groups history → Some answer ≡ cached history question now
      → kind_of answer.records ≡ question.kind
  cached-kind groups sound found = of-kind (last_or None (stores_of question history)) refl sound.sound (sym found)
