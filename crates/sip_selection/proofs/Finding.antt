-- Answers that are found among those given and behind them.
use Rattle.std.proofs.Common.{◌≡◌, ℕ, zero, suc, ◌-◌, List, [], ◌∷◌, ◌++◌, Some, None, Err, Option, drop, length, refl, sym, arith}
use Rattle.std.specs.List.{find}
use Rattle.std.proofs.Math.Seq.{drop-nil}
use Rattle.std.proofs.lemmas.List.Folds.{find-append}
use Rattle.dns_message.specs.Questions.{same_question}
use Rattle.dns_message.specs.declared.question.Question.{Question}
use Rattle.dns_answers.specs.Values.{AnswerValue}
use Rattle.sip_selection.specs.Choices.{ChoiceLacks, IsSettled}
use Rattle.sip_selection.specs.declared.selection.Choice.{Choice}
use Rattle.sip_selection.specs.declared.selection.Choice.TheVariants.{Targets, Refused, Asks}
use Rattle.sip_selection.specs.Known.{Given, answer_to, find_answer}

module _ (given found : List Given) (question : Question) where
  first-by : (first : Option Given) (answer : AnswerValue)
      → find (λ (other : Given). same_question other.question question) given ≡ first → find_answer given question ≡ Some answer
      → find_answer (given ++ found) question ≡ Some answer
  first-by None answer e is =
      let here : None ≡ Some answer = rw e at is in
      absurd cc
  first-by (Some it) answer e is =
      let here : Some it.answer ≡ Some answer = rw e at is in
      rw (find-append (λ (other : Given). same_question other.question question) given found, e) here

  -- an answer that was given is the first one
  pub given-first : (answer : AnswerValue) → find_answer given question ≡ Some answer → find_answer (given ++ found) question ≡ Some answer
  given-first answer is = first-by (find (λ (other : Given). same_question other.question question) given) answer refl is

  then-by : (first : Option Given)
      → find (λ (other : Given). same_question other.question question) given ≡ first → find_answer given question ≡ None
      → find_answer (given ++ found) question ≡ find_answer found question
  then-by None e is = rw (find-append (λ (other : Given). same_question other.question question) given found, e) refl
  then-by (Some it) e is =
      let here : Some it.answer ≡ None = rw e at is in
      absurd cc

  -- where none was given, it is the one that was found
  pub found-then : find_answer given question ≡ None → find_answer (given ++ found) question ≡ find_answer found question
  found-then is = then-by (find (λ (other : Given). same_question other.question question) given) refl is

-- a question without an answer is the one that is needed
pub none-found : (known : List Given) (question : Question) → None ≡ find_answer known question → answer_to known question ≡ Err question
none-found known question none = rw (sym none) refl

-- what is behind so many of two lists
pub drops-both : {X : Type 0} (xs ys : List X) (n : ℕ) → drop n xs ++ drop (n - length xs) ys ≡ drop n (xs ++ ys)
drops-both [] ys n =
    let all : n - 0 ≡ n = omega arith in
    rw (drop-nil n, all) refl
drops-both (x ∷ xs) ys zero =
    let none : 0 - length (x ∷ xs) ≡ 0 = omega arith in
    rw none refl
drops-both (x ∷ xs) ys (suc n) =
    let less : suc n - length (x ∷ xs) ≡ n - length xs = omega arith in
    rw less (drops-both xs ys n)

-- a choice that asks nothing lacks nothing
pub settled-lacks : (says : Question → Option AnswerValue → Type 0) (choice : Choice) → IsSettled choice → ChoiceLacks says choice
settled-lacks says (Targets list) is = tt
settled-lacks says (Refused reason) is = tt
settled-lacks says (Asks selection) is = absurd is
