-- Answers that a source gives while a choice goes on.
use Rattle.std.proofs.Common.{◌≡◌, ◌≤◌, ℕ, Bool, true, false, List, [], ◌∷◌, ◌++◌, Option, Some, None, Ok, Err, drop, length, refl, sym, ap, ◌∙◌, append_assoc, arith}
use Rattle.std.proofs.lemmas.List.Elements.{All-nil}
use Rattle.std.proofs.lemmas.List.{append-nil}
use Rattle.std.proofs.Math.Seq.{drop-append_seam}
use Rattle.dns_answers.specs.Records.{count_of}
use Rattle.dns_answers.specs.Values.{AnswerValue}
use Rattle.dns_message.specs.Questions.{same_question}
use Rattle.dns_message.specs.declared.question.Question.{Question}
use Rattle.sip_selection.specs.Consulting.{Consulted, nothing, onward, one, Needs}
use Rattle.sip_selection.specs.Known.{Given, Needing, find_answer, answer_to, made}
use Rattle.sip_selection.specs.Selections.{AreAskedOneByOne, SelectionValue}
use Rattle.sip_selection.specs.Stages.{Extends}
use Rattle.sip_selection.specs.declared.caps.Caps.{Caps}
use Rattle.sip_selection.specs.declared.request.Request.{Request}
use Rattle.sip_selection.specs.declared.target.Target.{Target}
use Rattle.sip_selection.proofs.Answered.{question_equiv}
use Rattle.sip_selection.proofs.Growth.{answer-grows}
use Rattle.sip_selection.proofs.Reaching.{Came}
use Rattle.sip_selection.proofs.Steps.{asked-too}

-- ---- answers that join those given

pub extends-more : (given more : List Given) → Extends given (given ++ more)
extends-more given more = λ question answer is. answer-grows given more question answer is

pub extends-on : (given then all : List Given) → Extends given then → Extends then all → Extends given all
extends-on given then all first next = λ question answer is. next question answer (first question answer is)

module _ (question : Question) (answer : AnswerValue) where
  abbrev last : List Given
  last = record { question = question; answer = answer } ∷ []

  last-by : (it : Given) (others : List Given) (test : Bool) → same_question it.question question ≡ test
      → find_answer (it ∷ others) question ≡ None
      → (find_answer others question ≡ None → find_answer (others ++ last) question ≡ Some answer)
      → find_answer (it ∷ (others ++ last)) question ≡ Some answer
  last-by it others true e is rest =
      let here : Some it.answer ≡ None = rw e at is in
      absurd cc
  last-by it others false e is rest =
      let there : find_answer others question ≡ None = rw e at is in
      rw e (rest there)

  last-found : (given : List Given) → find_answer given question ≡ None → find_answer (given ++ last) question ≡ Some answer
  last-found [] is = rw (question_equiv.refl question) refl
  last-found (it ∷ others) is = last-by it others (same_question it.question question) refl is (last-found others)

  none-found : (found : Option AnswerValue) (given : List Given) → find_answer given question ≡ found
      → answer_to given question ≡ Err question → find_answer given question ≡ None
  none-found None given e is = e
  none-found (Some other) given e is =
      let here : Ok other ≡ Err question = rw e at is in
      absurd cc

  -- the answer that is added to a question without one is its answer then
  pub answers-last : (given : List Given) → answer_to given question ≡ Err question → answer_to (given ++ last) question ≡ Ok answer
  answers-last given is = rw (last-found given (none-found (find_answer given question) given refl is)) refl

asked-by : (given : List Given) (question other : Question) (found : Option AnswerValue) → find_answer given question ≡ found
    → answer_to given question ≡ Err other → other ≡ question
asked-by given question other None e is =
    let here : Err question ≡ Err other = rw e at is in
    cc
asked-by given question other (Some answer) e is =
    let here : Ok answer ≡ Err other = rw e at is in
    absurd cc

-- the question that lacks an answer is the one that was asked
pub asked-is : (given : List Given) (question other : Question) → answer_to given question ≡ Err other → other ≡ question
asked-is given question other is = asked-by given question other (find_answer given question) refl is

-- what a loop came to stays so when answers are added
pub came-grown : {Index : Type 0} (given then : List Given) (left : List Given → Index → Needing (List Target)) (from : Index)
    (before : List Target) (at : Index) (now : List Target) → Extends given then → Came given left from before at now
    → Came then left from before at now
came-grown given then left from before at now more came = record {
  found = came.found;
  are = came.are;
  is = λ all extends. came.is all (extends-on given then all more extends);
}

-- what is left from where a loop came to is what its function needs
pub came-needs : {Index : Type 0} (it : SelectionValue) (given then : List Given) (left : List Given → Index → Needing (List Target))
    (from : Index) (before : List Target) (at : Index) (now : List Target) → Extends given then → Came then left from before at now
    → Needs it given (λ all. left all from) → Needs it then (λ all. left all at)
came-needs it given then left from before at now more came needs = λ all question extends is.
    needs all question (extends-on given then all more extends)
    (came.is all extends ∙ ap (made (λ others. came.found ++ others)) is)

-- where one thing stops at a question, so does what is made of it
pub needs-of : {X Y : Type 0} (it : SelectionValue) (given : List Given) (whole : List Given → Needing X) (part : List Given → Needing Y)
    → ((all : List Given) (question : Question) → Extends given all → part all ≡ Err question → whole all ≡ Err question)
    → Needs it given whole → Needs it given part
needs-of it given whole part stops needs = λ all question extends is. needs all question extends (stops all question extends is)

-- needs that go on from more answers
pub needs-on : {X : Type 0} (it : SelectionValue) (given then : List Given) (left : List Given → Needing X) → Extends given then
    → Needs it given left → Needs it then left
needs-on it given then left more needs = λ all question extends is. needs all question (extends-on given then all more extends) is

-- ---- what a source was asked

module _ {Seat : Type 0} {ready : Seat → Type 0} {goes : Seat → Seat → Type 0} {says : Seat → Question → Option AnswerValue → Type 0}
    {it : SelectionValue} {start : Seat} where
  -- the answers begin with those that were given
  pub consulted-front : {seat : Seat} {given : List Given} → Consulted ready goes says it start seat given
      → (more : List Given) × (given ≡ it.given ++ more)
  consulted-front (nothing is) = ([], sym (append-nil it.given))
  consulted-front (onward next before _ _) = consulted-front before
  consulted-front (one next question answer before _ _ _ _ _) =
      let front = consulted-front before in
      let last : List Given = record { question = question; answer = answer } ∷ [] in (
        front.0 ++ last,
        ap (λ (l : List Given). l ++ last) front.1 ∙ append_assoc it.given front.0 last,
      )

  -- what is behind those that were given stands behind them
  pub consulted-behind : {seat : Seat} {given : List Given} → Consulted ready goes says it start seat given
      → it.given ++ drop (length it.given) given ≡ given
  consulted-behind consulted = let front = consulted-front consulted in
      rw front.1 (ap (λ (more : List Given). it.given ++ more) (drop-append_seam it.given front.0))

  -- they were asked for one by one
  pub consulted-asked : {seat : Seat} {given : List Given} → Consulted ready goes says it start seat given
      → AreAskedOneByOne it.request it.caps it.words it.given → AreAskedOneByOne it.request it.caps it.words given
  consulted-asked (nothing is) asked = asked
  consulted-asked (onward next before _ _) asked = consulted-asked before asked
  consulted-asked (one {given = given} next question answer before _ _ _ needed few) asked =
      asked-too it.request it.caps it.words given [] (consulted-asked before asked) (record { question = question; answer = answer })
      needed few

-- a source without an answer leaves the answers as they were
pub nobody-says : {Seat : Type 0} {ready : Seat → Type 0} {goes : Seat → Seat → Type 0} {it : SelectionValue} {start seat : Seat}
    {given : List Given} → Consulted ready goes (λ _ _ found. found ≡ None) it start seat given → given ≡ it.given
nobody-says (nothing is) = refl
nobody-says (onward next before _ _) = nobody-says before
nobody-says (one next question answer before _ _ said _ _) = absurd cc

-- without an answer none was asked
pub nothing-asked : (request : Request) (caps : Caps) (words : List ℕ) → AreAskedOneByOne request caps words []
nothing-asked request caps words = record {
  few = All-nil (λ (it : Given). count_of it.answer.records ≤ 32);
  needed = λ k it within. absurd omega (arith, within);
}
