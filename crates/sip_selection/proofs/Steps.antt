-- What is next in a choice is where it goes by the answers so far.
use Rattle.std.proofs.Common.{◌≡◌, ℕ, ◌≤◌, sym, List, [], ◌∷◌, ◌++◌, length, Ok, Err, ap, ◌∙◌, inl, inr, arith}
use Rattle.std.proofs.lemmas.Bool.{cases_lt}
use Rattle.std.proofs.lemmas.List.{get_or_append_left, get_or_push, length_push, take-append-le, take_at}
use Rattle.std.proofs.lemmas.List.Elements.{All-push}
use Rattle.dns_answers.specs.Records.{count_of}
use Rattle.dns_message.specs.declared.question.Question.{Question}
use Rattle.sip_selection.specs.HeldWords.{AreHeld, AreThere}
use Rattle.sip_selection.specs.declared.held_words.HeldWords.{HeldWords}
use Rattle.sip_selection.specs.Choice.{IsNotRefused, Settled, need, refused, settled, resolved, chosen, locate}
use Rattle.sip_selection.specs.Known.{Given, Needing}
use Rattle.sip_selection.specs.Requests.{is_secure, target_of}
use Rattle.sip_selection.specs.Selections.{AreAskedOneByOne}
use Rattle.sip_selection.specs.Stages.{ComesTo, Extends, IsAsking, name_of, stage_left}
use Rattle.sip_selection.specs.declared.caps.Caps.{Caps}
use Rattle.sip_selection.specs.declared.reason.Reason.{Reason}
use Rattle.sip_selection.specs.declared.request.Request.{Request}
use Rattle.sip_selection.specs.declared.stage.Stage.{Stage}
use Rattle.sip_selection.specs.declared.stage.Step.{Step}
use Rattle.sip_selection.specs.declared.stage.Step.TheVariants.{Ask, Found, Refused}
use Rattle.sip_selection.specs.declared.target.Target.{Target}
use Rattle.sip_selection.proofs.Reaching.{extends-itself}

nothing-needed : (settles : Settled) (question : Question) → settled settles ≡ need question → ⊥
nothing-needed (Ok []) question is = absurd cc
nothing-needed (Ok (first ∷ others)) question is = absurd cc
nothing-needed (Err reason) question is = absurd cc

module _ (request : Request) (caps : Caps) (words : List ℕ) (given : List Given) (found : List Target) where
  abbrev pub Stands : Step → Type 0
  Stands step = ComesTo (is_secure request) caps words (name_of (target_of request)) given (chosen request caps words) step found

  pub asked-is : (question : Question) (stage : Stage) → Stands (Ask question stage) → locate request caps words given ≡ need question
  asked-is question stage comes = ap resolved (comes.0 given (extends-itself given) ∙ comes.1.0)

  pub found-is : Stands Found → locate request caps words given ≡ settled (Ok found)
  found-is comes = ap resolved (comes.0 given (extends-itself given))

  pub refused-is : (reason : Reason) → Stands (Refused reason) → locate request caps words given ≡ refused reason
  refused-is reason comes = ap resolved (comes.0 given (extends-itself given))

  -- what asks is not refused
  pub not-refused : (step : Step) → IsAsking step → Stands step → IsNotRefused (locate request caps words given)
  not-refused (Ask question stage) asking comes = rw (asked-is question stage comes) tt
  not-refused Found asking comes = absurd asking
  not-refused (Refused reason) asking comes = absurd asking

  -- a question is needed where it is asked
  pub step-asks : (step : Step) (question : Question) → Stands step → locate request caps words given ≡ need question
      → (stage : Stage) × (step ≡ Ask question stage)
  step-asks (Ask asked stage) question comes is =
      let needed = sym (asked-is asked stage comes) ∙ is in
      let same : asked ≡ question = cc in
      (stage, ap (λ (it : Question). Ask it stage) same)
  step-asks Found question comes is = absurd (nothing-needed (Ok found) question (sym (found-is comes) ∙ is))
  step-asks (Refused reason) question comes is = absurd (nothing-needed (Err reason) question (sym (refused-is reason comes) ∙ is))

  -- the answer to the question that is needed stands behind the others
  pub asked-too : AreAskedOneByOne request caps words given → (more : Given) → locate request caps words given ≡ need more.question
      → count_of more.answer.records ≤ 32 → AreAskedOneByOne request caps words (given ++ more ∷ [])
  asked-too asked more needed few = record {
    few = All-push (λ (it : Given). count_of it.answer.records ≤ 32) given more asked.few few;
    needed = λ k it within. elim (cases_lt k (length given)) [
      | inl before ↦
          let front = take-append-le k given (more ∷ []) (omega (arith, before)) in
          rw (front, get_or_append_left given (more ∷ []) it k before) (asked.needed k it before)
      | inr behind ↦
          let last : length given ≡ k = omega (arith, behind, within, length_push given more) in
          rw (take_at given (more ∷ []) k last, get_or_push given more it k last) needed
    ];
  }

  -- with more answers, the choice goes on from its stage
  module _ (question : Question) (stage : Stage) (comes : Stands (Ask question stage)) (then : List Given) (more : Extends given then) where
    abbrev left : List Given → Needing Settled
    left = stage_left (is_secure request) caps words (name_of (target_of request)) stage found

    on : (all : List Given) → Extends then all → chosen request caps words all ≡ left all
    on all extends = comes.0 all (λ asked answer is. extends asked answer (more asked answer is))

    pub goes-on : (step : Step) (found' : List Target)
        → ComesTo (is_secure request) caps words (name_of (target_of request)) then left step found'
        → ComesTo (is_secure request) caps words (name_of (target_of request)) then (chosen request caps words) step found'
    goes-on step found' next = (λ all extends. on all extends ∙ next.0 all extends, next.1)

    -- what is left of it is what the choice needs
    pub left-needs : (all : List Given) (asked : Question) → Extends then all → left all ≡ Err asked
        → locate request caps words all ≡ need asked
    left-needs all asked extends is =
        let whole : chosen request caps words all ≡ Err asked = on all extends ∙ is in
        ap resolved whole

-- words that are there are held at each step
pub held-by : (step : Step) (held : HeldWords) → AreThere held → AreHeld step held
held-by (Ask question stage) held there = there
held-by Found held there = tt
held-by (Refused reason) held there = tt
