-- The book of a talk has nothing for what is needed.
use Rattle.std.proofs.Common.{◌≡◌, ℕ, Bool, true, false, List, [], ◌∷◌, ◌++◌, Option, Some, None, Result, Ok, Err, find, option_map, refl, sym, ap, ◌∙◌}
use Rattle.std.proofs.lemmas.List.Elements.{filter-append}
use Rattle.std.specs.declared.alloc.AllocError.{AllocError}
use Rattle.answer_log.specs.Histories.{cached, stores_of}
use Rattle.answer_log.specs.declared.store.Store.{Store}
use Rattle.answer_cache.specs.Lists.{IsListSeat}
use Rattle.answer_cache.specs.Seats.{SeatView, StoresNothing, store_of, offer_of}
use Rattle.dns_message.specs.Questions.{same_question}
use Rattle.dns_message.specs.declared.question.Question.{Question}
use Rattle.dns_answers.specs.Values.{AnswerValue}
use Rattle.sip_locator.specs.Gains.{Gains, nothing, one, Steps}
use Rattle.sip_locator.specs.Replies.{IsTaken}
use Rattle.sip_locator.specs.declared.kept.Kept.{Kept}
use Rattle.sip_locator.specs.declared.kept.Kept.TheVariants.{Yes, No}
use Rattle.sip_selection.specs.Choice.{need, locate}
use Rattle.sip_selection.specs.declared.caps.Caps.{Caps}
use Rattle.sip_selection.specs.declared.request.Request.{Request}
use Rattle.sip_selection.specs.Known.{Given, find_answer}
use Rattle.sip_selection.specs.Nexts.{next_of}
use Rattle.sip_selection.specs.Selections.{SelectionValue, now_of}
use Rattle.sip_selection.specs.declared.selection.Next.{Next}
use Rattle.siplocate_one.specs.Books.{BookFits}

front-none : {X : Type 0} (front back : List X) → front ++ back ≡ [] → front ≡ []
front-none [] back e = refl
front-none (x ∷ front) back e = absurd cc

-- a history of which none is of a question has no answer to it
none-cached : (history last : List Store) (question : Question) (now : ℕ) (rest : List Store) → history ++ rest ≡ last
    → stores_of question last ≡ [] → cached history question now ≡ None
none-cached history last question now rest whole none =
    let parts = filter-append (λ store. same_question store.question question) history rest in
    let none' : stores_of question history ++ stores_of question rest ≡ [] = sym parts ∙ rw (← whole) at none in
    rw (front-none (stores_of question history) (stores_of question rest) none') refl

-- a question that is needed has no answer yet
abbrev pub Missing : Type 0
Missing = (request : Request) (caps : Caps) (words : List ℕ) (given : List Given) (question : Question)
    → locate request caps words given ≡ need question → find_answer given question ≡ None

module _ (missing : Missing) where
  pub none-gained : {first : List Store} {old new : SelectionValue} (seat : SeatView) (now : ℕ) → BookFits old.given seat
      → Gains seat.seen now first old new → new ≡ old
  none-gained seat now fits (nothing is) = is
  none-gained {old = old} seat now fits (one history middle between answered others) =
      let none = none-cached history seat.seen answered.question now between.before.0 between.before.1
      (fits.unknown answered.question (missing old.request old.caps old.words old.given answered.question answered.asked)) in
      let both : Some answered.answer ≡ None = sym answered.found ∙ none in
      absurd cc

  module _ (old new : SelectionValue) (before after : SeatView) (now : ℕ) (fits : BookFits old.given before)
      (there : IsListSeat after) (stored : StoresNothing before after) where
    same-seen : after.seen ≡ before.seen
    same-seen = sym there.own ∙ stored.own ∙ fits.is.own

    fits-after : BookFits old.given after
    fits-after = record { is = there; unknown = λ question none. rw same-seen (fits.unknown question none) }

    -- a step gains nothing
    step-stays : (result : Result Next AllocError) → Steps old new before.seen after.seen now result → new ≡ old
    step-stays (Ok next) steps = none-gained after now fits-after steps.gains
    step-stays (Err refusal) steps = none-gained after now fits-after steps.gains

    pub next-is : (next : Next) → Steps old new before.seen after.seen now (Ok next) → next_of next ≡ now_of old
    next-is next steps = steps.is ∙ ap now_of (step-stays (Ok next) steps)

-- ---- an answer more

last-by : (test : Given → Bool) (it : Given) (is : Bool) → test it ≡ is → find test (it ∷ []) ≡ None → test it ≡ false
last-by test it true t e = let e' : Some it ≡ None = rw t at e in absurd cc
last-by test it false t e = t

front-by : (test : Given → Bool) (first : Given) (front : List Given) (it : Given) (is : Bool) → test first ≡ is
    → (find test (front ++ it ∷ []) ≡ None → (find test front ≡ None) × (test it ≡ false))
    → find test (first ∷ front ++ it ∷ []) ≡ None → (find test (first ∷ front) ≡ None) × (test it ≡ false)
front-by test first front it true t rest e = let e' : Some first ≡ None = rw t at e in absurd cc
front-by test first front it false t rest e =
    let both = rest (rw t at e) in
    (rw t both.0, both.1)

find-front : (test : Given → Bool) (front : List Given) (it : Given) → find test (front ++ it ∷ []) ≡ None
    → (find test front ≡ None) × (test it ≡ false)
find-front test [] it e = (refl, last-by test it (test it) refl e)
find-front test (first ∷ front) it e = front-by test first front it (test first) refl (find-front test front it) e

none-answer : (found : Option Given) → option_map (λ (it : Given). it.answer) found ≡ None → found ≡ None
none-answer None e = refl
none-answer (Some it) e = absurd cc

module _ (given : List Given) (asked : Question) (found : AnswerValue) (question : Question)
    (none : find_answer (given ++ record { question = asked; answer = found } ∷ []) question ≡ None) where
  parts : (find (λ it. same_question it.question question) given ≡ None) × (same_question asked question ≡ false)
  parts = find-front (λ it. same_question it.question question) given (record { question = asked; answer = found }) (none-answer _ none)

  none-before : find_answer given question ≡ None
  none-before = ap (option_map (λ (it : Given). it.answer)) parts.0

module _ (old new : SelectionValue) (before after : SeatView) (octets : List ℕ) (now : ℕ) (fits : BookFits old.given before)
    (there : IsListSeat after) where
  own-by : (kept : Kept) (taken : IsTaken old new before after octets now kept) → (question : Question)
      → same_question taken.question question ≡ false → stores_of question before.own ≡ [] → stores_of question after.own ≡ []
  own-by Yes taken question other none =
      rw (
        taken.keeps.own,
        filter-append (λ store. same_question store.question question) before.own
            (store_of before (offer_of taken.question taken.found now) ∷ []),
        other,
        none,
      ) refl
  own-by (No refusal) taken question other none = rw taken.keeps.0 none

  pub taken-fits : (kept : Kept) → IsTaken old new before after octets now kept → BookFits new.given after
  taken-fits kept taken = record {
    is = there;
    unknown = λ question none.
        let none' = rw taken.is at none in
        let unknown = parts old.given taken.question taken.found question none' in
        let before-none = fits.unknown question (none-before old.given taken.question taken.found question none') in
        rw (← there.own) (own-by kept taken question unknown.1 (rw fits.is.own before-none));
  }
