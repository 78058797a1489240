-- What is carried answers as the histories did.
use Rattle.std.proofs.Common.{◌≡◌, ◌≢◌, ◌↔◌, ◌+◌, ◌<◌, ◌≤◌, ℕ, Bool, true, false, IsTrue, List, [], ◌∷◌, Option, Some, None, refl, ap}
use Rattle.std.proofs.Common.{sym, ◌∙◌, arith, nat_lt, option_and_then}
use Rattle.std.proofs.lemmas.Bool.Decides.{nat_tests}
use Rattle.std.proofs.lemmas.List.Elements.{All-cons, All-nil}
use Rattle.std.specs.List.{All, last_or}
use Rattle.dns_answers.specs.Values.{AnswerValue}
use Rattle.dns_message.specs.Questions.{same_question}
use Rattle.dns_message.specs.declared.question.Question.{Question}
use Rattle.answer_log.specs.Groups.{group_in}
use Rattle.answer_log.specs.Histories.{cached, in_group, living, stores_of}
use Rattle.answer_log.specs.declared.store.Store.{Store}
use Rattle.answer_cache.specs.Carried.{IsCarriedOf, carried_stores, has_question, living_of}
use Rattle.answer_cache.specs.Seats.{Offer}
use Rattle.answer_log.proofs.Chains.{group-low}
use Rattle.answer_cache.proofs.Carrying.{all-in-group, all-turn, carried-all, none-filter, only}
use Rattle.answer_cache.proofs.Lookups.{grouped}

later-test : (a b now later : ℕ) → now ≤ later → nat_lt now (a + b) ≡ false → nat_lt later (a + b) ≡ false
later-test a b now later le not = grind (arith, nat_tests)

module _ (question : Question) where
  abbrev P : Store → Type 0
  P store = same_question store.question question ≡ false

  -- where the question isn't met no store is of it
  none-has : (stores : List Store) → has_question question stores ≡ false → All P stores
  none-has [] not = All-nil P
  none-has (store ∷ stores) not = by-test (same_question store.question question) refl (λ rest. none-has stores rest)
    where
      by-test : (is : Bool) → same_question store.question question ≡ is → (has_question question stores ≡ false → All P stores)
          → All P (store ∷ stores)
      by-test true is more = let wrong : true ≡ false = rw is at not in absurd (cc (wrong))
      by-test false is more = All-cons P store stores is (more (rw is at not))

  pub none-of-it : (stores : List Store) → has_question question stores ≡ false → stores_of question stores ≡ []
  none-of-it stores not = none-filter (λ store. same_question store.question question) stores (none-has stores not)

  none-carried : (now : ℕ) (stores : List Store) → has_question question stores ≡ false
      → stores_of question (carried_stores (living_of now stores)) ≡ []
  none-carried now stores not =
      none-filter (λ store. same_question store.question question) (carried_stores (living_of now stores))
      (carried-all P now stores (none-has stores not))

  -- where it is met the last store is one of them
  last-any : (stores : List Store) (one other : Option Store) → has_question question stores ≡ true
      → last_or one (stores_of question stores) ≡ last_or other (stores_of question stores)
  last-any [] one other is = absurd (cc (is))
  last-any (store ∷ stores) one other is =
      by-test (same_question store.question question) refl (λ rest. last-any stores one other rest)
    where
      by-test : (asked : Bool) → same_question store.question question ≡ asked
          → (has_question question stores ≡ true → last_or one (stores_of question stores) ≡ last_or other (stores_of question stores))
          → last_or one (stores_of question (store ∷ stores)) ≡ last_or other (stores_of question (store ∷ stores))
      by-test true asked more = rw asked refl
      by-test false asked more = rw asked (more (rw asked at is))

  -- a store that has expired at a moment has expired later
  pub living-later : (store : Store) (now later : ℕ) → now ≤ later → nat_lt now (store.moment + store.answer.life) ≡ false
      → living later store ≡ None
  living-later store now later le not = rw (later-test store.moment store.answer.life now later le not) refl

  module _ (same : (question other : Question) → IsTrue (same_question question other) ↔ (question ≡ other))
      (now later : ℕ) (le : now ≤ later) where
    answers-by : (store : Store) (stores : List Store)
        → (asked : Bool) → same_question store.question question ≡ asked
        → (again : Bool) → has_question store.question stores ≡ again
        → (lives : Bool) → nat_lt now (store.moment + store.answer.life) ≡ lives
        → cached (carried_stores (living_of now stores)) question later ≡ cached stores question later
        → cached (carried_stores (living_of now (store ∷ stores))) question later ≡ cached (store ∷ stores) question later
    answers-by store stores true asked true again lives l more =
        let q : store.question ≡ question = (same store.question question).0 asked in
        let has : has_question question stores ≡ true = rw q at again in
        rw (asked, again) (more ∙ ap (option_and_then (living later)) (last-any stores None (Some store) has))
    answers-by store stores true asked false again true l more =
        let q : store.question ≡ question = (same store.question question).0 asked in
        let has : has_question question stores ≡ false = rw q at again in
        rw (asked, again, l, asked, none-of-it stores has, none-carried now stores has) refl
    answers-by store stores true asked false again false l more =
        let q : store.question ≡ question = (same store.question question).0 asked in
        let has : has_question question stores ≡ false = rw q at again in
        rw (asked, again, l, none-of-it stores has, none-carried now stores has) (sym (living-later store now later le l))
    answers-by store stores false asked true again lives l more = rw (asked, again) more
    answers-by store stores false asked false again true l more = rw (asked, again, l, asked) more
    answers-by store stores false asked false again false l more = rw (asked, again, l) more

    pub answers : (stores : List Store) → cached (carried_stores (living_of now stores)) question later ≡ cached stores question later
    answers [] = refl
    answers (store ∷ stores) = answers-by store stores _ refl _ refl _ refl (answers stores)

    other : (groups group : ℕ) (stores : List Store) → group ≢ group_in groups question
        → stores_of question (carried_stores (living_of now (in_group groups group stores))) ≡ []
    other groups group stores ne =
        none-filter (λ store. same_question store.question question) (carried_stores (living_of now (in_group groups group stores)))
        (all-turn (λ store. group_in groups store.question ≡ group) P turn (carried_stores (living_of now (in_group groups group stores)))
        (carried-all (λ store. group_in groups store.question ≡ group) now (in_group groups group stores) (all-in-group groups group stores)))
      where
        turn : (store : Store) → group_in groups store.question ≡ group → P store
        turn store is = by-test (same_question store.question question) refl
          where
            by-test : (asked : Bool) → same_question store.question question ≡ asked → asked ≡ false
            by-test true asked =
                let q : store.question ≡ question = (same store.question question).0 asked in
                absurd (ne (sym is ∙ ap (group_in groups) q))
            by-test false asked = refl

    pub carried-answers : (groups : ℕ) → 0 < groups → (before after : List Store) (carried : List Offer)
        (it : IsCarriedOf groups groups before after now carried)
        → cached (carried_stores carried) question later ≡ cached (it.history (group_in groups question)) question later
    carried-answers groups some before after carried it =
        let part : ℕ → List Offer = λ group. living_of now (in_group groups group (it.history group)) in
        let at : ℕ = group_in groups question in
        let low = group-low groups some question in
        let last : Option Store → Option AnswerValue = option_and_then (living later) in
        ap (λ offers. last (last_or None (stores_of question (carried_stores offers)))) it.all
        ∙ (ap (λ stores. last (last_or None stores))
        (only (λ store. same_question store.question question) part at (λ k ne. other groups k (it.history k) ne) 0 groups
        (omega arith) (omega arith))
        ∙ (answers (in_group groups at (it.history at))
        ∙ ap (λ stores. last (last_or None stores)) (grouped groups same question (it.history at))))

  -- what isn't found at a moment isn't found later
  pub no-more : (stores : List Store) (now later : ℕ) → now ≤ later → cached stores question now ≡ None
      → cached stores question later ≡ None
  no-more stores now later le none = by-last (last_or None (stores_of question stores)) refl
    where
      by-last : (last : Option Store) → last_or None (stores_of question stores) ≡ last → cached stores question later ≡ None
      by-last None is = rw is refl
      by-last (Some store) is = by-test (nat_lt now (store.moment + store.answer.life)) refl
        where
          by-test : (lives : Bool) → nat_lt now (store.moment + store.answer.life) ≡ lives → cached stores question later ≡ None
          by-test true lives =
              let wrong : Some store.answer ≡ None = rw (is, lives) at none in absurd (cc (wrong))
          by-test false lives = rw is (living-later store now later le lives)
