-- A walk along the stores of a group, which looks for the last one of a question or counts them.
use Rattle.std.proofs.Common.{◌≡◌, ◌↔◌, ◌+◌, ◌≤◌, ◌==◌, ℕ, Bool, true, false, IsTrue, List, [], ◌∷◌, ◌++◌, length, Option, Some, None, refl, ap}
use Rattle.std.proofs.Common.{sym, ◌∙◌, arith}
use Rattle.std.specs.List.{last_or}
use Rattle.std.proofs.lemmas.Bool.{eq-eqb}
use Rattle.std.proofs.lemmas.List.{length-append, append-nil, nil_from_length}
use Rattle.std.proofs.lemmas.List.Elements.{filter-append}
use Rattle.dns_message.specs.Questions.{same_question}
use Rattle.dns_message.specs.declared.question.Question.{Question}
use Rattle.answer_log.specs.Groups.{group_in}
use Rattle.answer_log.specs.Histories.{in_group, stores_of}
use Rattle.answer_log.specs.Cursors.{Ahead}
use Rattle.answer_log.specs.declared.store.Store.{Store}
use Rattle.answer_log.specs.declared.cursor.Cursor.{Cursor}

-- what is left of a walk along these stores after so many links
pub record Passes (whole : List Store) (cursor : Cursor) (links : ℕ) : Type 0 where
  pub left : List Store
  pub ahead : Ahead cursor left
  pub size : length left + links ≡ length whole

-- none of those that were passed is of the question
pub record Searches (question : Question) (whole : List Store) (cursor : Cursor) (links : ℕ) : Type 0 where
  pub passes : Passes whole cursor links
  pub last : last_or None (stores_of question whole) ≡ last_or None (stores_of question passes.left)

last-append : {X : Type 0} (o : Option X) (xs : List X) (x : X) → last_or o (xs ++ x ∷ []) ≡ Some x
last-append o [] x = refl
last-append o (y ∷ xs) x = last-append (Some y) xs x

pub last-here : (question : Question) (rest : List Store) (store : Store) → same_question store.question question ≡ true
    → last_or None (stores_of question (rest ++ store ∷ [])) ≡ Some store
last-here question rest store is =
    rw (filter-append (λ it. same_question it.question question) rest (store ∷ []), is) (last-append None (stores_of question rest) store)

pub last-before : (question : Question) (rest : List Store) (store : Store) → same_question store.question question ≡ false
    → last_or None (stores_of question (rest ++ store ∷ [])) ≡ last_or None (stores_of question rest)
last-before question rest store not =
    rw (filter-append (λ it. same_question it.question question) rest (store ∷ []), not, append-nil (stores_of question rest)) refl

-- the stores of a question are all in its group
module _ (groups : ℕ) (same : (question other : Question) → IsTrue (same_question question other) ↔ (question ≡ other))
    (question : Question) where
  grouped-by : (store : Store) (stores : List Store)
      → (grouped : Bool) → (group_in groups store.question == group_in groups question) ≡ grouped
      → (asked : Bool) → same_question store.question question ≡ asked
      → stores_of question (in_group groups (group_in groups question) stores) ≡ stores_of question stores
      → stores_of question (in_group groups (group_in groups question) (store ∷ stores)) ≡ stores_of question (store ∷ stores)
  grouped-by store stores true g true a more = rw (g, a) (ap (λ l. store ∷ l) more)
  grouped-by store stores true g false a more = rw (g, a) more
  grouped-by store stores false g true a more =
      let is : store.question ≡ question = (same store.question question).0 a in
      let g' : true ≡ false = sym (eq-eqb (group_in groups question) (group_in groups question) refl) ∙ rw is at g in absurd cc
  grouped-by store stores false g false a more = rw (g, a) more

  pub grouped : (stores : List Store) → stores_of question (in_group groups (group_in groups question) stores) ≡ stores_of question stores
  grouped [] = refl
  grouped (store ∷ stores) = grouped-by store stores _ refl _ refl (grouped stores)

  pub last-grouped : (stores : List Store) (found : Option Store)
      → last_or None (stores_of question (in_group groups (group_in groups question) stores)) ≡ found
      → last_or None (stores_of question stores) ≡ found
  last-grouped stores found is = ap (last_or None) (sym (grouped stores)) ∙ is

pub one-less : (rest : List Store) (store : Store) (links size : ℕ) → length (rest ++ store ∷ []) + links ≡ size
    → length rest + (links + 1) ≡ size
one-less rest store links size sum = let n = length-append rest (store ∷ []) in omega arith

-- a walk begins with all stores
abbrev pub passes : (whole : List Store) (cursor : Cursor) → Ahead cursor whole → Passes whole cursor 0
passes whole cursor ahead = record { left = whole; ahead = ahead; size = omega arith }

pub begins : (question : Question) (whole : List Store) (cursor : Cursor) → Ahead cursor whole → Searches question whole cursor 0
begins question whole cursor ahead = record { passes = passes whole cursor ahead; last = refl }

module _ (whole : List Store) (cursor : Cursor) (links : ℕ) (it : Passes whole cursor links) where
  pub passed-all : it.left ≡ [] → length whole ≡ links
  passed-all none = let sum : 0 + links ≡ length whole = rw none at it.size in omega arith

  pub passed-some : links ≤ length whole
  passed-some = let sum = it.size in omega arith

  abbrev pub passes-on : (rest : List Store) (store : Store) (new : Cursor) → it.left ≡ rest ++ store ∷ [] → Ahead new rest
      → Passes whole new (links + 1)
  passes-on rest store new split ahead = record {
    left = rest;
    ahead = ahead;
    size = one-less rest store links (length whole) (rw split at it.size);
  }

module _ (question : Question) (whole : List Store) (cursor : Cursor) (links : ℕ) (it : Searches question whole cursor links) where
  pub ends : it.passes.left ≡ [] → last_or None (stores_of question whole) ≡ None
  ends none = it.last ∙ rw none refl

  -- nothing is left after as many links as there are stores
  pub runs-out : length whole ≤ links → last_or None (stores_of question whole) ≡ None
  runs-out few =
      let none : length it.passes.left ≡ 0 = let sum = it.passes.size in omega arith in
      ends (nil_from_length it.passes.left none)

  pub finds : (rest : List Store) (store : Store) → it.passes.left ≡ rest ++ store ∷ [] → same_question store.question question ≡ true
      → last_or None (stores_of question whole) ≡ Some store
  finds rest store split is = it.last ∙ (ap (λ stores. last_or None (stores_of question stores)) split ∙ last-here question rest store is)

  pub goes-on : (rest : List Store) (store : Store) (new : Cursor) → it.passes.left ≡ rest ++ store ∷ []
      → same_question store.question question ≡ false
      → Ahead new rest → Searches question whole new (links + 1)
  goes-on rest store new split not ahead = record {
    passes = passes-on whole cursor links it.passes rest store new split ahead;
    last = it.last ∙ (ap (λ stores. last_or None (stores_of question stores)) split ∙ last-before question rest store not);
  }
