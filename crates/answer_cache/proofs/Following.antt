-- A list of stores begins with what lives of another one.
use Rattle.std.proofs.Common.{◌≡◌, ◌≢◌, ◌↔◌, ◌+◌, ◌<◌, ◌≤◌, ◌==◌, ◌⊎◌, inl, inr, ℕ, suc, Bool, true, false, IsTrue, List, [], ◌∷◌, ◌++◌, length, Result, Ok, Err, OnErr, OnOk}
use Rattle.std.proofs.Common.{not, drop, get_or, take, refl, sym, ap, subst, ◌∙◌, arith}
use Rattle.std.proofs.lemmas.Bool.{eq-eqb, ne_eqb}
use Rattle.std.proofs.lemmas.List.{append-nil, append_assoc, drop_more, get_or-map, length-append, length-map, length-take-le, take-append-drop}
use Rattle.std.proofs.lemmas.List.Elements.{All-get_or, filter-append}
use Rattle.std.proofs.Math.ListN.{drop_of_length-le}
use Rattle.dns_message.specs.Questions.{same_question}
use Rattle.dns_message.specs.declared.question.Question.{Question}
use Rattle.answer_log.specs.Groups.{group_in, group_limit}
use Rattle.answer_log.specs.Histories.{IsHistory, IsSound, in_group}
use Rattle.answer_log.specs.declared.store.Store.{Store}
use Rattle.answer_cache.specs.Carried.{carried_stores, has_question, lives_at, living_of, offer_in, unseated}
use Rattle.answer_cache.specs.Lists.{own_store}
use Rattle.answer_cache.specs.Marks.{IsLastAt, store_in, stores_in}
use Rattle.answer_cache.specs.Seats.{Offer}
use Rattle.answer_cache.specs.declared.carried.Entry.{Entry}

pub ok-turn : {X E P Q : Type 0} (result : Result X E) → (P → Q) → OnOk result P → OnOk result Q
ok-turn (Ok found) turn it = turn it
ok-turn (Err refusal) turn it = it

pub on-err : {X E P : Type 0} (result : Result X E) → P → OnErr result P
on-err (Ok found) it = tt
on-err (Err refusal) it = it

-- one of the stores
pub some-store : (stores : List Store) (place : ℕ) → place < length stores → Store
some-store [] place within = absurd (omega (arith, within))
some-store (store ∷ stores) place within = store

-- where a store of the question is
has-there : (question : Question) (front back : List Store) (store : Store) → same_question store.question question ≡ true
    → has_question question (front ++ store ∷ back) ≡ true
has-there question [] back store asked = rw asked refl
has-there question (first ∷ front) back store asked =
    by-test (same_question first.question question) refl (has-there question front back store asked)
  where
    by-test : (is : Bool) → same_question first.question question ≡ is → has_question question (front ++ store ∷ back) ≡ true
        → has_question question (first ∷ front ++ store ∷ back) ≡ true
    by-test true is more = rw is refl
    by-test false is more = rw is more

-- Two stores of a question, the second of which is the last: they are one, or the first has a later one behind it.
abbrev IsOneOrBefore : Question → ℕ → ℕ → List Store → Type 0
IsOneOrBefore question place last back =
    ((place ≡ last) × (has_question question back ≡ false)) ⊎ ((place ≢ last) × (has_question question back ≡ true))

module _ (question : Question) (store : Store) (back : List Store) (last : Store) (behind : List Store)
    (asked : same_question store.question question ≡ true) (asked-too : same_question last.question question ≡ true)
    (none : has_question question behind ≡ false) where
  one-or-before : (front before : List Store) → front ++ store ∷ back ≡ before ++ last ∷ behind
      → IsOneOrBefore question (length front) (length before) back
  one-or-before [] [] e = inl (refl, ap (λ l. has_question question (drop 1 l)) e ∙ none)
  one-or-before [] (b ∷ before) e =
      inr (λ z. absurd (omega (arith, z)), ap (λ l. has_question question (drop 1 l)) e ∙ has-there question before behind last asked-too)
  one-or-before (f ∷ front) [] e =
      let there = has-there question front back store asked in
      let same = ap (λ l. has_question question (drop 1 l)) e in
      let wrong : true ≡ false = sym there ∙ (same ∙ none) in absurd cc
  one-or-before (f ∷ front) (b ∷ before) e = more (one-or-before front before (ap (drop 1) e))
    where
      more : IsOneOrBefore question (length front) (length before) back
          → IsOneOrBefore question (length (f ∷ front)) (length (b ∷ before)) back
      more (inl it) = inl (ap suc it.0, it.1)
      more (inr it) = inr (λ z. it.0 (omega (arith, z)), it.1)

split-at : (stores : List Store) (place : ℕ) (d : Store) → place < length stores
    → stores ≡ take place stores ++ get_or stores place d ∷ drop (place + 1) stores
split-at stores place d within =
    sym (take-append-drop place stores) ∙ ap (λ l. take place stores ++ l) (drop_more stores place d within)

-- what is found of a question tells whether a store of it is the last one
module _ (same : (question other : Question) → IsTrue (same_question question other) ↔ (question ≡ other)) (question : Question)
    (stores : List Store) (place : ℕ) (d : Store) (within : place < length stores) (is : (get_or stores place d).question ≡ question) where
  asked-there : same_question (get_or stores place d).question question ≡ true
  asked-there = (same (get_or stores place d).question question).1 is

  pub last-by : (last : ℕ) → IsLastAt question stores last → has_question question (drop (place + 1) stores) ≡ not (last == place)
  last-by last it = by-case (one-or-before question (get_or stores place d) (drop (place + 1) stores) it.store it.back
      asked-there it.asked it.last (take place stores) it.front (sym (split-at stores place d within) ∙ it.split))
    where
      long : length (take place stores) ≡ place
      long = length-take-le place stores (omega (arith, within))

      by-case : IsOneOrBefore question (length (take place stores)) (length it.front) (drop (place + 1) stores)
          → has_question question (drop (place + 1) stores) ≡ not (last == place)
      by-case (inl one) =
          let e : last ≡ place = it.place_is ∙ (sym one.0 ∙ long) in rw (e, eq-eqb place place refl) one.1
      by-case (inr one) =
          let e : last ≢ place = λ z. one.0 (long ∙ (sym z ∙ it.place_is)) in rw (ne_eqb last place e) one.1

  pub never-none : has_question question stores ≡ false → has_question question (drop (place + 1) stores) ≡ true
  never-none none =
      let there = has-there question (take place stores) (drop (place + 1) stores) (get_or stores place d) asked-there in
      let wrong : true ≡ false = sym there ∙ (ap (has_question question) (sym (split-at stores place d within)) ∙ none) in absurd cc

module _ (now : ℕ) where
  abbrev pub next : List Store → List Store
  next stores = carried_stores (living_of now stores)

  -- a store that does not live, or is not the last of its question, is left out
  pub leaves-dead : (store : Store) (later : List Store) → lives_at now (unseated store) ≡ false → next (store ∷ later) ≡ next later
  leaves-dead store later dead = by-test (has_question store.question later) refl
    where
      by-test : (is : Bool) → has_question store.question later ≡ is → next (store ∷ later) ≡ next later
      by-test true is = rw is refl
      by-test false is = rw (is, dead) refl

  pub leaves-older : (store : Store) (later : List Store) → has_question store.question later ≡ true → next (store ∷ later) ≡ next later
  leaves-older store later again = rw again refl

  -- the others are taken
  pub takes-last : (store : Store) (later : List Store) → has_question store.question later ≡ false
      → lives_at now (unseated store) ≡ true → next (store ∷ later) ≡ own_store (unseated store) ∷ next later
  takes-last store later last lives = rw (last, lives) refl

  -- no group has more than before
  pub few-living : (groups group : ℕ) (stores : List Store)
      → length (in_group groups group (next stores)) ≤ length (in_group groups group stores)
  few-living groups group [] = omega arith
  few-living groups group (store ∷ later) = by-test _ refl _ refl _ refl (few-living groups group later)
    where
      by-test : (again : Bool) → has_question store.question later ≡ again
          → (lives : Bool) → lives_at now (unseated store) ≡ lives
          → (grouped : Bool) → (group_in groups store.question == group) ≡ grouped
          → length (in_group groups group (next later)) ≤ length (in_group groups group later)
          → length (in_group groups group (next (store ∷ later))) ≤ length (in_group groups group (store ∷ later))
      by-test true a lives l true g more = rw (a, g) (omega (arith, more))
      by-test true a lives l false g more = rw (a, g) more
      by-test false a true l true g more = rw (a, l, g) (omega (arith, more))
      by-test false a true l false g more = rw (a, l, g) more
      by-test false a false l true g more = rw (a, l, g) (omega (arith, more))
      by-test false a false l false g more = rw (a, l, g) more

  module _ (stores done : List Store) (store : Store) (rest : List Store) (is : next stores ≡ done ++ store ∷ rest) where
    -- there is room for each of them
    pub room-for : (groups : ℕ) → IsHistory groups stores
        → ((group_limit ≤ length (in_group groups (group_in groups store.question) done)) → ⊥)
    room-for groups history full =
        let few = few-living groups (group_in groups store.question) stores in
        let most = history.few (group_in groups store.question) in
        let split = ap (in_group groups (group_in groups store.question)) is
        ∙ filter-append (λ it. group_in groups it.question == group_in groups store.question) done (store ∷ rest) in
        let sizes = ap length split
        ∙ length-append (in_group groups (group_in groups store.question) done)
        (in_group groups (group_in groups store.question) (store ∷ rest)) in
        let one = here (group_in groups store.question) refl in
        absurd (omega (arith, few, most, sizes, one, full))
      where
        here : (group : ℕ) → group_in groups store.question ≡ group → 1 ≤ length (in_group groups group (store ∷ rest))
        here group same = rw (eq-true group same) (omega arith)
          where
            eq-true : (group : ℕ) → group_in groups store.question ≡ group → (group_in groups store.question == group) ≡ true
            eq-true group same = rw same (eq-eqb group group refl)

    pub some-live : living_of now stores ≢ []
    some-live none =
        let nothing : carried_stores [] ≡ done ++ store ∷ rest = sym (ap carried_stores none) ∙ is in
        let sizes = ap length nothing ∙ length-append done (store ∷ rest) in
        absurd (omega (arith, sizes))

-- what is left at the end, and what was there at the start
pub all-added : (now : ℕ) (stores done : List Store) (place : ℕ) → length stores ≤ place
    → next now stores ≡ done ++ next now (drop place stores) → done ≡ next now stores
all-added now stores done place all it =
    sym (it ∙ (ap (λ l. done ++ next now l) (drop_of_length-le stores all) ∙ append-nil done))

-- an entry of a list is the store at its place
module _ (entries : List Entry) (stores : List Store) (view : stores_in entries ≡ stores) (place : ℕ) (within : place < length stores)
    (entry : Entry) (read : entry ≡ get_or entries place entry) where
  pub low-there : place < length entries
  low-there = let sizes = length-map entries store_in in let same = ap length view in omega (arith, within, sizes, same)

  pub stored-there : (d : Store) → get_or stores place d ≡ store_in entry
  stored-there d =
      ap (λ l. get_or l place d) (sym view) ∙ (get_or-map store_in entries place entry d low-there ∙ ap store_in (sym read))

  pub rest-there : drop place stores ≡ store_in entry ∷ drop (place + 1) stores
  rest-there =
      drop_more stores place (store_in entry) within ∙ ap (λ s. s ∷ drop (place + 1) stores) (stored-there (store_in entry))

  pub sound-again : (groups : ℕ) → IsHistory groups stores → (again : Entry) → offer_in again ≡ offer_in entry → IsSound (store_in again)
  sound-again groups history again is =
      let S : Offer → Type 0 = λ offer. IsSound (own_store offer) in
      subst S (sym is) (subst IsSound (stored-there (store_in entry))
      (All-get_or IsSound stores place (store_in entry) within history.sound))

  module _ (now : ℕ) (done : List Store) (before : next now stores ≡ done ++ next now (drop place stores)) where
    begun : next now stores ≡ done ++ next now (store_in entry ∷ drop (place + 1) stores)
    begun = before ∙ ap (λ l. done ++ next now l) rest-there

    pub leaves-it-dead : lives_at now (unseated (store_in entry)) ≡ false → next now stores ≡ done ++ next now (drop (place + 1) stores)
    leaves-it-dead dead = begun ∙ ap (λ l. done ++ l) (leaves-dead now (store_in entry) (drop (place + 1) stores) dead)

    pub leaves-it-older : has_question entry.question (drop (place + 1) stores) ≡ true
        → next now stores ≡ done ++ next now (drop (place + 1) stores)
    leaves-it-older again = begun ∙ ap (λ l. done ++ l) (leaves-older now (store_in entry) (drop (place + 1) stores) again)

    module _ (last : has_question entry.question (drop (place + 1) stores) ≡ false)
        (lives : lives_at now (unseated (store_in entry)) ≡ true) where
      pub takes-it : next now stores ≡ done ++ store_in entry ∷ next now (drop (place + 1) stores)
      takes-it = begun ∙ ap (λ l. done ++ l) (takes-last now (store_in entry) (drop (place + 1) stores) last lives)

      pub room-for-it : (groups : ℕ) → IsHistory groups stores
          → ((group_limit ≤ length (in_group groups (group_in groups entry.question) done)) → ⊥)
      room-for-it = room-for now stores done (store_in entry) (next now (drop (place + 1) stores)) takes-it

      pub some-live-then : living_of now stores ≢ []
      some-live-then = some-live now stores done (store_in entry) (next now (drop (place + 1) stores)) takes-it

      pub added-then : (new : List Store) (again : Entry) → offer_in again ≡ offer_in entry → new ≡ done ++ store_in again ∷ []
          → next now stores ≡ new ++ next now (drop (place + 1) stores)
      added-then new again same more =
          let it : store_in again ≡ store_in entry = ap own_store same in
          takes-it ∙ sym (ap (λ l. l ++ next now (drop (place + 1) stores)) (more ∙ ap (λ s. done ++ s ∷ []) it)
          ∙ append_assoc done (store_in entry ∷ []) (next now (drop (place + 1) stores)))
