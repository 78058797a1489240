-- A walk that gathers the last stores of their questions, and groups that are carried one after the other.
use Rattle.std.proofs.Common.{◌≡◌, ◌≢◌, ◌↔◌, ◌+◌, ◌<◌, ◌≤◌, ◌==◌, ◌||◌, ℕ, zero, suc, Bool, true, false, IsTrue, List, [], ◌∷◌, ◌++◌, length, map, refl, ap}
use Rattle.std.proofs.Common.{sym, subst, ◌∙◌, arith, reverse, append_assoc, Ok, Err, OnErr, OnOk}
use Rattle.std.specs.declared.result.Result.{Result}
use Rattle.std.proofs.lemmas.Bool.{eqb-true, eqb-false, eq-eqb, ne_eqb}
use Rattle.std.proofs.lemmas.Grind.{flat_map-append}
use Rattle.std.proofs.lemmas.List.{append-nil, length-append, length-map, map-append, nil_from_length, reverse-append, reverse-reverse}
use Rattle.std.proofs.lemmas.List.Folds.{list_any-append}
use Rattle.std.specs.List.{flat_map, list_any, range_with_len}
use mathlib.Core.List.{IsPrefix}
use Rattle.dns_message.specs.Questions.{same_question}
use Rattle.dns_message.specs.declared.question.Question.{Question}
use Rattle.logbook.specs.Pages.{Book}
use Rattle.answer_log.specs.Handles.{SeesMore}
use Rattle.answer_log.specs.Groups.{group_limit}
use Rattle.answer_log.specs.Histories.{IsHistory, in_group}
use Rattle.answer_log.specs.Logs.{groups_in, history}
use Rattle.answer_log.specs.declared.event.Event.{Event}
use Rattle.answer_log.specs.declared.handle.Handle.{Handle}
use Rattle.answer_cache.specs.Nodes.{Holds}
use Rattle.answer_log.specs.Cursors.{Ahead}
use Rattle.answer_log.specs.declared.store.Store.{Store}
use Rattle.answer_log.specs.declared.cursor.Cursor.{Cursor}
use Rattle.answer_cache.specs.Carried.{IsCarriedOf, has_question, last_stores, living_of, unseated}
use Rattle.answer_cache.specs.Seats.{Offer}

abbrev pub asks : Question → Offer → Bool
asks question offer = same_question offer.question question

any-seen : {X : Type 0} (p : Offer → Bool) (f : X → Offer) (xs : List X) → list_any (λ x. p (f x)) xs ≡ list_any p (map f xs)
any-seen p f [] = refl
any-seen p f (x ∷ xs) = ap (λ b. p (f x) || b) (any-seen p f xs)

any-turned : (p : Offer → Bool) (xs : List Offer) → list_any p (reverse xs) ≡ list_any p xs
any-turned p [] = refl
any-turned p (x ∷ xs) =
    ap (list_any p) (reverse-append (x ∷ []) xs)
    ∙ (list_any-append p (reverse xs) (x ∷ []) ∙ by-test (p x) (list_any p xs) (list_any p (reverse xs)) (any-turned p xs))
  where
    by-test : (here rest turned : Bool) → turned ≡ rest → (turned || (here || false)) ≡ (here || rest)
    by-test true rest true e = refl
    by-test true rest false e = refl
    by-test false rest true e = e
    by-test false rest false e = e

any-stores : (question : Question) (stores : List Store) → list_any (asks question) (map unseated stores) ≡ has_question question stores
any-stores question [] = refl
any-stores question (store ∷ stores) = ap (λ b. same_question store.question question || b) (any-stores question stores)

module _ (same : (question other : Question) → IsTrue (same_question question other) ↔ (question ≡ other)) where
  has-by : (question : Question) (store : Store) (later : List Store) (is : Bool) → has_question store.question later ≡ is
      → (asked : Bool) → same_question store.question question ≡ asked
      → has_question question (last_stores later) ≡ has_question question later
      → has_question question (last_stores (store ∷ later)) ≡ has_question question (store ∷ later)
  has-by question store later true is true asked more =
      let q : store.question ≡ question = (same store.question question).0 asked in
      rw (is, asked) (more ∙ rw q at is)
  has-by question store later true is false asked more = rw (is, asked) more
  has-by question store later false is true asked more = rw (is, asked) refl
  has-by question store later false is false asked more = rw (is, asked) more

  -- whether a question was met can be told from the last stores
  has-lasts : (question : Question) (stores : List Store) → has_question question (last_stores stores) ≡ has_question question stores
  has-lasts question [] = refl
  has-lasts question (store ∷ later) = has-by question store later _ refl _ refl (has-lasts question later)

  -- what was gathered tells whether a question was met
  pub was-met : {X : Type 0} (f : X → Offer) (met : List X) (done : List Store) (question : Question)
      → map f met ≡ reverse (map unseated (last_stores done))
      → list_any (λ x. asks question (f x)) met ≡ has_question question done
  was-met f met done question is =
      any-seen (asks question) f met
      ∙ (ap (list_any (asks question)) is
      ∙ (any-turned (asks question) (map unseated (last_stores done))
      ∙ (any-stores question (last_stores done) ∙ has-lasts question done)))

-- what was gathered on a walk along these stores after so many links
pub record Gathers (whole : List Store) (cursor : Cursor) (links : ℕ) (offers : List Offer) : Type 0 where
  pub left : List Store
  pub done : List Store
  pub split : whole ≡ left ++ done
  pub ahead : Ahead cursor left
  pub size : length done ≡ links
  pub met : offers ≡ reverse (map unseated (last_stores done))

pub gathers-none : (whole : List Store) (cursor : Cursor) → Ahead cursor whole → Gathers whole cursor 0 []
gathers-none whole cursor ahead = record {
  left = whole;
  done = [];
  split = sym (append-nil whole);
  ahead = ahead;
  size = refl;
  met = refl;
}

module _ (whole : List Store) (cursor : Cursor) (links : ℕ) (offers : List Offer) (it : Gathers whole cursor links offers) where
  -- at the end all were met
  pub gathered : it.left ≡ [] → offers ≡ reverse (map unseated (last_stores whole))
  gathered none = it.met ∙ ap (λ stores. reverse (map unseated (last_stores stores))) (sym (it.split ∙ ap (λ l. l ++ it.done) none))

  pub runs-out : length whole ≤ links → it.left ≡ []
  runs-out few =
      let sizes = ap length it.split ∙ length-append it.left it.done in
      let size = it.size in
      nil_from_length it.left (omega arith)

  pub some-left : (rest : List Store) (store : Store) → it.left ≡ rest ++ store ∷ [] → whole ≢ []
  some-left rest store is none =
      let sizes = ap length it.split ∙ length-append it.left it.done in
      let more = ap length is ∙ length-append rest (store ∷ []) in
      let zero-is = ap length none in
      absurd (omega arith)

  split-on : (rest : List Store) (store : Store) → it.left ≡ rest ++ store ∷ [] → whole ≡ rest ++ store ∷ it.done
  split-on rest store is = it.split ∙ (ap (λ l. l ++ it.done) is ∙ append_assoc rest (store ∷ []) it.done)

  -- one more, whose question was met
  pub gathers-met : (rest : List Store) (store : Store) (new : Cursor) → it.left ≡ rest ++ store ∷ [] → Ahead new rest
      → has_question store.question it.done ≡ true → Gathers whole new (links + 1) offers
  gathers-met rest store new is ahead met = record {
    left = rest;
    done = store ∷ it.done;
    split = split-on rest store is;
    ahead = ahead;
    size = let size = it.size in omega arith;
    met = rw met it.met;
  }

  -- one more, whose question was not met
  pub gathers-new : (rest : List Store) (store : Store) (new : Cursor) → it.left ≡ rest ++ store ∷ [] → Ahead new rest
      → has_question store.question it.done ≡ false → Gathers whole new (links + 1) (offers ++ unseated store ∷ [])
  gathers-new rest store new is ahead none = record {
    left = rest;
    done = store ∷ it.done;
    split = split-on rest store is;
    ahead = ahead;
    size = let size = it.size in omega arith;
    met = rw none (ap (λ l. l ++ unseated store ∷ []) it.met
        ∙ sym (reverse-append (unseated store ∷ []) (map unseated (last_stores it.done))));
  }

pub on-err : {A E : Type 0} (result : Result A E) (P : Type 0) → P → OnErr result P
on-err (Ok value) P is = tt
on-err (Err error) P is = is

pub turn-ok : {A E : Type 0} (result : Result A E) (P Q : Type 0) → (P → Q) → OnOk result P → OnOk result Q
turn-ok (Ok value) P Q turn is = turn is
turn-ok (Err error) P Q turn is = tt

pub turn-err : {A E : Type 0} (result : Result A E) (P Q : Type 0) → (P → Q) → OnErr result P → OnErr result Q
turn-err (Ok value) P Q turn is = tt
turn-err (Err error) P Q turn is = turn is

map-turned : {X : Type 0} (f : X → Offer) (xs : List X) → map f (reverse xs) ≡ reverse (map f xs)
map-turned f [] = refl
map-turned f (x ∷ xs) =
    ap (map f) (reverse-append (x ∷ []) xs)
    ∙ (map-append f (reverse xs) (x ∷ [])
    ∙ (ap (λ l. l ++ f x ∷ []) (map-turned f xs) ∙ sym (reverse-append (f x ∷ []) (map f xs))))

-- what was gathered, the oldest first
pub turned-lasts : {X : Type 0} (f : X → Offer) (nodes turned : List X) (offers : List Offer) → turned ≡ reverse nodes
    → map f nodes ≡ reverse offers → map f turned ≡ offers
turned-lasts f nodes turned offers is said =
    ap (map f) is ∙ (map-turned f nodes ∙ (ap reverse said ∙ reverse-reverse offers))

-- where something was gathered there are stores
pub from-group : (groups group : ℕ) (stores : List Store) → in_group groups group stores ≢ [] → stores ≢ []
from-group groups group stores some none = some (ap (in_group groups group) none)

pub from-nodes : {X : Type 0} (f : X → Offer) (turned : List X) (groups group : ℕ) (stores : List Store)
    → map f turned ≡ map unseated (last_stores (in_group groups group stores)) → turned ≢ [] → stores ≢ []
from-nodes f turned groups group stores said some none =
    let empty : map f turned ≡ [] = said ∙ ap (λ l. map unseated (last_stores (in_group groups group l))) none in
    let size = ap length empty in
    let same = length-map turned f in
    some (nil_from_length turned (omega arith))

-- no group of a log that was seen has too many stores
pub few-in : (groups group : ℕ) (log same : List Event) → IsHistory (groups_in log) (history log) → log ≡ same → groups_in same ≡ groups
    → length (in_group groups group (history same)) ≤ group_limit
few-in groups group log same kept is on =
    let F : ℕ → List Event → Type 0 = λ so events. length (in_group so group (history events)) ≤ group_limit in
    let L : List Event → Type 0 = λ events. F (groups_in events) events in
    let G : ℕ → Type 0 = λ so. F so same in
    subst G on (subst L is (kept.few group))

-- what holds of a hand goes on
pub holds-on : (book : Book) (old mid new : Handle) → Holds book old mid → Holds book mid new → Holds book old new
holds-on book old mid new one two = record {
  handle = two.handle;
  number = two.number ∙ one.number;
  seats = two.seats ∙ one.seats;
  groups = two.groups ∙ one.groups;
  same = two.same;
  names = two.names ∙ one.names;
}

pub sees-same : (seat : ℕ) (log : List Event) → SeesMore seat log log
sees-same seat log = record {
  later = ([], append-nil log);
  stores = ([], append-nil (history log));
  own = refl;
  names = λ book node store word it. it;
}

-- the histories of the first groups, and then another one
abbrev choose : Bool → List Store → List Store → List Store
choose true last others = last
choose false last others = others

agree : (f g : ℕ → List Offer) (from size : ℕ) → ((k : ℕ) → k < from + size → f k ≡ g k)
    → flat_map f (range_with_len from size) ≡ flat_map g (range_with_len from size)
agree f g from zero same = refl
agree f g from (suc size) same =
    let here : f from ≡ g from = same from (omega arith) in
    let rest = agree f g (from + 1) size (λ k low. same k (omega arith)) in
    λ i. here i ++ rest i

range-next : (from size : ℕ) → range_with_len from (suc size) ≡ range_with_len from size ++ (from + size) ∷ []
range-next from zero = let same : from ≡ from + 0 = omega arith in ap (λ n. n ∷ []) same
range-next from (suc size) =
    let same : (from + 1) + size ≡ from + suc size = omega arith in
    ap (λ rest. from ∷ rest) (range-next (from + 1) size ∙ ap (λ n. range_with_len (from + 1) size ++ n ∷ []) same)

on-from : (old mid new : List Store) → IsPrefix old mid → IsPrefix mid new → IsPrefix old new
on-from old mid new p q = (p.0 ++ q.0, sym (append_assoc old p.0 q.0) ∙ (ap (λ l. l ++ q.0) p.1 ∙ q.1))

pub carried-none : (total : ℕ) (before after : List Store) (now : ℕ) → IsCarriedOf total 0 before after now []
carried-none total before after now = record {
  history = λ group. before;
  from = λ group low. absurd (omega arith);
  next = λ group low. absurd (omega arith);
  till = λ group low. absurd (omega arith);
  all = refl;
}

-- one group more
pub carried-more : (total groups : ℕ) (before mid after : List Store) (now : ℕ) (old : List Offer) → IsPrefix before mid → IsPrefix mid after
    → IsCarriedOf total groups before mid now old
    → IsCarriedOf total (groups + 1) before after now (old ++ living_of now (in_group total groups after))
carried-more total groups before mid after now old first later it = record {
  history = chosen;
  from = λ group low. from-by group low (group == groups) refl;
  next = λ group low. next-by group low (group == groups) refl ((group + 1) == groups) refl;
  till = λ group low. till-by group low (group == groups) refl;
  all = all;
}
  where
    chosen : ℕ → List Store
    chosen group = choose (group == groups) after (it.history group)

    part : ℕ → List Offer
    part group = living_of now (in_group total group (chosen group))

    old-part : ℕ → List Offer
    old-part group = living_of now (in_group total group (it.history group))

    from-by : (group : ℕ) → group < groups + 1 → (is : Bool) → (group == groups) ≡ is → IsPrefix before (choose is after (it.history group))
    from-by group low true is = on-from before mid after first later
    from-by group low false is = let other = eqb-false group groups is in it.from group (omega (arith, other))

    till-by : (group : ℕ) → group < groups + 1 → (is : Bool) → (group == groups) ≡ is → IsPrefix (choose is after (it.history group)) after
    till-by group low true is = ([], append-nil after)
    till-by group low false is =
        let other = eqb-false group groups is in
        on-from (it.history group) mid after (it.till group (omega (arith, other))) later

    next-by : (group : ℕ) → group + 1 < groups + 1 → (is : Bool) → (group == groups) ≡ is → (then : Bool) → ((group + 1) == groups) ≡ then
        → IsPrefix (choose is after (it.history group)) (choose then after (it.history (group + 1)))
    next-by group low true is then at = let same = eqb-true group groups is in absurd (omega (arith, same))
    next-by group low false is true at = on-from (it.history group) mid after (it.till group (omega arith)) later
    next-by group low false is false at = let other = eqb-false (group + 1) groups at in it.next group (omega (arith, other))

    same-part : (k : ℕ) → k < 0 + groups → part k ≡ old-part k
    same-part k low =
        let other : (k == groups) ≡ false = ne_eqb k groups (λ e. absurd (omega (arith, e))) in
        ap (λ b. living_of now (in_group total k (choose b after (it.history k)))) other

    last-part : part (0 + groups) ≡ living_of now (in_group total groups after)
    last-part =
        let at : 0 + groups ≡ groups = omega arith in
        ap part at ∙ ap (λ b. living_of now (in_group total groups (choose b after (it.history groups)))) (eq-eqb groups groups refl)

    all : old ++ living_of now (in_group total groups after) ≡ flat_map part (range_with_len 0 (groups + 1))
    all =
        let size : groups + 1 ≡ suc groups = omega arith in
        sym (ap (λ n. flat_map part (range_with_len 0 n)) size
        ∙ (ap (flat_map part) (range-next 0 groups)
        ∙ (flat_map-append part (range_with_len 0 groups) ((0 + groups) ∷ [])
        ∙ (ap (λ l. flat_map part (range_with_len 0 groups) ++ l) (append-nil (part (0 + groups)) ∙ last-part)
        ∙ ap (λ l. l ++ living_of now (in_group total groups after)) (agree part old-part 0 groups same-part ∙ sym it.all)))))
