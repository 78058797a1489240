-- The marks of a group are searched from the back for the last store of a question.
use Rattle.std.proofs.Common.{◌≡◌, ◌↔◌, ℕ, ◌+◌, ◌-◌, ◌<◌, ◌≤◌, ◌==◌, Bool, true, false, IsTrue, List, [], ◌∷◌, ◌++◌, length}
use Rattle.std.proofs.Common.{Option, Some, None, get_or, take, drop, refl, sym, ap, ◌∙◌, arith}
use Rattle.std.specs.List.{last_or}
use Rattle.std.proofs.lemmas.Bool.{eq-eqb}
use Rattle.std.proofs.lemmas.List.{append-nil, append_assoc, get_or-map, length-append, length-map, length-take-le, map-append, take_more}
use Rattle.std.proofs.lemmas.List.Elements.{filter-append}
use Rattle.std.proofs.Math.Seq.{get_or-append_seam, take-length}
use Rattle.dns_message.specs.Questions.{same_question}
use Rattle.dns_message.specs.declared.question.Question.{Question}
use Rattle.answer_log.specs.Groups.{group_in, hash_of, hashed_of}
use Rattle.answer_log.specs.Histories.{stores_of}
use Rattle.answer_log.specs.declared.store.Store.{Store}
use Rattle.answer_cache.specs.Carried.{has_question}
use Rattle.answer_cache.specs.Marks.{IsLastAt, IsLastPlace, mark_of, marks_from, marks_of, store_in, stores_in}
use Rattle.answer_cache.specs.declared.carried.Entry.{Entry}
use Rattle.answer_cache.specs.declared.store_list.Mark.{Mark}
use Rattle.answer_cache.proofs.CarriedAnswers.{none-of-it}
use Rattle.answer_cache.proofs.Indexing.{other-hash}

-- a list is searched from its end
pub last-item : {X : Type 0} (items : List X) (d : X) → 1 ≤ length items
    → items ≡ take (length items - 1) items ++ get_or items (length items - 1) d ∷ []
last-item items d some =
    let n : length items - 1 + 1 ≡ length items = omega arith in
    let low : length items - 1 < length items = omega arith in
    sym (take-length items) ∙ (ap (λ k. take k items) (sym n) ∙ take_more items (length items - 1) d low)

pub fewer : {X : Type 0} (items : List X) (most : ℕ) → length items ≤ most → length (take (length items - 1) items) ≤ most
fewer items most few =
    let low : length items - 1 ≤ length items = omega arith in
    let n = length-take-le (length items - 1) items low in omega arith

-- What is left to search: none of the entries behind those whose marks are left is of the question.
pub record IsLeft (groups : ℕ) (question : Question) (entries : List Entry) (left : List Mark) : Type 0 where
  pub front : List Entry
  pub rest : List Entry
  pub whole : entries ≡ front ++ rest
  pub marks : left ≡ marks_of groups (group_in groups question) front
  pub none : has_question question (stores_in rest) ≡ false

pub begins : (groups : ℕ) (question : Question) (entries : List Entry) (left : List Mark)
    → left ≡ marks_of groups (group_in groups question) entries → IsLeft groups question entries left
begins groups question entries left is = record { front = entries; rest = []; whole = sym (append-nil entries); marks = is; none = refl }

-- The entry of the last mark that is left. Behind it none is of the question.
pub record Stop (groups : ℕ) (question : Question) (entries : List Entry) (before : List Mark) (mark : Mark) : Type 0 where
  pub front : List Entry
  pub entry : Entry
  pub back : List Entry
  pub whole : entries ≡ front ++ entry ∷ back
  pub place_is : mark.place ≡ length front
  pub hash_is : mark.hash ≡ hash_of (hashed_of entry.question)
  pub marks : before ≡ marks_of groups (group_in groups question) front
  pub none : has_question question (stores_in back) ≡ false

-- The entry of the last mark of a group: behind it none is of the group.
record LastMark (groups group first : ℕ) (entries : List Entry) (before : List Mark) (mark : Mark) : Type 0 where
  pub front : List Entry
  pub entry : Entry
  pub back : List Entry
  pub split : entries ≡ front ++ entry ∷ back
  pub before_is : before ≡ marks_from groups group first front
  pub place_is : mark.place ≡ first + length front
  pub hash_is : mark.hash ≡ hash_of (hashed_of entry.question)
  pub next : ℕ
  pub alone : marks_from groups group next back ≡ []

abbrev head-or : Mark → List Mark → Mark
head-or d [] = d
head-or d (m ∷ ms) = m

same-head : (a b : Mark) (more other : List Mark) → a ∷ more ≡ b ∷ other → a ≡ b
same-head a b more other e = ap (head-or a) e

same-tail : (a b : Mark) (more other : List Mark) → a ∷ more ≡ b ∷ other → more ≡ other
same-tail a b more other e = ap (drop 1) e

last-mark : (groups group first : ℕ) (entries : List Entry) (before : List Mark) (mark : Mark)
    → marks_from groups group first entries ≡ before ++ mark ∷ [] → LastMark groups group first entries before mark
last-mark groups group first [] [] mark e = absurd cc
last-mark groups group first [] (m ∷ ms) mark e = absurd cc
last-mark groups group first (entry ∷ entries) before mark e =
    by-test (group_in groups entry.question == group) refl (λ b r. last-mark groups group (first + 1) entries b mark r)
  where
    by-before : (b : List Mark) → (group_in groups entry.question == group) ≡ true
        → ((b : List Mark) → marks_from groups group (first + 1) entries ≡ b ++ mark ∷ [] → LastMark groups group (first + 1) entries b mark)
        → mark_of (first, entry) ∷ marks_from groups group (first + 1) entries ≡ b ++ mark ∷ []
        → LastMark groups group first (entry ∷ entries) b mark
    by-before [] is goes r =
        let m = same-head (mark_of (first, entry)) mark (marks_from groups group (first + 1) entries) [] r in record {
          front = [];
          entry = entry;
          back = entries;
          split = refl;
          before_is = refl;
          place_is = let p = ap (λ (it : Mark). it.place) m in omega (arith, p);
          hash_is = sym (ap (λ (it : Mark). it.hash) m);
          next = first + 1;
          alone = same-tail (mark_of (first, entry)) mark (marks_from groups group (first + 1) entries) [] r;
        }
    by-before (m ∷ ms) is goes r =
        let here = same-head (mark_of (first, entry)) m (marks_from groups group (first + 1) entries) (ms ++ mark ∷ []) r in
        let more = goes ms (same-tail (mark_of (first, entry)) m (marks_from groups group (first + 1) entries) (ms ++ mark ∷ []) r) in record {
          front = entry ∷ more.front;
          entry = more.entry;
          back = more.back;
          split = ap (λ l. entry ∷ l) more.split;
          before_is = rw is (λ i. sym here i ∷ more.before_is i);
          place_is = let p = more.place_is in omega (arith, p);
          hash_is = more.hash_is;
          next = more.next;
          alone = more.alone;
        }

    by-test : (is : Bool) → (group_in groups entry.question == group) ≡ is
        → ((b : List Mark) → marks_from groups group (first + 1) entries ≡ b ++ mark ∷ [] → LastMark groups group (first + 1) entries b mark)
        → LastMark groups group first (entry ∷ entries) before mark
    by-test true is goes = by-before before is goes (rw is at e)
    by-test false is goes =
        let more = goes before (rw is at e) in record {
          front = entry ∷ more.front;
          entry = more.entry;
          back = more.back;
          split = ap (λ l. entry ∷ l) more.split;
          before_is = rw is more.before_is;
          place_is = let p = more.place_is in omega (arith, p);
          hash_is = more.hash_is;
          next = more.next;
          alone = more.alone;
        }

module _ (question : Question) where
  -- none of these and none of those
  none-both : (one other : List Entry) → has_question question (stores_in one) ≡ false → has_question question (stores_in other) ≡ false
      → has_question question (stores_in (one ++ other)) ≡ false
  none-both [] other a b = b
  none-both (entry ∷ one) other a b = by-test (same_question entry.question question) refl (λ r. none-both one other r b)
    where
      by-test : (is : Bool) → same_question entry.question question ≡ is
          → (has_question question (stores_in one) ≡ false → has_question question (stores_in (one ++ other)) ≡ false)
          → has_question question (stores_in (entry ∷ one ++ other)) ≡ false
      by-test true is more = let wrong : true ≡ false = rw is at a in absurd cc
      by-test false is more = rw is (more (rw is at a))

  none-more : (entry : Entry) (entries : List Entry) → same_question entry.question question ≡ false
      → has_question question (stores_in entries) ≡ false → has_question question (stores_in (entry ∷ entries)) ≡ false
  none-more entry entries not none = rw not none

  -- the last store of a question, where its place is
  last-stored : (front back : List Store) (store : Store) → same_question store.question question ≡ true
      → has_question question back ≡ false
      → last_or None (stores_of question (front ++ store ∷ back)) ≡ Some store
  last-stored front back store asked last =
      rw (filter-append (λ it. same_question it.question question) front (store ∷ back), asked, none-of-it question back last)
      (last-append None (stores_of question front))
    where
      last-append : (o : Option Store) (stores : List Store) → last_or o (stores ++ store ∷ []) ≡ Some store
      last-append o [] = refl
      last-append o (s ∷ ss) = last-append (Some s) ss

  module _ (entries : List Entry) (place : ℕ) (it : IsLastAt question (stores_in entries) place) where
    pub has-place : place < length entries
    has-place =
        let all = length-append it.front (it.store ∷ it.back) in
        let sizes = length-map entries store_in in
        let same = ap length it.split in
        let here = it.place_is in omega (arith, all, sizes, same, here)

    pub last-there : (entry : Entry) → entry ≡ get_or entries place entry
        → last_or None (stores_of question (stores_in entries)) ≡ Some (store_in entry)
    last-there entry read =
        let there : store_in entry ≡ it.store =
        ap store_in read
        ∙ (sym (get_or-map store_in entries place entry (store_in entry) has-place)
        ∙ (ap (λ l. get_or l place (store_in entry)) it.split
        ∙ (ap (λ k. get_or (it.front ++ it.store ∷ it.back) k (store_in entry)) it.place_is
        ∙ get_or-append_seam it.front it.store it.back (store_in entry)))) in
        ap (λ l. last_or None (stores_of question l)) it.split
        ∙ (last-stored it.front it.back it.store it.asked it.last ∙ ap Some (sym there))

  pub none-there : (stores : List Store) → has_question question stores ≡ false → last_or None (stores_of question stores) ≡ None
  none-there stores none = rw (none-of-it question stores none) refl

module _ (groups : ℕ) (same : (question other : Question) → IsTrue (same_question question other) ↔ (question ≡ other))
    (question : Question) where
  -- entries outside the group of a question are not of it
  none-grouped : (first : ℕ) (entries : List Entry) → marks_from groups (group_in groups question) first entries ≡ []
      → has_question question (stores_in entries) ≡ false
  none-grouped first [] e = refl
  none-grouped first (entry ∷ entries) e =
      by-test _ refl _ refl (none-grouped (first + 1) entries)
    where
      by-test : (grouped : Bool) → (group_in groups entry.question == group_in groups question) ≡ grouped
          → (asked : Bool) → same_question entry.question question ≡ asked
          → (marks_from groups (group_in groups question) (first + 1) entries ≡ [] → has_question question (stores_in entries) ≡ false)
          → has_question question (stores_in (entry ∷ entries)) ≡ false
      by-test true g asked a more =
          let wrong : mark_of (first, entry) ∷ marks_from groups (group_in groups question) (first + 1) entries ≡ [] = rw g at e in absurd cc
      by-test false g true a more =
          let is : entry.question ≡ question = (same entry.question question).0 a in
          let g' : true ≡ false = sym (eq-eqb (group_in groups question) (group_in groups question) refl) ∙ rw is at g in absurd cc
      by-test false g false a more = rw a (more (rw g at e))

  pub ends : (entries : List Entry) (left : List Mark) → IsLeft groups question entries left → left ≡ []
      → IsLastPlace question (stores_in entries) None
  ends entries left it is =
      let front = none-grouped 0 it.front (sym it.marks ∙ is) in
      rw it.whole (none-both question it.front it.rest front it.none)

  -- a step of the search, to the last mark that is left
  stop-by : (entries front rest : List Entry) (before : List Mark) (mark : Mark) → entries ≡ front ++ rest
      → has_question question (stores_in rest) ≡ false → LastMark groups (group_in groups question) 0 front before mark
      → Stop groups question entries before mark
  stop-by entries front rest before mark whole none last = record {
    front = last.front;
    entry = last.entry;
    back = last.back ++ rest;
    whole = whole ∙ (ap (λ l. l ++ rest) last.split ∙ append_assoc last.front (last.entry ∷ last.back) rest);
    place_is = let here = last.place_is in omega (arith, here);
    hash_is = last.hash_is;
    marks = last.before_is;
    none = none-both question last.back rest (none-grouped last.next last.back last.alone) none;
  }

  pub stop : (entries : List Entry) (left before : List Mark) (mark : Mark) → IsLeft groups question entries left → left ≡ before ++ mark ∷ []
      → Stop groups question entries before mark
  stop entries left before mark it split =
      stop-by entries it.front it.rest before mark it.whole it.none
      (last-mark groups (group_in groups question) 0 it.front before mark (sym it.marks ∙ split))

  module _ (entries : List Entry) (before : List Mark) (mark : Mark) (it : Stop groups question entries before mark) where
    pub within : mark.place < length entries
    within =
        let sizes = length-append it.front (it.entry ∷ it.back) in
        let all = ap length it.whole in let here = it.place_is in omega (arith, sizes, all, here)

    goes-on : same_question it.entry.question question ≡ false → IsLeft groups question entries before
    goes-on not = record {
      front = it.front;
      rest = it.entry ∷ it.back;
      whole = it.whole;
      marks = it.marks;
      none = none-more question it.entry it.back not it.none;
    }

    -- its entry is of another question, where the hash is another one
    pub passes-hash : ((mark.hash ≡ hash_of (hashed_of question)) → ⊥) → IsLeft groups question entries before
    passes-hash other = goes-on (other-hash same it.entry.question question _ refl (λ e. other (it.hash_is ∙ e)))

    module _ (entry : Entry) (read : entry ≡ get_or entries mark.place entry) where
      entry-is : it.entry ≡ entry
      entry-is = sym (read ∙ ap (λ l. get_or l mark.place entry) it.whole
          ∙ ap (λ k. get_or (it.front ++ it.entry ∷ it.back) k entry) it.place_is
          ∙ get_or-append_seam it.front it.entry it.back entry)

      pub passes-entry : same_question entry.question question ≡ false → IsLeft groups question entries before
      passes-entry not = goes-on (rw entry-is not)

      pub finds : same_question entry.question question ≡ true → IsLastAt question (stores_in entries) mark.place
      finds asked = record {
        front = stores_in it.front;
        store = store_in it.entry;
        back = stores_in it.back;
        split = ap stores_in it.whole ∙ map-append store_in it.front (it.entry ∷ it.back);
        place_is = it.place_is ∙ sym (length-map it.front store_in);
        asked = rw entry-is asked;
        last = it.none;
      }
