-- What an index tells, as its log grows and nodes are added.
use Rattle.std.proofs.Common.{◌≡◌, ◌↔◌, ℕ, ◌+◌, ◌≤◌, inl, inr, Bool, true, false, IsTrue, List, [], ◌∷◌, ◌++◌, length, Option, Some, None}
use Rattle.std.proofs.Common.{IfOk, Result, Ok, Err, if◌then◌else◌, ◌-◌, ◌<◌, get_or, refl, sym, ap, ◌∙◌, subst, append_assoc, arith, take}
use Rattle.std.proofs.lemmas.List.{length-append, length-take-le, take_more}
use Rattle.std.proofs.Math.Seq.{take-length}
use Rattle.std.specs.List.{last_or}
use mathlib.Core.List.{IsPrefix}
use Rattle.dns_message.specs.Questions.{same_question}
use Rattle.dns_message.specs.declared.question.Question.{Question}
use Rattle.answer_log.specs.Groups.{hash_of, hashed_of}
use Rattle.answer_log.specs.Handles.{IsLog, IsPlaced}
use Rattle.answer_log.specs.Histories.{in_group, stores_of}
use Rattle.answer_log.specs.Logs.{In, groups_in, history, top}
use Rattle.answer_log.specs.Cursors.{Ahead}
use Rattle.answer_log.specs.declared.event.Event.{Event}
use Rattle.answer_log.specs.declared.event.Event.TheVariants.{Placed}
use Rattle.answer_log.specs.declared.store.Store.{Store}
use Rattle.answer_log.specs.declared.cursor.Cursor.{Cursor}
use Rattle.answer_cache.specs.Indexes.{IsIndex, Tells, TellsAll, top_from, top_of}
use Rattle.answer_cache.specs.Nodes.{IsLastOf}
use Rattle.answer_cache.specs.declared.node.Node.{Node}
use Rattle.answer_cache.specs.declared.index.Index.{Index}
use Rattle.answer_cache.specs.declared.index.IndexEntry.{IndexEntry}
use Rattle.answer_cache.proofs.Lookups.{last-before, last-here}
use Rattle.logbook.specs.Pages.{Book}

pub front_trans : {A : Type 0} (xs ys zs : List A) → IsPrefix xs ys → IsPrefix ys zs → IsPrefix xs zs
front_trans xs ys zs p q = (p.0 ++ q.0, sym (append_assoc xs p.0 q.0) ∙ (ap (λ w. w ++ q.0) p.1 ∙ q.1))

in-front : (e : Event) (xs ys : List Event) → In e xs → In e (xs ++ ys)
in-front e [] ys i = absurd i
in-front e (x ∷ xs) ys i = elim i [ inl p ↦ inl p | inr j ↦ inr (in-front e xs ys j) ]

-- what was placed stays so
placed-on : (old new : List Event) (node : ℕ) (store : Store) → IsPrefix old new → IsPlaced old node store → IsPlaced new node store
placed-on old new node store p it =
    let P : List Event → Type 0 = λ log. In (Placed node store it.0) log in
    (it.0, subst P p.1 (in-front (Placed node store it.0) old p.0 it.1))

pub tells-later : (old new : List Event) (entry : IndexEntry) (store : Store) → IsPrefix old new → Tells old entry store
    → Tells new entry store
tells-later old new entry store p it = record { placed = placed-on old new entry.node store p it.placed; hash = it.hash }

pub tells-on : (old new : List Event) (entries : List IndexEntry) (stores : List Store) → IsPrefix old new → TellsAll old entries stores
    → TellsAll new entries stores
tells-on old new [] [] p it = tt
tells-on old new [] (s ∷ ss) p it = absurd it
tells-on old new (e ∷ es) [] p it = absurd it
tells-on old new (e ∷ es) (s ∷ ss) p it = (tells-later old new e s p it.0, tells-on old new es ss p it.1)

pub tells-nothing : (log : List Event) (stores : List Store) → TellsAll log [] stores → stores ≡ []
tells-nothing log [] it = refl
tells-nothing log (s ∷ ss) it = absurd it

pub tells-more : (log : List Event) (entries : List IndexEntry) (stores : List Store) (entry : IndexEntry) (store : Store)
    → TellsAll log entries stores → Tells log entry store → TellsAll log (entries ++ entry ∷ []) (stores ++ store ∷ [])
tells-more log [] [] entry store it last = (last, tt)
tells-more log [] (s ∷ ss) entry store it last = absurd it
tells-more log (e ∷ es) [] entry store it last = absurd it
tells-more log (e ∷ es) (s ∷ ss) entry store it last = (it.0, tells-more log es ss entry store it.1 last)

-- the last of the entries, and the last of the stores that they tell
pub record LastTold (log : List Event) (front : List IndexEntry) (entry : IndexEntry) (stores : List Store) : Type 0 where
  pub before : List Store
  pub store : Store
  pub split : stores ≡ before ++ store ∷ []
  pub tells : TellsAll log front before
  pub last : Tells log entry store

pub last-told : (log : List Event) (front : List IndexEntry) (entry : IndexEntry) (stores : List Store)
    → TellsAll log (front ++ entry ∷ []) stores → LastTold log front entry stores
last-told log [] entry [] it = absurd it
last-told log [] entry (s ∷ []) it = record { before = []; store = s; split = refl; tells = tt; last = it.0 }
last-told log [] entry (s ∷ t ∷ ss) it = absurd it.1
last-told log (e ∷ front) entry [] it = absurd it
last-told log (e ∷ front) entry (s ∷ ss) it =
    let more = last-told log front entry ss it.1 in record {
      before = s ∷ more.before;
      store = more.store;
      split = ap (λ w. s ∷ w) more.split;
      tells = (it.0, more.tells);
      last = more.last;
    }

pub top-last : (n : ℕ) (front : List IndexEntry) (entry : IndexEntry) → top_from n (front ++ entry ∷ []) ≡ entry.node
top-last n [] entry = refl
top-last n (e ∷ front) entry = top-last e.node front entry

-- an index whose log has grown
pub index-on : (groups : ℕ) (book : Book) (old new : Index) → IsIndex groups book old → new.seen.book ≡ book
    → IsPrefix old.seen.log new.seen.log → new.entries.items ≡ old.entries.items → IsIndex groups book new
index-on groups book old new it same later kept =
    let T : List IndexEntry → Type 0 = λ entries. TellsAll new.seen.log entries (in_group groups it.group (history it.front)) in
    let whole = front_trans it.front old.seen.log new.seen.log (it.back, sym it.split) later in record {
      same = same;
      group = it.group;
      front = it.front;
      back = whole.0;
      split = sym whole.1;
      at = ap top_of kept ∙ it.at;
      tells = subst T (sym kept) (tells-on old.seen.log new.seen.log old.entries.items (in_group groups it.group (history it.front)) later
          it.tells);
    }

-- what is ahead of a walk is one list
pub ahead-one : (cursor : Cursor) (left other : List Store) → IsLog cursor.seen.log → Ahead cursor left → Ahead cursor other → left ≡ other
ahead-one cursor left other log it its =
    it.stores
    ∙ (log.tops it.front its.front it.group its.group (it.back, sym it.split) (its.back, sym its.split) (sym it.at ∙ its.at)
    ∙ sym its.stores)

-- where a walk has come to what an index tells
pub ahead-told : (groups : ℕ) (book : Book) (cursor : Cursor) (index : Index) (log : List Event) (left : List Store) → IsLog log
    → IsPrefix cursor.seen.log log → IsPrefix index.seen.log log → groups_in log ≡ groups → groups_in cursor.seen.log ≡ groups
    → IsIndex groups book index → Ahead cursor left → cursor.next ≡ top_of index.entries.items
    → TellsAll index.seen.log index.entries.items left
ahead-told groups book cursor index log left rule p q on there it ahead same =
    let T : List Store → Type 0 = λ stores. TellsAll index.seen.log index.entries.items stores in
    let O : ℕ → Type 0 = λ so. top so it.group it.front ≡ top so ahead.group ahead.front
    → in_group so it.group (history it.front) ≡ in_group so ahead.group (history ahead.front) in
    let one = subst O on (rule.tops it.front ahead.front it.group ahead.group
    (front_trans it.front index.seen.log log (it.back, sym it.split) q)
    (front_trans ahead.front cursor.seen.log log (ahead.back, sym ahead.split) p))
    (sym it.at ∙ (sym same ∙ (ahead.at ∙ ap (λ so. top so ahead.group ahead.front) there))) in
    subst T (one ∙ sym (ahead.stores ∙ ap (λ so. in_group so ahead.group (history ahead.front)) there)) it.tells

-- a node is added to an index that tells all before it
pub index-more : (groups : ℕ) (book : Book) (old new : Index) (cursor : Cursor) (rest left : List Store) (entry : IndexEntry) (store : Store)
    → groups_in cursor.seen.log ≡ groups → new.seen.book ≡ book → IsPrefix old.seen.log new.seen.log
    → IsPrefix cursor.seen.log new.seen.log
    → TellsAll old.seen.log old.entries.items rest → Tells new.seen.log entry store → left ≡ rest ++ store ∷ []
    → Ahead cursor left → cursor.next ≡ entry.node → new.entries.items ≡ old.entries.items ++ entry ∷ [] → IsIndex groups book new
index-more groups book old new cursor rest left entry store there same later p tells here split ahead at more =
    let T : List IndexEntry × List Store → Type 0 = λ it. TellsAll new.seen.log it.0 it.1 in
    let whole = front_trans ahead.front cursor.seen.log new.seen.log (ahead.back, sym ahead.split) p in
    let all : TellsAll new.seen.log (old.entries.items ++ entry ∷ []) (rest ++ store ∷ []) =
    tells-more new.seen.log old.entries.items rest entry store
    (tells-on old.seen.log new.seen.log old.entries.items rest later tells) here in
    record {
      same = same;
      group = ahead.group;
      front = ahead.front;
      back = whole.0;
      split = sym whole.1;
      at = ap top_of more ∙ (top-last 0 old.entries.items entry
          ∙ (sym at ∙ (ahead.at ∙ ap (λ so. top so ahead.group ahead.front) there)));
      tells = subst T (λ i. (sym more i, (sym split ∙ (ahead.stores ∙ ap (λ so. in_group so ahead.group (history ahead.front)) there)) i)) all;
    }

-- the same, where there may be no memory for the node
pub index-pushed : (groups : ℕ) (book : Book) (old new : Index) (cursor : Cursor) (rest left : List Store) (entry : IndexEntry) (store : Store)
    → (pushed : Bool) → new.entries.items ≡ (if pushed then old.entries.items ++ entry ∷ [] else old.entries.items)
    → IsIndex groups book old → groups_in cursor.seen.log ≡ groups → new.seen.book ≡ book
    → IsPrefix old.seen.log new.seen.log → IsPrefix cursor.seen.log new.seen.log
    → TellsAll old.seen.log old.entries.items rest → Tells new.seen.log entry store → left ≡ rest ++ store ∷ []
    → Ahead cursor left → cursor.next ≡ entry.node → IsIndex groups book new
index-pushed groups book old new cursor rest left entry store true more it there same later p tells here split ahead at =
    index-more groups book old new cursor rest left entry store there same later p tells here split ahead at more
index-pushed groups book old new cursor rest left entry store false kept it there same later p tells here split ahead at =
    index-on groups book old new it same later kept

-- one store less is ahead
pub shorter : (left rest : List Store) (store : Store) (n m : ℕ) → left ≡ rest ++ store ∷ [] → length left ≤ n → n ≡ m + 1 → length rest ≤ m
shorter left rest store n m split few same =
    let sizes = ap length split ∙ length-append rest (store ∷ []) in omega arith

-- the last store of a question among more stores
pub last-on : (question : Question) (left rest : List Store) (found : Option Node)
    → last_or None (stores_of question left) ≡ last_or None (stores_of question rest) → IsLastOf question rest found
    → IsLastOf question left found
last-on question left rest None same it = same ∙ it
last-on question left rest (Some node) same it = (it.0, same ∙ it.1)

-- stores whose hash is another one are of another question
pub other-hash : ((question other : Question) → IsTrue (same_question question other) ↔ (question ≡ other)) → (question other : Question)
    → (same : Bool) → same_question question other ≡ same
    → ((hash_of (hashed_of question) ≡ hash_of (hashed_of other)) → ⊥) → same_question question other ≡ false
other-hash law question other true is not =
    let equal : question ≡ other = (law question other).0 is in absurd (not (ap (λ (q : Question). hash_of (hashed_of q)) equal))
other-hash law question other false is not = is

-- an index is searched from its end
pub last-entry : (entries : List IndexEntry) (d : IndexEntry) → 1 ≤ length entries
    → entries ≡ take (length entries - 1) entries ++ get_or entries (length entries - 1) d ∷ []
last-entry entries d some =
    let n : length entries - 1 + 1 ≡ length entries = omega arith in
    let low : length entries - 1 < length entries = omega arith in
    sym (take-length entries) ∙ (ap (λ k. take k entries) (sym n) ∙ take_more entries (length entries - 1) d low)

pub fewer : (entries : List IndexEntry) (most : ℕ) → length entries ≤ most → length (take (length entries - 1) entries) ≤ most
fewer entries most few =
    let low : length entries - 1 ≤ length entries = omega arith in
    let n = length-take-le (length entries - 1) entries low in omega arith

-- what is left to search among the stores that an index tells
pub record Searches (question : Question) (log : List Event) (entries : List IndexEntry) (stores : List Store) : Type 0 where
  pub left : List Store
  pub tells : TellsAll log entries left
  pub last : last_or None (stores_of question stores) ≡ last_or None (stores_of question left)

pub passes : (question : Question) (log : List Event) (front : List IndexEntry) (entry : IndexEntry) (stores : List Store)
    → (it : Searches question log (front ++ entry ∷ []) stores)
    → ((store : Store) → Tells log entry store → same_question store.question question ≡ false)
    → Searches question log front stores
passes question log front entry stores it other =
    let told = last-told log front entry it.left it.tells in record {
      left = told.before;
      tells = told.tells;
      last = it.last ∙ (ap (λ w. last_or None (stores_of question w)) told.split
          ∙ last-before question told.before told.store (other told.store told.last));
    }

-- the last of them is of the question
pub found : (question : Question) (log : List Event) (front : List IndexEntry) (entry : IndexEntry) (stores : List Store)
    → (it : Searches question log (front ++ entry ∷ []) stores) (one : Store)
    → ((store : Store) → IsPlaced log entry.node store → store ≡ one) → same_question one.question question ≡ true
    → last_or None (stores_of question stores) ≡ Some one
found question log front entry stores it one same is =
    let told = last-told log front entry it.left it.tells in
    let here : told.store ≡ one = same told.store told.last.placed in
    it.last ∙ (ap (λ w. last_or None (stores_of question w)) (told.split ∙ ap (λ s. told.before ++ s ∷ []) here)
    ∙ last-here question told.before one is)

-- what a good result keeps
pub ok-found : {X E : Type 0} {P Q : X → Type 0} (result : Result X E) → ((found : X) → P found → Q found) → IfOk result P → IfOk result Q
ok-found (Ok found) more it = more found it
ok-found (Err refusal) more it = it
