-- What is kept of a line, the texts of what was read of an input, and their numbers.
use Rattle.std.proofs.Common.{◌≡◌, ◌≢◌, ℕ, suc, ◌+◌, ◌-◌, ◌^◌, ◌<◌, ◌≤◌, min, nat_lt, Bool, true, false, Option, Some, None, List, [], ◌∷◌, ◌++◌, length, map, take, refl, sym, ap, subst, ◌∙◌, inl, inr, append-nil, append_assoc, arith, lit≤}
use Rattle.std.proofs.Math.Nat.{min-eq_left, min-eq_right}
use Rattle.std.proofs.lemmas.Bool.{cases_Bool}
use Rattle.std.proofs.lemmas.Bool.Decides.{nat_tests}
use Rattle.std.proofs.lemmas.Grind.{flat_map-append}
use Rattle.std.proofs.lemmas.List.{length-append, length-take-le, map-append, take-append-le}
use Rattle.std.proofs.lemmas.List.Elements.{All-append, All-cons, All-nil, filter-append}
use Rattle.std.proofs.Math.Seq.{take-append_seam}
use Rattle.std.specs.Io.KnownBytes.{Consumes, IsAtEnd}
use Rattle.std.specs.List.{filter}
use Rattle.std.specs.Str.{trim}
use Rattle.std.specs.Str.Lossy.{utf8_lossy}
use Rattle.sipwhere.specs.LineInputs.{AreLines, AreTexts, GivesMore, HasGiven, HasGivenWhere, HasNoEnd, InputView, IsReading, ended, has_some, kept, numbered_from, text_of, texts_of}

-- ---- what is kept

kept-whole : (line : List ℕ) → nat_lt 4096 (length line) ≡ false → kept line ≡ line
kept-whole line short = rw short refl

kept-cut : (line : List ℕ) → nat_lt 4096 (length line) ≡ true → kept line ≡ take 4096 line ++ 0 ∷ 0 ∷ []
kept-cut line long = rw long refl

length-cut : (line : List ℕ) → nat_lt 4096 (length line) ≡ true → length (kept line) ≡ 4098
length-cut line long =
    let inside : 4096 ≤ length line = grind (arith, nat_tests) in
    ap (λ (l : List ℕ). length l) (kept-cut line long) ∙ length-append (take 4096 line) (0 ∷ 0 ∷ [])
    ∙ ap (λ n. n + 2) (length-take-le 4096 line inside)

length-more : (line : List ℕ) (octet : ℕ) → length (line ++ octet ∷ []) ≡ length line + 1
length-more line octet = length-append line (octet ∷ [])

-- a line that is kept whole, and has room for one octet more
pub kept-more : (line : List ℕ) (octet : ℕ) → length (kept line) < 4096 → kept (line ++ octet ∷ []) ≡ kept line ++ octet ∷ []
kept-more line octet room =
    elim (cases_Bool (nat_lt 4096 (length line))) [
      | inl long ↦ (let size = length-cut line long in absurd (omega (arith, room, size)))
      | inr short ↦ (
          let whole = kept-whole line short in
          let size = ap (λ (l : List ℕ). length l) whole in
          let more = length-more line octet in
          let low : length line + 1 ≤ 4096 = omega (arith, room, size) in
          let few : nat_lt 4096 (length (line ++ octet ∷ [])) ≡ false = grind (arith, nat_tests) in
          kept-whole (line ++ octet ∷ []) few ∙ ap (λ l. l ++ octet ∷ []) (sym whole))
    ]

-- a line that has all the octets that are kept gets the mark
pub kept-marked : (line : List ℕ) (octet : ℕ) → length (kept line) ≡ 4096 → kept (line ++ octet ∷ []) ≡ kept line ++ 0 ∷ 0 ∷ []
kept-marked line octet full =
    elim (cases_Bool (nat_lt 4096 (length line))) [
      | inl long ↦ (let size = length-cut line long in absurd (omega (arith, full, size)))
      | inr short ↦ (
          let whole = kept-whole line short in
          let size : length line ≡ 4096 = sym (ap (λ (l : List ℕ). length l) whole) ∙ full in
          let more = length-more line octet in
          let many : nat_lt 4096 (length (line ++ octet ∷ [])) ≡ true = grind (arith, nat_tests) in
          kept-cut (line ++ octet ∷ []) many
          ∙ ap (λ l. l ++ 0 ∷ 0 ∷ [])
          (ap (λ n. take n (line ++ octet ∷ [])) (sym size) ∙ take-append_seam line (octet ∷ []) ∙ sym whole))
    ]

-- of a line that has the mark nothing more is kept
pub kept-full : (line : List ℕ) (octet : ℕ) → 4096 < length (kept line) → kept (line ++ octet ∷ []) ≡ kept line
kept-full line octet full =
    elim (cases_Bool (nat_lt 4096 (length line))) [
      | inl long ↦ (
          let inside : 4096 ≤ length line = grind (arith, nat_tests) in
          let more = length-more line octet in
          let many : nat_lt 4096 (length (line ++ octet ∷ [])) ≡ true = grind (arith, nat_tests) in
          kept-cut (line ++ octet ∷ []) many ∙ ap (λ l. l ++ 0 ∷ 0 ∷ []) (take-append-le 4096 line (octet ∷ []) inside)
          ∙ sym (kept-cut line long))
      | inr short ↦ (
          let size = ap (λ (l : List ℕ). length l) (kept-whole line short) in
          let low : length line ≤ 4096 = grind (arith, nat_tests) in
          absurd (omega (arith, full, size, low)))
    ]

-- ---- the lines of what was read

-- an octet that ends no line
lines-more : (read : List ℕ) (lines : List (List ℕ)) (begun : List ℕ) (octet : ℕ) → AreLines read lines begun → octet ≢ 10
    → AreLines (read ++ octet ∷ []) lines (begun ++ octet ∷ [])
lines-more read lines begun octet are other = record {
  parts = ap (λ l. l ++ octet ∷ []) are.parts ∙ append_assoc (ended lines) begun (octet ∷ []);
  whole = are.whole;
  rest = All-append (λ it. it ≢ 10) begun (octet ∷ []) are.rest
      (All-cons (λ it. it ≢ 10) octet [] other (All-nil (λ it. it ≢ 10)));
}

-- a line end
lines-end : (read : List ℕ) (lines : List (List ℕ)) (begun : List ℕ) → AreLines read lines begun
    → AreLines (read ++ 10 ∷ []) (lines ++ begun ∷ []) []
lines-end read lines begun are =
    let with_end : List ℕ → List ℕ = λ line. line ++ 10 ∷ [] in
    record {
      parts = ap with_end are.parts ∙ append_assoc (ended lines) begun (10 ∷ [])
          ∙ ap (λ l. ended lines ++ l) (sym (append-nil (begun ++ 10 ∷ [])))
          ∙ sym (flat_map-append with_end lines (begun ∷ [])) ∙ sym (append-nil (ended (lines ++ begun ∷ [])));
      whole = All-append HasNoEnd lines (begun ∷ []) are.whole (All-cons HasNoEnd begun [] are.rest (All-nil HasNoEnd));
      rest = All-nil (λ it. it ≢ 10);
    }

-- ---- the texts of what was read

-- the text of one line more
texts-more : (lines : List (List ℕ)) (line : List ℕ) → texts_of (lines ++ line ∷ []) ≡ texts_of lines ++ filter has_some (text_of line ∷ [])
texts-more lines line =
    ap (filter has_some) (map-append text_of lines (line ∷ [])) ∙ filter-append has_some (map text_of lines) (text_of line ∷ [])

pub reading-more : (read : List ℕ) (texts : List (List ℕ)) (before after : List ℕ) (octet : ℕ) → IsReading read texts before → octet ≢ 10
    → ((line : List ℕ) → before ≡ kept line → after ≡ kept (line ++ octet ∷ [])) → IsReading (read ++ octet ∷ []) texts after
reading-more read texts before after octet it other keeps = record {
  lines = it.lines;
  begun = it.begun ++ octet ∷ [];
  are = lines-more read it.lines it.begun octet it.are other;
  texts_are = it.texts_are;
  kept_is = keeps it.begun it.kept_is;
}

pub reading-end : (read : List ℕ) (texts : List (List ℕ)) (before after : List ℕ) → IsReading read texts before → after ≡ []
    → IsReading (read ++ 10 ∷ []) (texts ++ filter has_some (trim (utf8_lossy before) ∷ [])) after
reading-end read texts before after it none = record {
  lines = it.lines ++ it.begun ∷ [];
  begun = [];
  are = lines-end read it.lines it.begun it.are;
  texts_are = ap (λ t. t ++ filter has_some (trim (utf8_lossy before) ∷ [])) it.texts_are
      ∙ ap (λ (b : List ℕ). texts_of it.lines ++ filter has_some (trim (utf8_lossy b) ∷ [])) it.kept_is
      ∙ sym (texts-more it.lines it.begun);
  kept_is = none;
}

-- nothing was read
pub reading-none : (before : List ℕ) → before ≡ [] → IsReading [] [] before
reading-none before none = record {
  lines = [];
  begun = [];
  are = record { parts = refl; whole = All-nil HasNoEnd; rest = All-nil (λ it. it ≢ 10) };
  texts_are = refl;
  kept_is = none;
}

-- all was read
pub reading-last : (read : List ℕ) (texts : List (List ℕ)) (before : List ℕ) → IsReading read texts before
    → AreTexts read (texts ++ filter has_some (trim (utf8_lossy before) ∷ []))
reading-last read texts before it = record {
  lines = it.lines;
  last = it.begun;
  are = it.are;
  texts_are = ap (λ t. t ++ filter has_some (trim (utf8_lossy before) ∷ [])) it.texts_are
      ∙ ap (λ (b : List ℕ). texts_of it.lines ++ filter has_some (trim (utf8_lossy b) ∷ [])) it.kept_is
      ∙ sym (texts-more it.lines it.begun);
}

-- ---- an input

-- what was given of an input that is not over, and of one that is
pub given-open : (read : List ℕ) (texts : List (List ℕ)) (it : InputView) → it.is_over ≡ false → HasGiven read texts it
    → IsReading read texts it.begun
given-open read texts it is given = subst (λ (over : Bool). HasGivenWhere over read texts it) is given

pub given-so : (read : List ℕ) (texts : List (List ℕ)) (it : InputView) → it.is_over ≡ false → IsReading read texts it.begun
    → HasGiven read texts it
given-so read texts it is given = subst (λ (over : Bool). HasGivenWhere over read texts it) (sym is) given

pub given-over : (read : List ℕ) (texts : List (List ℕ)) (it : InputView) → it.is_over ≡ true → HasGiven read texts it
    → AreTexts read texts × IsAtEnd it.left
given-over read texts it is given = subst (λ (over : Bool). HasGivenWhere over read texts it) is given

pub consumes-none : (left : Option (List ℕ)) → Consumes left left []
consumes-none None = tt
consumes-none (Some octets) = refl

pub consumes-more : (before between after : Option (List ℕ)) (xs ys : List ℕ) → Consumes before between xs → Consumes between after ys
    → Consumes before after (xs ++ ys)
consumes-more None between after xs ys first second = tt
consumes-more (Some bs) None after xs ys first second = absurd first
consumes-more (Some bs) (Some cs) None xs ys first second = absurd second
consumes-more (Some bs) (Some cs) (Some ds) xs ys first second =
    first ∙ ap (λ l. xs ++ l) second ∙ sym (append_assoc xs ys ds)

pub gives-none : (it : InputView) → GivesMore it it []
gives-none it read texts given = (
  [],
  consumes-none it.left,
  subst (λ r. HasGiven r (texts ++ []) it) (sym (append-nil read))
      (subst (λ t. HasGiven read t it) (sym (append-nil texts)) given),
)

-- an input that has given texts gives others in their place, as it is read on
pub gives-on : (old middle new : InputView) (more all : List (List ℕ)) → GivesMore old middle more
    → ((read : List ℕ) (before : List (List ℕ)) → HasGiven read (before ++ more) middle
    → (next : List ℕ) × Consumes middle.left new.left next × HasGiven (read ++ next) (before ++ all) new) → GivesMore old new all
gives-on old middle new more all first second read texts given =
    let one = first read texts given in
    let two = second (read ++ one.0) texts one.2 in (
      one.0 ++ two.0,
      consumes-more old.left middle.left new.left one.0 two.0 one.1 two.1,
      subst (λ r. HasGiven r (texts ++ all) new) (append_assoc read one.0 two.0) two.2,
    )

-- ---- numbers

-- one text more is numbered
pub numbered-more : (first : ℕ) (texts : List (List ℕ)) (text : List ℕ) → numbered_from first (texts ++ text ∷ [])
    ≡ numbered_from first texts ++ (min (first + length texts) (2 ^ 64 - 1), text) ∷ []
numbered-more first [] text =
    let same : first ≡ first + 0 = omega arith in
    ap (λ n. (min n (2 ^ 64 - 1), text) ∷ []) same
numbered-more first (it ∷ texts) text =
    let rest = numbered-more (first + 1) texts text in
    let same : first + 1 + length texts ≡ first + length (it ∷ texts) = omega arith in
    ap (λ l. (min first (2 ^ 64 - 1), it) ∷ l) rest
    ∙ ap (λ n. (min first (2 ^ 64 - 1), it) ∷ numbered_from (first + 1) texts ++ (min n (2 ^ 64 - 1), text) ∷ []) same

-- texts behind others
pub numbered-append : (first : ℕ) (texts others : List (List ℕ)) → numbered_from first (texts ++ others)
    ≡ numbered_from first texts ++ numbered_from (first + length texts) others
numbered-append first [] others =
    let same : first ≡ first + 0 = omega arith in
    ap (λ n. numbered_from n others) same
numbered-append first (it ∷ texts) others =
    let rest = numbered-append (first + 1) texts others in
    let same : first + 1 + length texts ≡ first + length (it ∷ texts) = omega arith in
    ap (λ l. (min first (2 ^ 64 - 1), it) ∷ l) rest
    ∙ ap (λ n. (min first (2 ^ 64 - 1), it) ∷ numbered_from (first + 1) texts ++ numbered_from n others) same

-- numbers beyond the greatest one are that
numbered-beyond : (first other : ℕ) (texts : List (List ℕ)) → 2 ^ 64 - 1 ≤ first → 2 ^ 64 - 1 ≤ other
    → numbered_from first texts ≡ numbered_from other texts
numbered-beyond first other [] much more = refl
numbered-beyond first other (it ∷ texts) much more =
    let rest = numbered-beyond (first + 1) (other + 1) texts (omega (arith, much)) (omega (arith, more)) in
    ap (λ n. (n, it) ∷ numbered_from (first + 1) texts) (min-eq_right much ∙ sym (min-eq_right more))
    ∙ ap (λ l. (min other (2 ^ 64 - 1), it) ∷ l) rest

-- a number that is held at the greatest one numbers as it would without
pub numbered-held : (first : ℕ) (texts : List (List ℕ)) → numbered_from (min first (2 ^ 64 - 1)) texts ≡ numbered_from first texts
numbered-held first texts =
    elim (cases_Bool (nat_lt first (2 ^ 64 - 1))) [
      | inl less ↦ (
          let low : first ≤ 2 ^ 64 - 1 = grind (arith, nat_tests) in
          ap (λ n. numbered_from n texts) (min-eq_left low))
      | inr not' ↦ (
          let much : 2 ^ 64 - 1 ≤ first = grind (arith, nat_tests) in
          ap (λ n. numbered_from n texts) (min-eq_right much) ∙ numbered-beyond (2 ^ 64 - 1) first texts (lit≤ tt) much)
    ]

-- a text that has an octet is kept
pub some-kept : (text : List ℕ) → 0 < length text → filter has_some (text ∷ []) ≡ text ∷ []
some-kept [] some = absurd (omega (arith, some))
some-kept (octet ∷ octets) some = refl

-- there are as many numbered texts as texts
pub length-numbered : (first : ℕ) (texts : List (List ℕ)) → length (numbered_from first texts) ≡ length texts
length-numbered first [] = refl
length-numbered first (text ∷ texts) = ap suc (length-numbered (first + 1) texts)

-- a number that is held at the greatest one is counted on as it would be without
held-add : (number more : ℕ) → min (min number (2 ^ 64 - 1) + more) (2 ^ 64 - 1) ≡ min (number + more) (2 ^ 64 - 1)
held-add number more =
    elim (cases_Bool (nat_lt number (2 ^ 64 - 1))) [
      | inl less ↦ (
          let low : number ≤ 2 ^ 64 - 1 = grind (arith, nat_tests) in
          ap (λ n. min (n + more) (2 ^ 64 - 1)) (min-eq_left low))
      | inr not' ↦ (
          let much : 2 ^ 64 - 1 ≤ number = grind (arith, nat_tests) in
          let all : 2 ^ 64 - 1 ≤ number + more = omega (arith, much) in
          let held : 2 ^ 64 - 1 ≤ 2 ^ 64 - 1 + more = omega arith in
          ap (λ n. min (n + more) (2 ^ 64 - 1)) (min-eq_right much) ∙ min-eq_right held ∙ sym (min-eq_right all))
    ]

-- the number of the first text of a part, by that of the part before it
pub counted-on : (next first count before more all : ℕ) → next ≡ min (first + count) (2 ^ 64 - 1) → count ≡ more
    → first ≡ min (1 + before) (2 ^ 64 - 1) → all ≡ before + more → next ≡ min (1 + all) (2 ^ 64 - 1)
counted-on next first count before more all is same held sum =
    let together : 1 + before + more ≡ 1 + all = omega (arith, sum) in
    is ∙ ap (λ n. min (first + n) (2 ^ 64 - 1)) same ∙ ap (λ n. min (n + more) (2 ^ 64 - 1)) held ∙ held-add (1 + before) more
    ∙ ap (λ n. min n (2 ^ 64 - 1)) together

pub none-of : {X : Type 0} (xs : List X) → length xs ≡ 0 → xs ≡ []
none-of [] none = refl
none-of (x ∷ xs) none = absurd (omega (arith, none))
