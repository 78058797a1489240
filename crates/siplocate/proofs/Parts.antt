-- The first empty line of a text.
use Rattle.std.proofs.Common.{◌≡◌, ℕ, zero, suc, ◌+◌, ◌-◌, ◌<◌, ◌≤◌, ◌⊎◌, inl, inr, ◌==◌, Bool, true, false, List, [], ◌∷◌, ◌++◌, length, take, get_or, IsUtf8, refl, sym, ap, ◌∙◌, arith}
use Rattle.std.specs.List.{slice_range, position_or_len, before_first, after_first}
use Rattle.std.proofs.lemmas.Bool.{eqb-true}
use Rattle.std.proofs.lemmas.List.{append_assoc, length-append, get_or-append-add}
use Rattle.std.proofs.lemmas.List.Sums.{fails_before_first, passes_at_first, split_at_first}
use Rattle.std.proofs.lemmas.List.{length-take-le}
use Rattle.std.proofs.Math.Nat.{eq-or-lt_of_le, lt_of_not-le}
use Rattle.std.proofs.Math.Seq.{take-append_seam}
use Rattle.std.specs.Str.{IsCharBoundary}
use Rattle.std.proofs.lemmas.Str.{IsCharBoundary-start, IsCharBoundary-after_ascii}
use Rattle.siplocate.specs.Parts.{BeginsLine, HasEmptyLine, IsLineEnd, IsParted}

-- where the first line feed stands
abbrev pub feed : List ℕ → ℕ
feed rest = position_or_len (λ (b : ℕ). b == 10) rest

-- a text around its first line feed
pub around : (rest : List ℕ) → feed rest < length rest
    → rest ≡ before_first (λ (b : ℕ). b == 10) rest ++ 10 ∷ after_first (λ (b : ℕ). b == 10) rest
around rest l =
    split_at_first (λ (b : ℕ). b == 10) rest 0 l
    ∙ ap (λ (x : ℕ). before_first (λ (b : ℕ). b == 10) rest ++ x ∷ after_first (λ (b : ℕ). b == 10) rest)
    (eqb-true (get_or rest (feed rest) 0) 10 (passes_at_first (λ (b : ℕ). b == 10) rest 0 l))

-- in front of it there is none
none_before : (rest : List ℕ) (k : ℕ) → k < feed rest → get_or rest k 0 ≡ 10 → ⊥
none_before rest k l e =
    let no = fails_before_first (λ (b : ℕ). b == 10) rest k 0 l in
    let yes : (10 == 10) ≡ false = rw e at no in
    absurd cc

-- a list behind a front
behind : (text front rest : List ℕ) (j i : ℕ) → text ≡ front ++ rest → length front + j ≡ i → get_or text i 0 ≡ get_or rest j 0
behind text front rest j i e at = rw (e, sym at) (get_or-append-add front rest j 0)

-- what has been scanned of a text: no empty line begins there
pub record Scanned (text rest : List ℕ) : Type 0 where
  pub front : List ℕ
  pub joined : text ≡ front ++ rest
  pub begins : BeginsLine front
  pub first : (other others : List ℕ) → HasEmptyLine text other others → length front ≤ length other

pub nothing_yet : (text : List ℕ) → Scanned text text
nothing_yet text = record { front = []; joined = refl; begins = inl refl; first = λ other others has. omega arith }

-- how long the line end of an empty line is, and where its line feed stands
end_of : (text other others : List ℕ) (has : HasEmptyLine text other others)
    → (get_or text (length other) 0 ≡ 10)
    ⊎ ((get_or text (length other) 0 ≡ 13) × (get_or text (length other + 1) 0 ≡ 10))
end_of text other others has = by_end has.line has.ends has.joined
  where
    by_end : (line : List ℕ) → IsLineEnd line → text ≡ other ++ line ++ others
        → (get_or text (length other) 0 ≡ 10)
        ⊎ ((get_or text (length other) 0 ≡ 13) × (get_or text (length other + 1) 0 ≡ 10))
    by_end line (inl e) joined =
        let all : text ≡ other ++ (10 ∷ others) = joined ∙ append_assoc other line others ∙ ap (λ (l : List ℕ). other ++ (l ++ others)) e in
        inl (behind text other (10 ∷ others) 0 (length other) all (omega arith))
    by_end line (inr e) joined =
        let all : text ≡ other ++ (13 ∷ 10 ∷ others) = joined ∙ append_assoc other line others
        ∙ ap (λ (l : List ℕ). other ++ (l ++ others)) e in
        inr (
          behind text other (13 ∷ 10 ∷ others) 0 (length other) all (omega arith),
          behind text other (13 ∷ 10 ∷ others) 1
              (length other + 1) all refl,
        )

-- ---- one line more

module _ (text front rest : List ℕ) (joined : text ≡ front ++ rest)
    (full : before_first (λ (b : ℕ). b == 10) rest ≡ [] → ⊥)
    (no_return : before_first (λ (b : ℕ). b == 10) rest ≡ 13 ∷ [] → ⊥) where
  -- an octet of the text behind the front
  at : (i : ℕ) → length front ≤ i → get_or text i 0 ≡ get_or rest (i - length front) 0
  at i l = behind text front rest (i - length front) i joined (omega arith)

  -- no line feed stands in the line
  none_at : (i : ℕ) → length front ≤ i → i < length front + feed rest → get_or text i 0 ≡ 10 → ⊥
  none_at i l m e = none_before rest (i - length front) (omega arith) (sym (at i l) ∙ e)

  -- the line is not empty
  some : 0 < feed rest
  some = by_feed (feed rest) refl
    where
      by_feed : (n : ℕ) → feed rest ≡ n → 0 < n
      by_feed zero e = absurd (full (ap (λ (n : ℕ). take n rest) e))
      by_feed (suc n) e = omega arith

  -- an empty line does not begin at this line
  not_here : (other others : List ℕ) → HasEmptyLine text other others → length other ≡ length front → ⊥
  not_here other others has e = by_end (end_of text other others has)
    where
      by_end : (get_or text (length other) 0 ≡ 10)
          ⊎ ((get_or text (length other) 0 ≡ 13) × (get_or text (length other + 1) 0 ≡ 10)) → ⊥
      by_end (inl feed_is) = none_at (length other) (omega (arith, e)) (omega (arith, e, some)) feed_is
      by_end (inr both) = by_feed (feed rest) refl
        where
          first : get_or rest 0 0 ≡ 13
          first = sym (behind text front rest 0 (length other) joined (omega (arith, e))) ∙ both.0

          by_feed : (n : ℕ) → feed rest ≡ n → ⊥
          by_feed zero is = absurd (full (ap (λ (n : ℕ). take n rest) is))
          by_feed (suc zero) is = no_return (ap (λ (n : ℕ). take n rest) is ∙ one rest first)
            where
              one : (rest : List ℕ) → get_or rest 0 0 ≡ 13 → take 1 rest ≡ 13 ∷ []
              one [] e = absurd cc
              one (x ∷ xs) e = ap (λ (x : ℕ). x ∷ []) e
          by_feed (suc (suc n)) is = none_at (length other + 1) (omega (arith, e)) (omega (arith, e, is)) both.1

  -- nor within it
  not_within : (other others : List ℕ) → HasEmptyLine text other others
      → length front < length other → length other < length front + feed rest + 1 → ⊥
  not_within other others has l m = by_begin has.begins
    where
      by_begin : BeginsLine other → ⊥
      by_begin (inl none) = omega (arith, ap length none)
      by_begin (inr ends) =
          let long = ap length ends.1 ∙ length-append ends.0 (10 ∷ []) in
          let all : text ≡ ends.0 ++ (10 ∷ (has.line ++ others)) =
          has.joined ∙ append_assoc other has.line others ∙ ap (λ (l : List ℕ). l ++ (has.line ++ others)) ends.1
          ∙ append_assoc ends.0 (10 ∷ []) (has.line ++ others) in
          none_at (length ends.0) (omega (arith, long)) (omega (arith, long))
          (behind text ends.0 (10 ∷ (has.line ++ others)) 0 (length ends.0) all (omega arith))

  -- so the next one begins behind it
  pub later : (other others : List ℕ) → HasEmptyLine text other others → length front ≤ length other
      → length front + feed rest + 1 ≤ length other
  later other others has l = omega (
    arith,
    lt_of_not-le {n = length other + 1} {m = length front + feed rest + 1}
        (λ m. by_place (eq-or-lt_of_le l) m),
  )
    where
      by_place : (length front ≡ length other) ⊎ (length front < length other)
          → length other + 1 ≤ length front + feed rest + 1 → ⊥
      by_place (inl e) m = not_here other others has (sym e)
      by_place (inr more) m = not_within other others has more (omega (arith, m))

-- the line, its line feed, and what is behind them
pub next : (text rest : List ℕ) → Scanned text rest → feed rest < length rest
    → (before_first (λ (b : ℕ). b == 10) rest ≡ [] → ⊥) → (before_first (λ (b : ℕ). b == 10) rest ≡ 13 ∷ [] → ⊥)
    → Scanned text (after_first (λ (b : ℕ). b == 10) rest)
next text rest s l full no_return =
    let line = before_first (λ (b : ℕ). b == 10) rest in
    let after = after_first (λ (b : ℕ). b == 10) rest in
    let front = s.front ++ line ++ 10 ∷ [] in
    let long = ap length (append_assoc s.front line (10 ∷ [])) ∙ length-append s.front (line ++ 10 ∷ [])
    ∙ ap (λ (n : ℕ). length s.front + n) (length-append line (10 ∷ [])) in
    let size = length-take-le (feed rest) rest (omega arith) in
    record {
      front = front;
      joined = s.joined ∙ ap (λ (l : List ℕ). s.front ++ l) (around rest l) ∙ sym (append_assoc s.front line (10 ∷ after))
          ∙ sym (append_assoc (s.front ++ line) (10 ∷ []) after);
      begins = inr (s.front ++ line, refl);
      first = λ other others has. omega (
        arith,
        long,
        size,
        later text s.front rest s.joined full no_return other others has
            (s.first other others has),
      );
    }

-- an empty line
pub found : (text rest : List ℕ) (s : Scanned text rest) → feed rest < length rest
    → (before_first (λ (b : ℕ). b == 10) rest ≡ []) ⊎ (before_first (λ (b : ℕ). b == 10) rest ≡ 13 ∷ [])
    → IsParted text s.front (after_first (λ (b : ℕ). b == 10) rest)
found text rest s l empty =
    let line = before_first (λ (b : ℕ). b == 10) rest in
    let after = after_first (λ (b : ℕ). b == 10) rest in
    record {
      here = record {
        line = line ++ 10 ∷ [];
        joined = s.joined ∙ ap (λ (l : List ℕ). s.front ++ l) (around rest l) ∙ sym (append_assoc s.front line (10 ∷ after))
            ∙ sym (append_assoc (s.front ++ line) (10 ∷ []) after) ∙ ap (λ (l : List ℕ). l ++ after) (append_assoc s.front line (10 ∷ []));
        begins = s.begins;
        ends = by_line empty;
      };
      first = s.first;
    }
  where
    by_line : (before_first (λ (b : ℕ). b == 10) rest ≡ []) ⊎ (before_first (λ (b : ℕ). b == 10) rest ≡ 13 ∷ [])
        → IsLineEnd (before_first (λ (b : ℕ). b == 10) rest ++ 10 ∷ [])
    by_line (inl e) = inl (ap (λ (l : List ℕ). l ++ 10 ∷ []) e)
    by_line (inr e) = inr (ap (λ (l : List ℕ). l ++ 10 ∷ []) e)

-- where no line feed is left, there is no empty line
pub none_left : (text rest : List ℕ) → Scanned text rest → feed rest ≡ length rest
    → (front others : List ℕ) → HasEmptyLine text front others → ⊥
none_left text rest s l front others has = by_end (end_of text front others has)
  where
    here : (i : ℕ) → length s.front ≤ i → i < length text → get_or text i 0 ≡ 10 → ⊥
    here i le lt e =
        let long = ap length s.joined ∙ length-append s.front rest in
        none_before rest (i - length s.front) (omega (arith, long, l))
        (sym (behind text s.front rest (i - length s.front) i s.joined (omega (arith, le))) ∙ e)

    size : length front + length has.line + length others ≡ length text
    size = sym (ap length has.joined ∙ length-append (front ++ has.line) others ∙ ap (λ (n : ℕ). n + length others)
        (length-append front has.line))

    one : IsLineEnd has.line → 0 < length has.line
    one (inl e) = omega (arith, ap length e)
    one (inr e) = omega (arith, ap length e)

    le : length s.front ≤ length front
    le = s.first front others has

    by_end : (get_or text (length front) 0 ≡ 10)
        ⊎ ((get_or text (length front) 0 ≡ 13) × (get_or text (length front + 1) 0 ≡ 10)) → ⊥
    by_end (inl feed_is) = here (length front) le (omega (arith, size, one has.ends)) feed_is
    by_end (inr both) = by_line has.ends
      where
        by_line : IsLineEnd has.line → ⊥
        by_line (inl e) =
            let all : text ≡ front ++ (10 ∷ others) = has.joined ∙ append_assoc front has.line others
            ∙ ap (λ (l : List ℕ). front ++ (l ++ others)) e in
            here (length front) le (omega (arith, size, one has.ends)) (behind text front (10 ∷ others) 0 (length front) all (omega arith))
        by_line (inr e) = here (length front + 1) (omega (arith, le)) (omega (arith, size, ap length e)) both.1

-- what is in front has as many octets as the rest lacks
front_is : (text rest : List ℕ) (s : Scanned text rest) → take (length text - length rest) text ≡ s.front
front_is text rest s =
    let long : length text ≡ length s.front + length rest = ap length s.joined ∙ length-append s.front rest in
    let count : length text - length rest ≡ length s.front = omega (arith, long) in
    rw (count, s.joined) (take-append_seam s.front rest)

pub front_cut : (text rest : List ℕ) (s : Scanned text rest) → slice_range text 0 (length text - length rest) ≡ s.front
front_cut text rest s =
    let all : length text - length rest - 0 ≡ length text - length rest = omega arith in
    ap (λ (n : ℕ). take n text) all ∙ front_is text rest s

-- a text may be cut there
pub boundary : (text rest : List ℕ) → Scanned text rest → IsUtf8 text → IsCharBoundary text (length text - length rest)
boundary text rest s utf8 = by_begin s.begins
  where
    long : length text ≡ length s.front + length rest
    long = ap length s.joined ∙ length-append s.front rest

    by_begin : BeginsLine s.front → IsCharBoundary text (length text - length rest)
    by_begin (inl none) =
        let start : length text - length rest ≡ 0 = omega (arith, long, ap length none) in
        rw start (IsCharBoundary-start text utf8)
    by_begin (inr ends) =
        let size = ap length ends.1 ∙ length-append ends.0 (10 ∷ []) in
        let all : text ≡ ends.0 ++ (10 ∷ rest) =
        s.joined ∙ ap (λ (l : List ℕ). l ++ rest) ends.1 ∙ append_assoc ends.0 (10 ∷ []) rest in
        let is : get_or text (length ends.0) 0 ≡ 10 = behind text ends.0 (10 ∷ rest) 0 (length ends.0) all (omega arith) in
        let place : length text - length rest ≡ length ends.0 + 1 = omega (arith, long, size) in
        rw place (IsCharBoundary-after_ascii text (length ends.0) utf8 (omega (arith, long, size)) (rw is (omega arith)))

pub not_both : ◌≡◌ {A = Bool} false true → ⊥
not_both e = absurd cc
