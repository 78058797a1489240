-- The pieces of Vias, and how long they are.
use Rattle.std.proofs.Common.{◌≡◌, ℕ, ◌+◌, true, false, not, ◌||◌, List, [], ◌∷◌, ◌++◌, length, take, IfSome, refl, sym, ap, ◌∙◌, inl, inr, arith, eqb, append_assoc}
use Rattle.std.proofs.lemmas.Bool.{cases_Bool}
use Rattle.std.proofs.lemmas.Bool.Decides.{nat_tests}
use Rattle.std.proofs.lemmas.List.{length-append, take_at}
use Rattle.sip_options.specs.Readers.Pieces.{quoted_piece, one_in_quotes, plain_piece, IsQuotedLength}
use Rattle.sip_options.specs.Readers.Vias.{ends_part, BeginsPart}
use Rattle.sip_options.specs.Texts.{Many, Ends}
use Rattle.sip_options.specs.Vias.{IsQuotedPiece, inside, escaped, IsPartPiece, outside, quoted, IsPart, PartEnds, is_mark}
use Rattle.sip_options.proofs.HeaderPieces.{IsLength}
use Rattle.sip_options.proofs.Repeats.{Apart, same_fronts}

-- ---- quoted strings

one_quoted : (x : ℕ) (text : List ℕ) → IfSome (one_in_quotes x) (IsLength IsQuotedPiece (x ∷ text))
one_quoted x text =
    elim (cases_Bool (not (eqb x 34 || eqb x 92))) [
      | inl is ↦ rw is (omega arith, omega arith, inside x is)
      | inr no' ↦ rw no' tt
    ]

escape_here : (x y : ℕ) → x ≡ 92 → IsQuotedPiece (x ∷ y ∷ [])
escape_here x y e = rw e (escaped y)

pub quoted_piece_is : (text : List ℕ) → IfSome (quoted_piece text) (IsLength IsQuotedPiece text)
quoted_piece_is [] = tt
quoted_piece_is (x ∷ []) = one_quoted x []
quoted_piece_is (x ∷ y ∷ text) =
    elim (cases_Bool (eqb x 92)) [
      | inl is ↦ (let back : x ≡ 92 = grind (arith, nat_tests) in rw is (omega arith, omega arith, escape_here x y back))
      | inr no' ↦ elim (cases_Bool (eqb x 34)) [
        | inl quote ↦ rw (no', quote) tt
        | inr other ↦ rw (no', other) (omega arith, omega arith, inside x (rw (other, no') refl))
      ]
    ]

pub quoted_pieces_apart : Apart IsQuotedPiece
quoted_pieces_apart a b x y (inside o is) (inside o' is') e =
    let head : o ≡ o' = cc in
    let tail : x ≡ y = cc in
    (ap (λ (u : ℕ). u ∷ []) head, tail)
quoted_pieces_apart a b x y (inside o is) (escaped z) e =
    let head : o ≡ 92 = cc in
    let no : not (eqb 92 34 || eqb 92 92) ≡ true = rw head at is in
    absurd cc
quoted_pieces_apart a b x y (escaped z) (inside o is) e =
    let head : o ≡ 92 = cc in
    let no : not (eqb 92 34 || eqb 92 92) ≡ true = rw head at is in
    absurd cc
quoted_pieces_apart a b x y (escaped z) (escaped z') e =
    let head : z ≡ z' = cc in
    let tail : x ≡ y = cc in
    (ap (λ (u : ℕ). 92 ∷ u ∷ []) head, tail)

no_piece_at_quote : (one more rest : List ℕ) → IsQuotedPiece one → 34 ∷ rest ≡ one ++ more → ⊥
no_piece_at_quote one more rest (inside o is) e =
    let head : o ≡ 34 = cc in
    let no : not (eqb 34 34 || eqb 34 92) ≡ true = rw head at is in
    absurd cc
no_piece_at_quote one more rest (escaped z) e =
    let head : ◌≡◌ {A = ℕ} 34 92 = cc in
    absurd (omega arith)

-- a quote ends a quoted string
pub quote_ends : (rest : List ℕ) → Ends IsQuotedPiece (34 ∷ rest)
quote_ends rest = λ one more is e. no_piece_at_quote one more rest is e

pub quote_cut : (text inner rest : List ℕ) (count : ℕ) → text ≡ inner ++ rest → Many IsQuotedPiece inner → Ends IsQuotedPiece rest
    → (is : IsQuotedLength text count) → (inner ≡ is.inner) × (rest ≡ 34 ∷ is.rest)
quote_cut text inner rest count e many ends is =
    same_fronts IsQuotedPiece quoted_pieces_apart inner is.inner rest (34 ∷ is.rest) many ends is.are (quote_ends is.rest)
    (sym e ∙ is.joined)

-- ---- parts

pub plain_piece_is : (text : List ℕ) → ((rest : List ℕ) → text ≡ 34 ∷ rest → ⊥) → IfSome (plain_piece text) (IsLength IsPartPiece text)
plain_piece_is [] no_quote = tt
plain_piece_is (x ∷ text) no_quote =
    elim (cases_Bool (is_mark x)) [
      | inl is ↦ rw is tt
      | inr no' ↦ elim (cases_Bool (eqb x 34)) [
        | inl quote ↦ (let same : x ≡ 34 = grind (arith, nat_tests) in absurd (no_quote text (ap (λ (u : ℕ). u ∷ text) same)))
        | inr other ↦ (
            let plain : not (eqb x 34 || is_mark x) ≡ true = rw (other, no') refl in
            rw no' (omega arith, omega arith, outside x plain))
      ]
    ]

pub quoted_is : (text inner : List ℕ) (count : ℕ) → text ≡ 34 ∷ inner → IsQuotedLength inner count → IsLength IsPartPiece text (count + 2)
quoted_is text inner count e is =
    let one : List ℕ = 34 ∷ is.inner ++ 34 ∷ [] in
    let whole : text ≡ one ++ is.rest =
    e ∙ ap (λ (u : List ℕ). 34 ∷ u) (is.joined ∙ sym (append_assoc is.inner (34 ∷ []) is.rest)) in
    let size : length one ≡ count + 2 = omega (arith, is.is, length-append is.inner (34 ∷ [])) in
    let front : take (count + 2) text ≡ one = ap (λ (u : List ℕ). take (count + 2) u) whole ∙ take_at one is.rest (count + 2) size in
    (omega arith, omega (arith, ap length whole, length-append one is.rest, size), rw front (quoted is.inner is.are))

no_part : (text inner one rest : List ℕ) → text ≡ 34 ∷ inner → ((count : ℕ) → IsQuotedLength inner count → ⊥) → IsPartPiece one
    → text ≡ one ++ rest → ⊥
no_part text inner one rest e none (outside o is) joined =
    let head : o ≡ 34 = cc in
    let no : not (eqb 34 34 || is_mark 34) ≡ true = rw head at is in
    absurd cc
no_part text inner one rest e none (quoted q many) joined =
    let whole : 34 ∷ inner ≡ 34 ∷ (q ++ 34 ∷ rest) = sym e ∙ joined ∙ ap (λ (u : List ℕ). 34 ∷ u) (append_assoc q (34 ∷ []) rest) in
    let tail : inner ≡ q ++ 34 ∷ rest = cc in
    none (length q) (record { inner = q; rest = rest; are = many; is = refl; joined = tail })

-- an open quote ends a part
pub open_ends : (text inner : List ℕ) → text ≡ 34 ∷ inner → ((count : ℕ) → IsQuotedLength inner count → ⊥) → Ends IsPartPiece text
open_ends text inner e none = λ one rest is joined. no_part text inner one rest e none is joined

pub part_pieces_apart : Apart IsPartPiece
part_pieces_apart a b x y (outside o is) (outside o' is') e =
    let head : o ≡ o' = cc in
    let tail : x ≡ y = cc in
    (ap (λ (u : ℕ). u ∷ []) head, tail)
part_pieces_apart a b x y (outside o is) (quoted q many) e =
    let head : o ≡ 34 = cc in
    let no : not (eqb 34 34 || is_mark 34) ≡ true = rw head at is in
    absurd cc
part_pieces_apart a b x y (quoted q many) (outside o is) e =
    let head : o ≡ 34 = cc in
    let no : not (eqb 34 34 || is_mark 34) ≡ true = rw head at is in
    absurd cc
part_pieces_apart a b x y (quoted q many) (quoted q' many') e =
    let whole : 34 ∷ (q ++ 34 ∷ x) ≡ 34 ∷ (q' ++ 34 ∷ y) =
    ap (λ (u : List ℕ). 34 ∷ u) (sym (append_assoc q (34 ∷ []) x)) ∙ e ∙ ap (λ (u : List ℕ). 34 ∷ u) (append_assoc q' (34 ∷ []) y) in
    let tail : q ++ 34 ∷ x ≡ q' ++ 34 ∷ y = cc in
    let k = same_fronts IsQuotedPiece quoted_pieces_apart q q' (34 ∷ x) (34 ∷ y) many (quote_ends x) many' (quote_ends y) tail in
    let rest : x ≡ y = cc (k.1) in
    (ap (λ (u : List ℕ). 34 ∷ u ++ 34 ∷ []) k.0, rest)

no_piece_at_end : (one more rest : List ℕ) → PartEnds rest → IsPartPiece one → rest ≡ one ++ more → ⊥
no_piece_at_end one more [] ends (outside o is) e = absurd cc
no_piece_at_end one more [] ends (quoted q many) e = absurd cc
no_piece_at_end one more (x ∷ rest) ends (outside o is) e =
    let head : o ≡ x = cc in
    let mark : is_mark x ≡ true = ends in
    let no : not (eqb x 34 || is_mark x) ≡ true = rw head at is in
    grind (arith, nat_tests, mark, no)
no_piece_at_end one more (x ∷ rest) ends (quoted q many) e =
    let head : x ≡ 34 = cc in
    let no : is_mark 34 ≡ true = rw head at ends in
    absurd cc

pub part_ends : (rest : List ℕ) → PartEnds rest → Ends IsPartPiece rest
part_ends rest ends = λ one more is e. no_piece_at_end one more rest ends is e

pub part_cut : (text part rest a x : List ℕ) → text ≡ part ++ rest → IsPart part → Ends IsPartPiece rest → BeginsPart text a x
    → (part ≡ a) × (rest ≡ x)
part_cut text part rest a x e many ends is =
    same_fronts IsPartPiece part_pieces_apart part a rest x many ends is.is (part_ends x is.ends) (sym e ∙ is.joined)

ends_moved : (a b : List ℕ) → a ≡ b → PartEnds b → PartEnds a
ends_moved a b e ends = rw e ends

pub part_ended : (text : List ℕ) → ends_part text ≡ true → PartEnds text
part_ended [] e = tt
part_ended (x ∷ text) e = e

part_ended_again : (text : List ℕ) → PartEnds text → ends_part text ≡ true
part_ended_again [] ends = refl
part_ended_again (x ∷ text) ends = ends

pub no_end : (text part rest : List ℕ) → text ≡ part ++ rest → IsPart part → Ends IsPartPiece rest → ends_part rest ≡ false
    → (a y : List ℕ) → BeginsPart text a y → ⊥
no_end text part rest e many ends other a y is =
    let k = part_cut text part rest a y e many ends is in
    let mark = part_ended_again rest (ends_moved rest y k.1 is.ends) in
    absurd (let differ : true ≡ false = sym mark ∙ other in cc)

pub part_made : (text part rest : List ℕ) → text ≡ part ++ rest → IsPart part → ends_part rest ≡ true → BeginsPart text part rest
part_made text part rest e many ends = record { is = many; ends = part_ended rest ends; joined = e }
