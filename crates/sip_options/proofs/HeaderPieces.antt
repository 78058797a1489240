-- The pieces of headers, and how long they are.
use Rattle.std.proofs.Common.{◌≡◌, ℕ, ◌<◌, ◌≤◌, true, false, ◌&&◌, List, [], ◌∷◌, ◌++◌, length, take, IfSome, sym, ap, ◌∙◌, inl, inr, arith, eqb}
use Rattle.std.proofs.lemmas.Bool.{cases_Bool}
use Rattle.std.proofs.lemmas.Bool.Decides.{nat_tests}
use Rattle.sip_options.specs.Heads.{IsHeaderPiece, plain, fold}
use Rattle.sip_options.specs.Readers.Pieces.{header_piece, one_in_line}
use Rattle.sip_options.specs.Texts.{Ends, is_blank, is_in_line}
use Rattle.sip_options.proofs.Repeats.{Apart}

-- a length is that of a piece in front of a text
abbrev pub IsLength : (List ℕ → Type 0) → List ℕ → ℕ → Type 0
IsLength IsOne text count = (0 < count) × (count ≤ length text) × IsOne (take count text)

one_piece : (x : ℕ) (text : List ℕ) → IfSome (one_in_line x) (IsLength IsHeaderPiece (x ∷ text))
one_piece x text =
    elim (cases_Bool (is_in_line x)) [
      | inl is ↦ rw is (omega arith, omega arith, plain x is)
      | inr no' ↦ rw no' tt
    ]

fold_here : (x y z : ℕ) → x ≡ 13 → y ≡ 10 → is_blank z ≡ true → IsHeaderPiece (x ∷ y ∷ z ∷ [])
fold_here x y z e f is = rw (e, f) (fold z is)

pub header_piece_is : (text : List ℕ) → IfSome (header_piece text) (IsLength IsHeaderPiece text)
header_piece_is [] = tt
header_piece_is (x ∷ []) = one_piece x []
header_piece_is (x ∷ y ∷ []) = one_piece x (y ∷ [])
header_piece_is (x ∷ y ∷ z ∷ text) =
    elim (cases_Bool (eqb x 13 && eqb y 10 && is_blank z)) [
      | inl is ↦ (
          let cr : x ≡ 13 = grind (arith, nat_tests) in
          let lf : y ≡ 10 = grind (arith, nat_tests) in
          let blank : is_blank z ≡ true = grind (arith, nat_tests) in
          rw is (omega arith, omega arith, fold_here x y z cr lf blank))
      | inr no' ↦ rw no' (one_piece x (y ∷ z ∷ text))
    ]

pub header_pieces_apart : Apart IsHeaderPiece
header_pieces_apart a b x y (plain o is) (plain o' is') e =
    let head : o ≡ o' = cc in
    let tail : x ≡ y = cc in
    (ap (λ (u : ℕ). u ∷ []) head, tail)
header_pieces_apart a b x y (plain o is) (fold z is') e =
    let head : o ≡ 13 = cc in
    let no : is_in_line 13 ≡ true = rw head at is in
    absurd cc
header_pieces_apart a b x y (fold z is) (plain o is') e =
    let head : o ≡ 13 = cc in
    let no : is_in_line 13 ≡ true = rw head at is' in
    absurd cc
header_pieces_apart a b x y (fold z is) (fold z' is') e =
    let head : z ≡ z' = cc in
    let tail : x ≡ y = cc in
    (ap (λ (u : ℕ). 13 ∷ 10 ∷ u ∷ []) head, tail)

break_no : (rest : List ℕ) → ((blank : ℕ) (more : List ℕ) → rest ≡ blank ∷ more → is_blank blank ≡ false)
    → (one more : List ℕ) → IsHeaderPiece one → 13 ∷ 10 ∷ rest ≡ one ++ more → ⊥
break_no rest other one more (plain o is) e =
    let head : o ≡ 13 = cc in
    let no : is_in_line 13 ≡ true = rw head at is in
    absurd cc
break_no rest other one more (fold z is) e =
    let tail : rest ≡ z ∷ more = cc in
    let no : true ≡ false = sym is ∙ other z more tail in
    absurd cc

-- a line break ends a header, where no blank is behind it
pub break_ends : (rest : List ℕ) → ((blank : ℕ) (more : List ℕ) → rest ≡ blank ∷ more → is_blank blank ≡ false)
    → Ends IsHeaderPiece (13 ∷ 10 ∷ rest)
break_ends rest other = λ one more is e. break_no rest other one more is e
