-- The values of CSeq and Content-Length.
use Rattle.std.proofs.Common.{◌≡◌, ℕ, ◌<◌, Bool, true, false, not, ◌||◌, nat_lt, List, [], ◌∷◌, ◌++◌, length, Some, None, refl, sym, ap, ◌∙◌, inl, inr, arith, eqb}
use Rattle.std.specs.Char.{is_ascii_digit}
use Rattle.std.specs.List.{list_all}
use Rattle.std.specs.Prelude.{codes}
use Rattle.std.proofs.lemmas.Bool.{cases_Bool}
use Rattle.std.proofs.lemmas.Bool.Decides.{nat_tests}
use Rattle.std.proofs.lemmas.List.{append-nil}
use Rattle.ip_text.specs.Numbers.{decimal, decimal_within}
use Rattle.sip_options.specs.Fields.{IsOptionsCSeq, IsNumber, LengthOf}
use Rattle.sip_options.specs.Readers.Numbers.{capped}
use Rattle.sip_options.specs.Readers.Words.{IsMethod}
use Rattle.sip_options.specs.Texts.{Many, none, more, Ends, IsOctet, IsWhite, is_white}
use Rattle.sip_options.proofs.Octets.{no_octet, no_octet-nil, ends_behind, same_cut, first_of}
use Rattle.sip_options.proofs.WordTexts.{many_at}

-- ---- numbers

abbrev is_zero : ℕ → Bool
is_zero octet = eqb octet 48

white_no_digit : (x : ℕ) → is_white x ≡ true → is_ascii_digit x ≡ false
white_no_digit x is = grind (arith, nat_tests)

digit_no_white : (x : ℕ) → is_ascii_digit x ≡ true → is_white x ≡ false
digit_no_white x is =
    elim (cases_Bool (is_white x)) [
      | inl white ↦ (let no = white_no_digit x white in absurd (let differ : true ≡ false = sym is ∙ no in cc))
      | inr other ↦ other
    ]

digits_start : (digits rest : List ℕ) → Many (IsOctet is_ascii_digit) digits → 0 < length digits → Ends (IsOctet is_white) (digits ++ rest)
digits_start digits rest are some =
    let k = first_of is_ascii_digit digits are some in
    rw k.2 (no_octet is_white k.0 (k.1 ++ rest) (digit_no_white k.0 k.3))

digits_end : (back : List ℕ) → IsWhite back → Ends (IsOctet is_ascii_digit) back
digits_end back white =
    rw append-nil at (ends_behind is_ascii_digit is_white white_no_digit back [] white (no_octet-nil is_ascii_digit))

module _ (value front rest digits back : List ℕ) (joined : value ≡ front ++ rest) (white : IsWhite front)
    (ends : Ends (IsOctet is_white) rest) (joined' : rest ≡ digits ++ back) (are : Many (IsOctet is_ascii_digit) digits)
    (ends' : Ends (IsOctet is_ascii_digit) back) where
  pub number_cut : (number : ℕ) → (is : IsNumber value number) → (digits ≡ is.digits) × (back ≡ is.back)
  number_cut number is =
      let k = same_cut is_white value front rest is.front (is.digits ++ is.back) joined white ends is.joined is.front_white
      (digits_start is.digits is.back is.are_digits is.some) in
      same_cut is_ascii_digit rest digits back is.digits is.back joined' are ends' k.1 is.are_digits (digits_end is.back is.back_white)

  pub number_made : 0 < length digits → IsWhite back → IsNumber value (decimal digits)
  number_made some white' = record {
    front = front;
    digits = digits;
    back = back;
    joined = joined ∙ ap (λ (u : List ℕ). front ++ u) joined';
    some = some;
    are_digits = are;
    is = refl;
    front_white = white;
    back_white = white';
  }

  pub numberless : length digits ≡ 0 → (number : ℕ) → IsNumber value number → ⊥
  numberless short number is = omega (arith, short, ap length (number_cut number is).0, is.some)

  pub number_white : (number : ℕ) → IsNumber value number → IsWhite back
  number_white number is = many_at is.back back (sym (number_cut number is).1) is.back_white

pub all_digits : (digits : List ℕ) → Many (IsOctet is_ascii_digit) digits → list_all is_ascii_digit digits ≡ true
all_digits digits none = refl
all_digits digits (more t one others is many joined) =
    let whole : digits ≡ is.0 ∷ others = joined ∙ ap (λ (u : List ℕ). u ++ others) is.2 in
    let first : is_ascii_digit is.0 ≡ true = is.1 in
    rw whole (rw first (all_digits others many))

-- a number that is above the limit
pub large : (digits : List ℕ) → Many (IsOctet is_ascii_digit) digits → 0 < length digits → decimal_within 65535 digits ≡ None
    → 65536 ≡ capped (decimal digits)
large digits are some e =
    let all = all_digits digits are in
    elim (cases_Bool (nat_lt 65535 (decimal digits))) [
      | inl over ↦ rw over refl
      | inr within ↦ (
          let good : eqb (length digits) 0 || not (list_all is_ascii_digit digits) || nat_lt 65535 (decimal digits) ≡ false =
          rw (all, within) (grind (arith, nat_tests)) in
          let no : Some (decimal digits) ≡ None = rw good at e in
          absurd cc)
    ]

-- ---- CSeq

zero_no_white : (x : ℕ) → is_zero x ≡ true → is_white x ≡ false
zero_no_white x is = (let same : x ≡ 48 = grind (arith, nat_tests) in rw same refl)

module _ (value front rest zeros behind : List ℕ) (joined : value ≡ front ++ rest) (white : IsWhite front)
    (ends : Ends (IsOctet is_white) rest) (joined' : rest ≡ zeros ++ behind) (are : Many (IsOctet is_zero) zeros)
    (ends' : Ends (IsOctet is_zero) behind) where
  pub one_behind : (is : IsOptionsCSeq value) → behind ≡ 49 ∷ (is.between ++ (codes "OPTIONS" ++ is.back))
  one_behind is =
      let after : List ℕ = is.between ++ (codes "OPTIONS" ++ is.back) in
      let starts : Ends (IsOctet is_white) (is.zeros ++ 49 ∷ after) =
      ends_behind is_white is_zero zero_no_white is.zeros (49 ∷ after) is.are_zeros (no_octet is_white 49 after refl) in
      let k = same_cut is_white value front rest is.front (is.zeros ++ 49 ∷ after) joined white ends is.joined is.front_white starts in
      (same_cut is_zero rest zeros behind is.zeros (49 ∷ after) joined' are ends' k.1 is.are_zeros (no_octet is_zero 49 after refl)).1

  module _ (number between method : List ℕ) (one : behind ≡ 49 ∷ number) (joined'' : number ≡ between ++ method)
      (white' : IsWhite between) (ends'' : Ends (IsOctet is_white) method) where
    pub method_behind : (is : IsOptionsCSeq value) → (between ≡ is.between) × (method ≡ codes "OPTIONS" ++ is.back)
    method_behind is =
        let e = sym one ∙ one_behind is in
        let tail : number ≡ is.between ++ (codes "OPTIONS" ++ is.back) = cc (e) in
        same_cut is_white number between method is.between (codes "OPTIONS" ++ is.back) joined'' white' ends'' tail is.between_white
        (no_octet is_white 79 (codes "PTIONS" ++ is.back) refl)

    pub cseq_made : 0 < length between → IsMethod method → IsOptionsCSeq value
    cseq_made some is = record {
      front = front;
      zeros = zeros;
      between = between;
      back = is.0;
      joined = joined ∙ ap (λ (u : List ℕ). front ++ u)
          (joined' ∙ ap (λ (u : List ℕ). zeros ++ u)
          (one ∙ ap (λ (u : List ℕ). 49 ∷ u) (joined'' ∙ ap (λ (u : List ℕ). between ++ u) is.2)));
      are_zeros = are;
      apart = some;
      front_white = white;
      between_white = white';
      back_white = is.1;
    }

    pub cseq_method : IsOptionsCSeq value → IsMethod method
    cseq_method is = (is.back, is.back_white, (method_behind is).1)

    pub cseq_apart : IsOptionsCSeq value → length between ≡ 0 → ⊥
    cseq_apart is short = omega (arith, short, ap length (method_behind is).0, is.apart)

-- ---- Content-Length

one_number : (value : List ℕ) (a b : ℕ) → IsNumber value a → IsNumber value b → a ≡ b
one_number value a b is is' =
    let k = number_cut value is.front (is.digits ++ is.back) is.digits is.back is.joined is.front_white
    (digits_start is.digits is.back is.are_digits is.some) refl is.are_digits (digits_end is.back is.back_white) b is' in
    is.is ∙ ap decimal k.0 ∙ sym is'.is

pub one_length : (values : List (List ℕ)) (a b : ℕ) → LengthOf values a → LengthOf values b → a ≡ b
one_length [] a b is is' = is ∙ sym is'
one_length (value ∷ []) a b is is' = one_number value a b is is'
one_length (value ∷ next ∷ values) a b is is' = absurd is
