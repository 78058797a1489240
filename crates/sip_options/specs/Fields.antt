-- Values of CSeq and Content-Length (RFC 3261 20.14, 20.16, 25.1).
use Rattle.std.specs.Prelude.{◌≡◌, ℕ, ◌<◌, ◌==◌, List, [], ◌∷◌, ◌++◌, length, codes}
use Rattle.std.specs.Char.{is_ascii_digit}
use Rattle.ip_text.specs.Numbers.{decimal}
use Rattle.sip_options.specs.Texts.{Many, IsOctet, IsWhite}

-- a text is the number 1, maybe behind zeros, and `OPTIONS`, with white space between and around
-- them
pub record IsOptionsCSeq (text : List ℕ) : Type 0 where
  pub front : List ℕ
  pub zeros : List ℕ
  pub between : List ℕ
  pub back : List ℕ
  pub joined : text ≡ front ++ (zeros ++ 49 ∷ (between ++ (codes "OPTIONS" ++ back)))
  pub are_zeros : Many (IsOctet (λ octet. octet == 48)) zeros
  pub apart : 0 < length between
  pub front_white : IsWhite front
  pub between_white : IsWhite between
  pub back_white : IsWhite back

-- a text is a number in decimal digits with white space around them
pub record IsNumber (text : List ℕ) (number : ℕ) : Type 0 where
  pub front : List ℕ
  pub digits : List ℕ
  pub back : List ℕ
  pub joined : text ≡ front ++ (digits ++ back)
  pub some : 0 < length digits
  pub are_digits : Many (IsOctet is_ascii_digit) digits
  pub is : number ≡ decimal digits
  pub front_white : IsWhite front
  pub back_white : IsWhite back

-- the length that the values of Content-Length say: that of the only one, or 0 without one
abbrev pub LengthOf : List (List ℕ) → ℕ → Type 0
LengthOf [] length = length ≡ 0
LengthOf (value ∷ []) length = IsNumber value length
LengthOf (value ∷ next ∷ values) length = ⊥
