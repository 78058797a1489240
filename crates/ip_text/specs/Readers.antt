-- What the readers of addresses and numbers give, as functions on lists.
use Rattle.std.specs.Prelude.{◌≡◌, ℕ, ◌+◌, ◌<◌, ◌-◌, ◌/◌, ◌%◌, ◌==◌, nat_lt, Bool, true, false, not, ◌||◌, ◌&&◌, List, [], ◌∷◌, ◌++◌, length, replicate, Option, Some, None, if◌then◌else◌}
use Rattle.std.specs.List.{list_all}
use Rattle.std.specs.Option.{option_map, option_and_then, option_or}
use Rattle.std.specs.Char.{digit_value, is_ascii_digit, is_ascii_hexdigit}
use Rattle.ip_text.specs.Numbers.{decimal_within, hexadecimal}
use Rattle.ip_text.specs.Parts.{before, behind, behind_front, parted, row, behind_row}

infixl 10 ◌>>=◌
abbrev pub ◌>>=◌ : {A B : Type 0} → Option A → (A → Option B) → Option B
o >>= f = option_and_then f o

abbrev pub hexadecimal_digit : ℕ → Option ℕ
hexadecimal_digit octet = if is_ascii_hexdigit octet then Some (digit_value octet) else None

abbrev pub hexadecimal_group : List ℕ → Option ℕ
hexadecimal_group text =
    if length text == 0 || nat_lt 4 (length text) || not (list_all is_ascii_hexdigit text) then None
    else Some (hexadecimal text)

abbrev pub ipv4_number : List ℕ → Option ℕ
ipv4_number text = if nat_lt 3 (length text) then None else decimal_within 255 text

-- the number of the decimal digits in front, and what follows them
abbrev pub number_in_front : List ℕ → Option (ℕ × List ℕ)
number_in_front text =
    option_map (λ (number : ℕ). (number, behind_row is_ascii_digit text))
    (ipv4_number (row is_ascii_digit text))

-- the number behind a dot in front, and what follows it
abbrev pub dotted_number : List ℕ → Option (ℕ × List ℕ)
dotted_number text = behind_front 46 text >>= number_in_front

-- the number of the hexadecimal digits in front, and what follows them
abbrev pub group_in_front : List ℕ → Option (ℕ × List ℕ)
group_in_front text =
    option_map (λ (number : ℕ). (number, behind_row is_ascii_hexdigit text))
    (hexadecimal_group (row is_ascii_hexdigit text))

unfoldable pub ipv4 : List ℕ → Option (List ℕ)
ipv4 text = do
  second ← behind 46 text
  third ← behind 46 second
  fourth ← behind 46 third
  a ← ipv4_number (before 46 text)
  b ← ipv4_number (before 46 second)
  c ← ipv4_number (before 46 third)
  d ← ipv4_number fourth
  Some (a ∷ b ∷ c ∷ d ∷ [])

-- a text after two colons
abbrev pub behind_colons : List ℕ → Option (List ℕ)
behind_colons [] = None
behind_colons (x ∷ []) = None
behind_colons (x ∷ y ∷ text) = if x == 58 && y == 58 then Some text else None

abbrev pub with_front : List ℕ → List ℕ × List ℕ → List ℕ × List ℕ
with_front front sides = (front ++ sides.0, sides.1)

abbrev pub around_colons : List ℕ → Option (List ℕ × List ℕ)
around_colons [] = None
around_colons (x ∷ text) =
    elim (behind_colons (x ∷ text)) [
      | None ↦ option_map (with_front (x ∷ []))
          (around_colons text)
      | Some right ↦ Some ([], right)
    ]

abbrev pub group : List ℕ → Option (List ℕ)
group text = option_map (λ (number : ℕ). number / 256 ∷ number % 256 ∷ []) (hexadecimal_group text)

abbrev pub last_group : Bool → List ℕ → Option (List ℕ)
last_group closing text = if closing then option_or (ipv4 text) (group text) else group text

abbrev pub groups : Bool → List (List ℕ) → Option (List ℕ)
groups closing [] = None
groups closing (text ∷ []) = last_group closing text
groups closing (text ∷ next ∷ texts) =
    group text >>= λ (octets : List ℕ). option_map
    (λ (more : List ℕ). octets ++ more) (groups closing (next ∷ texts))

-- a text is groups, or has them before two colons, behind which this stands
abbrev pub IsFront : List ℕ → List ℕ → Option (List ℕ) → Type 0
IsFront text octets None = groups true (parted 58 text) ≡ Some octets
IsFront text octets (Some right) =
    (left : List ℕ) × (text ≡ left ++ 58 ∷ 58 ∷ right)
    × (groups false (parted 58 left) ≡ Some octets)

-- a text has no such groups, or more than eight
pub record NoFront (text : List ℕ) : Type 0 where
  pub whole : (octets : List ℕ) → groups true (parted 58 text) ≡ Some octets → 16 < length octets
  pub left : (left right octets : List ℕ) → text ≡ left ++ 58 ∷ 58 ∷ right
      → groups false (parted 58 left) ≡ Some octets → 16 < length octets

abbrev pub side : Bool → List ℕ → Option (List ℕ)
side closing text = if length text == 0 then Some [] else groups closing (parted 58 text)

abbrev pub filled : List ℕ → List ℕ → Option (List ℕ)
filled front end =
    if nat_lt 14 (length front + length end) then None
    else Some (front ++ replicate (16 - (length front + length end)) 0 ++ end)

abbrev pub sixteen : List ℕ → Option (List ℕ)
sixteen octets = if length octets == 16 then Some octets else None

abbrev pub whole : List ℕ → Option (List ℕ)
whole text = groups true (parted 58 text) >>= sixteen

abbrev pub shortened : List ℕ → List ℕ → Option (List ℕ)
shortened left right =
    side false left >>= λ (front : List ℕ). side true right >>= λ (end : List ℕ). filled front end

-- the octets, from what stands around the first two colons
abbrev pub ipv6_around : List ℕ → Option (List ℕ × List ℕ) → Option (List ℕ)
ipv6_around text None = whole text
ipv6_around text (Some sides) = shortened sides.0 sides.1

abbrev pub ipv6 : List ℕ → Option (List ℕ)
ipv6 text = ipv6_around text (around_colons text)
