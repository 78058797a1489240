-- How a text of somebody else is shown, so that it is one line and no command to a terminal.
use Rattle.std.specs.Prelude.{ℕ, ◌+◌, ◌/◌, ◌%◌, ◌≤◌, ◌==◌, nat_lt, Bool, ◌&&◌, not, List, [], ◌∷◌, if◌then◌else◌}
use Rattle.std.specs.List.{flat_map}

-- an octet stands for itself: it is a printable character of ASCII, and no backslash
abbrev pub is_plain : ℕ → Bool
is_plain octet = nat_lt 31 octet && nat_lt octet 127 && not (octet == 92)

-- a hexadecimal digit, in small letters
abbrev pub hexadecimal_character : ℕ → ℕ
hexadecimal_character digit = if nat_lt digit 10 then 48 + digit else 87 + digit

-- an octet as it is shown: itself, or `\x` and two hexadecimal digits
abbrev pub shown_octet : ℕ → List ℕ
shown_octet octet =
    if is_plain octet then octet ∷ []
    else 92 ∷ 120 ∷ hexadecimal_character (octet / 16) ∷ hexadecimal_character (octet % 16) ∷ []

-- a text as it is shown
abbrev pub shown : List ℕ → List ℕ
shown text = flat_map shown_octet text

-- an octet is a printable character of ASCII
pub record IsPrintable (octet : ℕ) : Type 0 where
  pub least : 32 ≤ octet
  pub most : octet ≤ 126
