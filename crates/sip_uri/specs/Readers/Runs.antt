-- What the readers of runs give, as functions on lists.
use Rattle.std.specs.Prelude.{◌≡◌, ℕ, zero, suc, ◌==◌, Bool, false, not, ◌&&◌, List, [], ◌∷◌, length, Option, Some, None, if◌then◌else◌, ⊤}
use Rattle.std.specs.Char.{is_ascii_hexdigit}
use Rattle.sip_uri.specs.Classes.{is_user_octet, is_password_octet, is_param_octet, is_header_octet}
use Rattle.sip_uri.specs.Hosts.{is_label_octet}
use Rattle.sip_uri.specs.declared.classes.Class.{Class}
use Rattle.sip_uri.specs.declared.classes.Class.TheVariants.{User, Password, Param, Header, Label}

abbrev pub octets_of : Class → ℕ → Bool
octets_of User octet = is_user_octet octet
octets_of Password octet = is_password_octet octet
octets_of Param octet = is_param_octet octet
octets_of Header octet = is_header_octet octet
octets_of Label octet = is_label_octet octet

-- the bit of a class
abbrev pub bit : Class → ℕ
bit User = 1
bit Password = 2
bit Param = 4
bit Header = 8
bit Label = 16

-- what follows an escaped octet
abbrev pub behind_escaped : List ℕ → Option (List ℕ)
behind_escaped [] = None
behind_escaped (x ∷ []) = None
behind_escaped (x ∷ high ∷ []) = None
behind_escaped (x ∷ high ∷ low ∷ rest) =
    if x == 37 && is_ascii_hexdigit high && is_ascii_hexdigit low then Some rest else None

-- a run, of which so many digits of an escaped octet are still to come
abbrev pub run_from : (ℕ → Bool) → ℕ → List ℕ → Bool
run_from class left [] = left == 0
run_from class zero (octet ∷ text) =
    if octet == 37 then run_from class 2 text else class octet && run_from class 0 text
run_from class (suc left) (octet ∷ text) = is_ascii_hexdigit octet && run_from class left text

abbrev pub is_run : (ℕ → Bool) → List ℕ → Bool
is_run class text = run_from class 0 text

abbrev pub is_some_run : (ℕ → Bool) → List ℕ → Bool
is_some_run class text = not (length text == 0) && is_run class text

-- neither an octet of the class nor an escaped one stands in front
abbrev pub RunEnds : (ℕ → Bool) → List ℕ → Type 0
RunEnds class [] = ⊤
RunEnds class (x ∷ text) = (class x ≡ false) × (behind_escaped (x ∷ text) ≡ None)
