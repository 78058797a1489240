-- What the readers of the parts of a Via give, as functions on lists.
use Rattle.std.specs.Prelude.{◌≡◌, ℕ, zero, suc, ◌==◌, nat_lt, Bool, true, false, ◌||◌, List, [], ◌∷◌, length, map, slice_index, drop, Option, Some, None, if◌then◌else◌}
use Rattle.std.specs.List.{AllPairs, list_any}
use Rattle.std.specs.Option.{option_map}
use Rattle.std.specs.Str.{str_eq_ignore_ascii_case}
use Rattle.dns_name.specs.Labels.{small_letters}
use Rattle.ip_text.specs.Readers.{◌>>=◌}
use Rattle.sip_uri.specs.ViaClasses.{is_blank, is_token_octet, is_in_host, is_in_port, is_value_octet, row, behind_row}
use Rattle.sip_uri.specs.declared.via_classes.Row.{Row}
use Rattle.sip_uri.specs.declared.via_classes.Row.TheVariants as class

abbrev pub octets_of : Row → ℕ → Bool
octets_of class.Blank octet = is_blank octet
octets_of class.Token octet = is_token_octet octet
octets_of class.Host octet = is_in_host octet
octets_of class.Port octet = is_in_port octet
octets_of class.Value octet = is_value_octet octet

abbrev pub behind_first : ℕ → List ℕ → Option (List ℕ)
behind_first mark [] = None
behind_first mark (x ∷ text) = if x == mark then Some (behind_row is_blank text) else None

-- what follows an octet with blanks around it
unfoldable pub behind_mark : ℕ → List ℕ → Option (List ℕ)
behind_mark mark text = behind_first mark (behind_row is_blank text)

-- what follows a quoted string, of which the first `"` is passed, and maybe a `\`
abbrev pub quoted_from : Bool → List ℕ → Option (List ℕ)
quoted_from escaped [] = None
quoted_from false (x ∷ text) =
    if x == 13 || x == 10 then None else
    (if x == 92 then quoted_from true text else
    (if x == 34 then Some text else quoted_from false text))
quoted_from true (x ∷ text) =
    if x == 13 || x == 10 then None else
    (if nat_lt x 128 then quoted_from false text else None)

abbrev pub behind_quoted : List ℕ → Option (List ℕ)
behind_quoted text = quoted_from false text

abbrev pub some_value : List ℕ → List ℕ → Option (List ℕ)
some_value [] rest = None
some_value (x ∷ value) rest = Some rest

unfoldable pub behind_value : List ℕ → Option (List ℕ)
behind_value text =
    if slice_index text 0 == 34 then behind_quoted (drop 1 text)
    else some_value (row is_value_octet text) (behind_row is_value_octet text)

abbrev pub valued : List ℕ → Option (List ℕ) → Option (List ℕ)
valued text None = Some text
valued text (Some value) = behind_value value

unfoldable pub behind_valued : List ℕ → Option (List ℕ)
behind_valued text = valued text (behind_mark 61 text)

abbrev pub named : List ℕ → List ℕ → Option (List ℕ × List ℕ)
named [] rest = None
named (x ∷ name) rest = option_map (λ (after : List ℕ). (x ∷ name, after)) (behind_valued rest)

unfoldable pub next_param : List ℕ → Option (List ℕ × List ℕ)
next_param text =
    behind_mark 59 text >>= λ (rest : List ℕ). named (row is_token_octet rest)
    (behind_row is_token_octet rest)

-- the names of the first parameters
abbrev pub names_of : (List ℕ → List (List ℕ)) → Option (List ℕ × List ℕ) → List (List ℕ)
names_of further None = []
names_of further (Some found) = found.0 ∷ further found.1

abbrev pub names : ℕ → List ℕ → List (List ℕ)
names zero text = []
names (suc count) text = names_of (names count) (next_param text)

abbrev pub stands_in : List (List ℕ) → List ℕ → Bool
stands_in earlier name = list_any (λ (other : List ℕ). str_eq_ignore_ascii_case other name) earlier

-- no two of the parameters in front have one name
abbrev pub AreNamesApart : List ℕ → Type 0
AreNamesApart text = AllPairs (λ a b. a ≡ b → ⊥) (map small_letters (names (length text) text))
