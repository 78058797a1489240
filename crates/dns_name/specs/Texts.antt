-- Names as texts (RFC 1035 5.1).
use Rattle.std.specs.Prelude.{◌≡◌, ℕ, ◌+◌, ◌-◌, ◌/◌, ◌%◌, ◌<◌, ◌≤◌, ◌==◌, nat_lt, Bool, ◌||◌, not, IsTrue, List, [], ◌∷◌, ◌++◌, length, map, take, slice_index, Option, Some, None, if◌then◌else◌, ◌⊎◌}
use Rattle.std.specs.List.{AllByRecursion, flat_map, list_all, join_with_byte, slice_split}
use Rattle.std.specs.Option.{option_or}
use Rattle.std.specs.Char.{is_ascii_alphanumeric}
use Rattle.std.specs.Str.{bytes_eq}
use Rattle.dns_name.specs.Labels.{small_letters, wire_of}
use Rattle.dns_name.specs.declared.refusal.NameRefusal.{NameRefusal}
use Rattle.dns_name.specs.declared.refusal.NameRefusal.TheVariants.{EmptyLabel, LongLabel, LongName, BadOctet}

-- an octet is a letter, a digit, `_` or `-` (RFC 1035 2.3.1, RFC 2782)
abbrev pub is_text_octet : ℕ → Bool
is_text_octet octet = is_ascii_alphanumeric octet || octet == 95 || octet == 45

-- ---- the texts of a name

-- a label as a text has it: 1 to 63 letters, digits, `_` and `-`
pub record IsTextLabel (label : List ℕ) : Type 0 where
  pub some : 0 < length label
  pub octets : IsTrue (list_all is_text_octet label)
  pub short : length label ≤ 63

-- a text is labels with dots between them, and optionally one after the last
abbrev pub IsDotted : List (List ℕ) → List ℕ → Type 0
IsDotted labels text = (text ≡ join_with_byte 46 labels)
    ⊎ (text ≡ join_with_byte 46 labels ++ 46 ∷ [])

-- a text spells a name: its labels in letters of any case, or a dot alone for the root
pub data TextOf : List (List ℕ) → List ℕ → Type 0 where
  root : {text : List ℕ} → text ≡ 46 ∷ [] → TextOf [] text
  dotted : {name : List (List ℕ)} {text : List ℕ} (written : List (List ℕ)) → 0 < length written
      → AllByRecursion IsTextLabel written
      → IsDotted written text
      → name ≡ map small_letters written
      → length (wire_of name) ≤ 255
      → TextOf name text

-- a name has letters, digits, `_` and `-` alone (RFC 1035 2.3.1, RFC 2782)
abbrev pub IsPlain : List (List ℕ) → Type 0
IsPlain name = AllByRecursion (λ label. IsTrue (list_all is_text_octet label)) name

-- ---- what is wrong with a text of no name

-- the fault of one label: it is empty, has an octet of no text, or is too long, in this order
abbrev pub label_fault : List ℕ → Option NameRefusal
label_fault label =
    if length label == 0 then Some EmptyLabel else
    (if not (list_all is_text_octet label) then Some BadOctet else
    (if nat_lt 63 (length label) then Some LongLabel else None))

-- the fault of the first label, from the left, that has one
abbrev pub labels_fault : List (List ℕ) → Option NameRefusal
labels_fault [] = None
labels_fault (label ∷ labels) = option_or (label_fault label) (labels_fault labels)

-- the fault of labels together: their name is too long
abbrev pub length_fault : List (List ℕ) → Option NameRefusal
length_fault labels = if nat_lt 255 (length (wire_of labels)) then Some LongName else None

-- the text without its closing dot, if it has one
abbrev pub without_closing_dot : List ℕ → List ℕ
without_closing_dot text =
    if slice_index text (length text - 1) == 46 then take (length text - 1) text else text

-- the labels of a text, which dots part
abbrev pub parted : List ℕ → List (List ℕ)
parted text = slice_split (λ octet. octet == 46) text

-- the fault of labels: a fault of one label comes before one of the length
abbrev pub dotted_fault : List (List ℕ) → Option NameRefusal
dotted_fault labels = option_or (labels_fault labels) (length_fault labels)

-- the fault of a text: that of its first label from the left that has one, else that the name is
-- too long; a dot alone has none
abbrev pub text_fault : List ℕ → Option NameRefusal
text_fault text =
    if bytes_eq text (46 ∷ []) then None else dotted_fault (parted (without_closing_dot text))

-- the fault of two labels that are put in front of a name
abbrev pub prefix_fault : List ℕ → List ℕ → List (List ℕ) → Option NameRefusal
prefix_fault service proto name =
    option_or (label_fault service)
    (option_or (label_fault proto) (length_fault (service ∷ proto ∷ name)))

-- ---- the text that is written

-- an octet of a label as a text shows it: itself, or `\` and three decimal digits
abbrev pub shown : ℕ → List ℕ
shown octet =
    if is_text_octet octet then octet ∷ []
    else 92 ∷ (48 + octet / 100) ∷ (48 + octet / 10 % 10) ∷ (48 + octet % 10) ∷ []

-- the text of a label, and a dot
abbrev pub label_text : List ℕ → List ℕ
label_text label = flat_map shown label ++ 46 ∷ []

-- the text of a name: each label and a dot, with `\` and three digits for another octet; of the
-- root a dot alone (RFC 1035 5.1)
abbrev pub text_of : List (List ℕ) → List ℕ
text_of [] = 46 ∷ []
text_of (label ∷ labels) = flat_map label_text (label ∷ labels)
