-- Pieces of texts: repetitions, white space, words (RFC 3261 7.3.1, 25.1).
use Rattle.std.specs.Prelude.{◌≡◌, ℕ, ◌==◌, Bool, not, ◌||◌, IsTrue, List, [], ◌∷◌, ◌++◌}
use Rattle.std.specs.Str.{str_to_ascii_lowercase}

-- a text is any number of pieces, one after the other
pub data Many (IsOne : List ℕ → Type 0) : List ℕ → Type 0 where
  none : Many IsOne []
  more : (text one others : List ℕ) → IsOne one → Many IsOne others → text ≡ one ++ others
      → Many IsOne text

-- a text is one octet of a class
abbrev pub IsOctet : (ℕ → Bool) → List ℕ → Type 0
IsOctet class text = (octet : ℕ) × IsTrue (class octet) × (text ≡ octet ∷ [])

-- an octet is a space or a tab
abbrev pub is_blank : ℕ → Bool
is_blank octet = octet == 32 || octet == 9

-- an octet is CR or LF
abbrev pub is_break : ℕ → Bool
is_break octet = octet == 13 || octet == 10

-- an octet of linear white space: a space, a tab, or one of a line break in a header
abbrev pub is_white : ℕ → Bool
is_white octet = is_blank octet || is_break octet

-- an octet that a line may have: any but CR and LF
abbrev pub is_in_line : ℕ → Bool
is_in_line octet = not (is_break octet)

-- a text is linear white space, or nothing
abbrev pub IsWhite : List ℕ → Type 0
IsWhite text = Many (IsOctet is_white) text

-- a text is a word, in letters of any case
abbrev pub IsWord : List ℕ → List ℕ → Type 0
IsWord word text = str_to_ascii_lowercase text ≡ str_to_ascii_lowercase word

-- a text is a word as it stands, with white space around it
pub record IsAlone (word text : List ℕ) : Type 0 where
  pub front : List ℕ
  pub back : List ℕ
  pub joined : text ≡ front ++ (word ++ back)
  pub front_white : IsWhite front
  pub back_white : IsWhite back

-- no piece stands in front of a text
abbrev pub Ends : (List ℕ → Type 0) → List ℕ → Type 0
Ends IsOne text = (one rest : List ℕ) → IsOne one → text ≡ one ++ rest → ⊥
