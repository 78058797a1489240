-- What the readers of words and lines find.
use Rattle.std.specs.Prelude.{◌≡◌, ℕ, List, ◌∷◌, ◌++◌, codes}
use Rattle.sip_options.specs.Texts.{Many, Ends, IsOctet, IsWhite, IsWord, is_white, is_in_line}

-- a word is in front of a text, in letters of any case, and then comes the rest
pub record BeginsWord (word text rest : List ℕ) : Type 0 where
  pub front : List ℕ
  pub is : IsWord word front
  pub joined : text ≡ front ++ rest

-- a word is in front of a text, in letters of any case and with white space around it
pub record BeginsWhiteWord (word text rest : List ℕ) : Type 0 where
  pub front : List ℕ
  pub found : List ℕ
  pub back : List ℕ
  pub front_white : IsWhite front
  pub is : IsWord word found
  pub back_white : IsWhite back
  pub ends : Ends (IsOctet is_white) rest
  pub joined : text ≡ front ++ (found ++ (back ++ rest))

-- octets other than CR and LF and a line break are in front of a text
pub record BeginsLine (text rest : List ℕ) : Type 0 where
  pub line : List ℕ
  pub is : Many (IsOctet is_in_line) line
  pub joined : text ≡ line ++ 13 ∷ 10 ∷ rest

-- a text is `OPTIONS` and white space
abbrev pub IsMethod : List ℕ → Type 0
IsMethod text = (back : List ℕ) × IsWhite back × (text ≡ codes "OPTIONS" ++ back)
