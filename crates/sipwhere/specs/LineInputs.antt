-- Lines of an input, as they come.
use Rattle.std.specs.Prelude.{◌≡◌, ◌≢◌, ◌+◌, ◌-◌, ℕ, nat_lt, List, [], ◌∷◌, ◌++◌, All, Option}
use Rattle.std.specs.Prelude.{◌^◌, min, map, Bool, true, false, length, take, if◌then◌else◌}
use Rattle.std.specs.Io.KnownBytes.{Consumes, IsAtEnd}
use Rattle.std.specs.List.{filter, flat_map}
use Rattle.std.specs.Str.{trim}
use Rattle.std.specs.Str.Lossy.{utf8_lossy}
use Rattle.sipwhere.specs.declared.line.Line.{Line}

-- ---- lines

-- octets have no line end
abbrev pub HasNoEnd : List ℕ → Type 0
HasNoEnd octets = All (λ octet. octet ≢ 10) octets

-- lines, each with its end behind it
abbrev pub ended : List (List ℕ) → List ℕ
ended lines = flat_map (λ line. line ++ 10 ∷ []) lines

-- octets are these lines, each with its end, and the begin of another one
pub record AreLines (octets : List ℕ) (lines : List (List ℕ)) (begun : List ℕ) : Type 0 where
  pub parts : octets ≡ ended lines ++ begun
  pub whole : All HasNoEnd lines
  pub rest : HasNoEnd begun

-- ---- the texts of lines

-- What is kept of a line: the line, or where it has more than 4,096 octets its first 4,096, and two
-- octets 0 in place of the others.
abbrev pub kept : List ℕ → List ℕ
kept line = if nat_lt 4096 (length line) then take 4096 line ++ 0 ∷ 0 ∷ [] else line

-- The text of a line: without the blanks at its ends. An octet that is no UTF-8 is U+FFFD in it.
abbrev pub text_of : List ℕ → List ℕ
text_of line = trim (utf8_lossy (kept line))

-- a text has an octet
abbrev pub has_some : List ℕ → Bool
has_some [] = false
has_some (octet ∷ octets) = true

-- the texts of lines, but for those of blanks alone
abbrev pub texts_of : List (List ℕ) → List (List ℕ)
texts_of lines = filter has_some (map text_of lines)

-- the texts of octets: those of all lines, of the last one without an end too
pub record AreTexts (octets : List ℕ) (texts : List (List ℕ)) : Type 0 where
  pub lines : List (List ℕ)
  pub last : List ℕ
  pub are : AreLines octets lines last
  pub texts_are : texts ≡ texts_of (lines ++ last ∷ [])

-- the texts of an input, as far as it is known which octets it has
pub record AreInputTexts (input : Option (List ℕ)) (texts : List (List ℕ)) : Type 0 where
  pub octets : List ℕ
  pub after : Option (List ℕ)
  pub read : Consumes input after octets
  pub whole : IsAtEnd after
  pub are : AreTexts octets texts

-- ---- an input, as it is read

-- so much was read: these are the texts of the lines that have ended, and this is kept of the line
-- that has begun
pub record IsReading (read : List ℕ) (texts : List (List ℕ)) (begun_kept : List ℕ) : Type 0 where
  pub lines : List (List ℕ)
  pub begun : List ℕ
  pub are : AreLines read lines begun
  pub texts_are : texts ≡ texts_of lines
  pub kept_is : begun_kept ≡ kept begun

-- What contracts see of an input: which octets are left, as far as that is known, what is kept of
-- the line that has begun, and whether its end has come.
pub record InputView : Type 0 where
  pub left : Option (List ℕ)
  pub begun : List ℕ
  pub is_over : Bool

-- so much was read, and these texts were given: of the lines that have ended, or at the end of all
abbrev pub HasGivenWhere : Bool → List ℕ → List (List ℕ) → InputView → Type 0
HasGivenWhere false read texts it = IsReading read texts it.begun
HasGivenWhere true read texts it = AreTexts read texts × IsAtEnd it.left

-- the same, by whether the end of the input has come
abbrev pub HasGiven : List ℕ → List (List ℕ) → InputView → Type 0
HasGiven read texts it = HasGivenWhere it.is_over read texts it

-- an input that has given texts gives more of them, by what comes next
abbrev pub GivesMore : InputView → InputView → List (List ℕ) → Type 0
GivesMore old new more =
    (read : List ℕ) (texts : List (List ℕ)) → HasGiven read texts old
    → (next : List ℕ) × Consumes old.left new.left next
    × HasGiven (read ++ next) (texts ++ more) new

-- ---- numbers

-- the number and the text of a line
abbrev pub said : Line → ℕ × List ℕ
said line = (line.number, line.text.now)

-- texts with their numbers, from this number on, to the greatest number of 64 bits
abbrev pub numbered_from : ℕ → List (List ℕ) → List (ℕ × List ℕ)
numbered_from first [] = []
numbered_from first (text ∷ texts) =
    (min first (2 ^ 64 - 1), text) ∷ numbered_from (first + 1) texts
