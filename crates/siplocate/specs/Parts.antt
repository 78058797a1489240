-- A text whose first empty line parts a zone from requests.
use Rattle.std.specs.Prelude.{◌≡◌, ◌≤◌, ◌⊎◌, ◌++◌, ℕ, List, [], ◌∷◌, length}

-- the end of a line: a line feed, alone or after a carriage return
abbrev pub IsLineEnd : List ℕ → Type 0
IsLineEnd octets = (octets ≡ 10 ∷ []) ⊎ (octets ≡ 13 ∷ 10 ∷ [])

-- a line begins after this: it is empty, or ends with a line feed
abbrev pub BeginsLine : List ℕ → Type 0
BeginsLine front = (front ≡ []) ⊎ ((before : List ℕ) × (front ≡ before ++ 10 ∷ []))

-- an empty line is between two parts of a text
pub record HasEmptyLine (text front rest : List ℕ) : Type 0 where
  pub line : List ℕ
  pub joined : text ≡ front ++ line ++ rest
  pub begins : BeginsLine front
  pub ends : IsLineEnd line

-- the first empty line of a text is between these parts
pub record IsParted (text front rest : List ℕ) : Type 0 where
  pub here : HasEmptyLine text front rest
  pub first : (other others : List ℕ) → HasEmptyLine text other others → length front ≤ length other

-- a text is a zone and requests; where there is no empty line, all of it is the zone
abbrev pub AreParts : List ℕ → List ℕ → List ℕ → Type 0
AreParts text zone requests =
    IsParted text zone requests
    ⊎ (((front rest : List ℕ) → HasEmptyLine text front rest → ⊥) × (zone ≡ text) × (requests ≡ []))
