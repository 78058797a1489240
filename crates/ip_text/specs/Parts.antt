-- A text, cut at an octet.
use Rattle.std.specs.Prelude.{◌≡◌, ℕ, ◌+◌, ◌≤◌, ◌<◌, slice_index, ◌==◌, Bool, cond, List, [], ◌∷◌, Option, Some, None}
use Rattle.std.specs.List.{slice_split}

-- what stands before the first octet of a kind
abbrev pub before : ℕ → List ℕ → List ℕ
before octet [] = []
before octet (x ∷ xs) = cond (x == octet) [] (x ∷ before octet xs)

-- what stands after it, if there is one
abbrev pub behind : ℕ → List ℕ → Option (List ℕ)
behind octet [] = None
behind octet (x ∷ xs) = cond (x == octet) (Some xs) (behind octet xs)

-- none of so many octets from a place on is of a kind
abbrev pub Lacks : ℕ → List ℕ → ℕ → ℕ → Type 0
Lacks octet text at count = (k : ℕ) → at ≤ k → k < at + count → slice_index text k ≡ octet → ⊥

-- what follows an octet, where it stands in front
abbrev pub behind_front : ℕ → List ℕ → Option (List ℕ)
behind_front octet [] = None
behind_front octet (x ∷ xs) = cond (x == octet) (Some xs) None

-- all the parts between octets of a kind
abbrev pub parted : ℕ → List ℕ → List (List ℕ)
parted octet text = slice_split (λ (x : ℕ). x == octet) text

-- the octets of a class in front, and what follows them
abbrev pub row : (ℕ → Bool) → List ℕ → List ℕ
row class [] = []
row class (x ∷ xs) = cond (class x) (x ∷ row class xs) []

abbrev pub behind_row : (ℕ → Bool) → List ℕ → List ℕ
behind_row class [] = []
behind_row class (x ∷ xs) = cond (class x) (behind_row class xs) (x ∷ xs)
