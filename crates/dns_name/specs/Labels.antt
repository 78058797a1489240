-- What a domain name is (RFC 1035 2.3, 3.1): a list of labels, and its octets without pointers.
use Rattle.std.specs.Prelude.{◌≡◌, ℕ, zero, suc, ◌<◌, ◌≤◌, Bool, nat_eq, List, [], ◌∷◌, ◌++◌, length, take, drop, map, Option, Some, None}
use Rattle.std.specs.Cmp.Lexicographic.{pointwise}
use Rattle.std.specs.List.{AllByRecursion}
use Rattle.std.specs.Char.{to_ascii_lowercase}

-- each capital of ASCII as its small letter (RFC 1035 2.3.3)
abbrev pub small_letters : List ℕ → List ℕ
small_letters octets = map to_ascii_lowercase octets

-- a label has 1 to 63 octets, and no capital of ASCII (RFC 1035 2.3.4)
pub record IsLabel (label : List ℕ) : Type 0 where
  pub some : 0 < length label
  pub short : length label ≤ 63
  pub small : small_letters label ≡ label

-- the octets without pointers: each label after its length, and 0 for the root
abbrev pub wire_of : List (List ℕ) → List ℕ
wire_of [] = 0 ∷ []
wire_of (label ∷ labels) = length label ∷ label ++ wire_of labels

-- a name is a list of labels with at most 255 octets in `wire_of` (RFC 1035 2.3.4); the root has no
-- label
pub record IsName (labels : List (List ℕ)) : Type 0 where
  pub each : AllByRecursion IsLabel labels
  pub short : length (wire_of labels) ≤ 255

-- two names are the same, label by label (RFC 1035 2.3.3)
abbrev pub same_name : List (List ℕ) → List (List ℕ) → Bool
same_name name other = pointwise (pointwise nat_eq) name other

-- the name without its first label (RFC 1034 3.1); the root has none
abbrev pub parent_of : List (List ℕ) → Option (List (List ℕ))
parent_of [] = None
parent_of (label ∷ labels) = Some labels

-- the first labels, at most so many, that octets without pointers spell
abbrev pub first_labels : ℕ → List ℕ → List (List ℕ)
first_labels zero octets = []
first_labels (suc n) [] = []
first_labels (suc n) (zero ∷ octets) = []
first_labels (suc n) (suc k ∷ octets) = take (suc k) octets ∷ first_labels n (drop (suc k) octets)

-- all the labels that octets without pointers spell
unfoldable pub labels_of : List ℕ → List (List ℕ)
labels_of octets = first_labels (length octets) octets

-- the octets spell a name
pub record IsWire (octets : List ℕ) : Type 0 where
  pub name : IsName (labels_of octets)
  pub whole : wire_of (labels_of octets) ≡ octets
