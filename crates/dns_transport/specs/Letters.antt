-- The letters of the name that a query asks for.
use Rattle.std.specs.Prelude.{◌≡◌, ◌⊎◌, ℕ, ◌-◌, List, ◌++◌, drop, take}
use Rattle.dns_name.specs.Labels.{small_letters}

-- how many octets a name has, where a header and a question have so many: 12 are the header's, and
-- 4 those of QTYPE and QCLASS (RFC 1035 4.1)
abbrev pub name_length : ℕ → ℕ
name_length front = front - 4 - 12

-- the name that a query asks for, where its header and its question have so many octets
abbrev pub name_in : ℕ → List ℕ → List ℕ
name_in front query = take (name_length front) (drop 12 query)

-- a query asks for the same name in letters of other cases (RFC 4343 3)
pub record HasOtherLetters (front : ℕ) (query respelled : List ℕ) : Type 0 where
  pub name : List ℕ
  pub same : small_letters name ≡ small_letters (name_in front query)
  pub is : respelled ≡ take 12 query ++ (name ++ drop (name_length front) (drop 12 query))

-- a query is as it was, or its letters have other cases
abbrev pub IsRespelled : ℕ → List ℕ → List ℕ → Type 0
IsRespelled front query respelled = (respelled ≡ query) ⊎ HasOtherLetters front query respelled
