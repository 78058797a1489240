-- The words after the program's name.
use Rattle.std.specs.Prelude.{◌≡◌, ◌≤◌, ◌⊎◌, ℕ, List, [], ◌∷◌, codes, Option, Some, None, if◌then◌else◌}
use Rattle.std.specs.Fmt.{decimal}
use Rattle.std.specs.Str.{bytes_eq}
use Rattle.sip_selection.specs.declared.caps.Families.{Families}
use Rattle.sip_selection.specs.declared.caps.Families.TheVariants.{V4, V6, V4ThenV6, V6ThenV4}
use Rattle.siplocate.specs.declared.arguments.Command.{Command}
use Rattle.siplocate.specs.declared.arguments.Command.TheVariants.{One, Run, Usage}

-- the families of addresses of a word, in their order
abbrev pub families_of : List ℕ → Option Families
families_of word =
    if bytes_eq word (codes "4") then Some V4 else
    (if bytes_eq word (codes "6") then Some V6 else
    (if bytes_eq word (codes "46") then Some V4ThenV6 else
    (if bytes_eq word (codes "64") then Some V6ThenV4 else None)))

-- a number of workers: 1 to 64, in decimal digits without a leading zero
pub record IsCount (word : List ℕ) (count : ℕ) : Type 0 where
  pub least : 1 ≤ count
  pub most : count ≤ 64
  pub written : word ≡ decimal count

-- the words are `one` alone, which is for IPv4, or `one` with families
abbrev pub SaysOne : List (List ℕ) → Families → Type 0
SaysOne words families =
    ((words ≡ codes "one" ∷ []) × (families ≡ V4))
    ⊎ ((word : List ℕ) × (words ≡ codes "one" ∷ word ∷ []) × (families_of word ≡ Some families))

-- the words are `run` and a number of workers
pub record SaysRun (words : List (List ℕ)) (workers : ℕ) : Type 0 where
  pub word : List ℕ
  pub are : words ≡ codes "run" ∷ word ∷ []
  pub count : IsCount word workers

-- the words are no command
pub record SaysNothing (words : List (List ℕ)) : Type 0 where
  pub no_one : (families : Families) → SaysOne words families → ⊥
  pub no_run : (workers : ℕ) → SaysRun words workers → ⊥

-- the command that words say: `SaysOne`, `SaysRun` with a count (`IsCount`), or neither
abbrev pub Means : List (List ℕ) → Command → Type 0
Means words (One families) = SaysOne words families
Means words (Run workers) = SaysRun words workers
Means words Usage = SaysNothing words
