-- What an option says by itself: that it is given, or a number.
use Rattle.std.specs.Prelude.{◌≡◌, ◌^◌, ◌<◌, ℕ, Bool, true, false, List, Some, None, codes}
use Rattle.std.specs.Str.Parse.{IsNumeral, digits_value, without_leading_plus}
use Rattle.clap.specs.Matches.{found_of, one_text}
use Rattle.clap.specs.declared.parser.matches.ArgMatches.{ArgMatches}

-- an option without a word of its own: whether it is given
pub record IsFlag (matches : ArgMatches) (name : List ℕ) (given : Bool) : Type 0 where
  pub absent : one_text (found_of matches) name ≡ None → given ≡ false
  pub set : one_text (found_of matches) name ≡ Some (codes "true") → given ≡ true
  pub unset : one_text (found_of matches) name ≡ Some (codes "false") → given ≡ false

-- a number of so many bits in decimal digits, behind which nothing stands
pub record NumberText (bits : ℕ) (text : List ℕ) (number : ℕ) : Type 0 where
  pub digits : IsNumeral 10 (without_leading_plus text)
  pub value : number ≡ digits_value 10 (without_leading_plus text)
  pub fits : number < 2 ^ bits

-- a word spells nothing
abbrev pub SpellsNothing : {T : Type 0} → (List ℕ → T → Type 0) → List ℕ → Type 0
SpellsNothing {T} Spells word = (it : T) → Spells word it → ⊥
