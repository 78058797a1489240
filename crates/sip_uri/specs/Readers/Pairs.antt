-- What the reader of names and values gives, as functions on lists.
use Rattle.std.specs.Prelude.{◌≡◌, ℕ, ◌==◌, Bool, true, false, ◌&&◌, List, [], ◌∷◌, Option, Some, None, if◌then◌else◌}
use Rattle.std.specs.Option.{option_map}
use Rattle.std.specs.Char.{is_ascii_hexdigit}
use Rattle.ip_text.specs.Parts.{before, behind}
use Rattle.sip_uri.specs.Readers.Runs.{is_run}
use Rattle.sip_uri.specs.declared.pairs.Pair.{Pair}

-- neither the octet nor `=` stands in a run of the class
pub record IsMark (class : ℕ → Bool) (mark : ℕ) : Type 0 where
  pub other : class mark ≡ false
  pub equals : class 61 ≡ false
  pub digit : is_ascii_hexdigit mark ≡ false
  pub percent : (37 == mark) ≡ false
  pub apart : (61 == mark) ≡ false

-- what follows a mark in front, or nothing at the end
abbrev pub behind_end : ℕ → List ℕ → Option (Option (List ℕ))
behind_end mark [] = Some None
behind_end mark (x ∷ text) = if x == mark then Some (Some text) else None

abbrev pub is_value_run : (ℕ → Bool) → Option (List ℕ) → Bool
is_value_run class None = true
is_value_run class (Some value) = is_run class value

-- a name is a run, and its value, where it has one
abbrev pub are_runs : (ℕ → Bool) → List ℕ → Bool
are_runs class text = is_run class (before 61 text) && is_value_run class (behind 61 text)

-- what stands before a mark, parted at `=`, and what stands behind the mark
pub record IsPair (class : ℕ → Bool) (mark : ℕ) (text : List ℕ) (pair : Pair) : Type 0 where
  pub name : pair.name.now ≡ before 61 (before mark text)
  pub value : option_map (λ (value : _). value.now) pair.value ≡ behind 61 (before mark text)
  pub behind : option_map (λ (rest : _). rest.now) pair.behind ≡ behind mark text
  pub runs : are_runs class (before mark text) ≡ true
