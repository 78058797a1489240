-- The host of maddr, of parameters that were read up to a place.
use Rattle.std.proofs.Common.{◌≡◌, Bool, true, false, List, ℕ, Option, Some, None, is_some, IfSome, refl, sym, ap}
use Rattle.std.specs.Option.{option_map, option_or, option_and_then}
use Rattle.ip_text.specs.Parts.{before, behind, parted}
use Rattle.sip_uri.specs.Readers.Hosts.{host}
use Rattle.sip_uri.specs.Readers.Params.{is_param, is_same, name_of, value_of, maddr_name, maddr_of}
use Rattle.sip_uri.specs.declared.host.Host.{Host}
use Rattle.sip_uri.proofs.ParamSteps.{ValueSoFar, value_here, value_nowhere, value_further, maddr_valued}
use Rattle.sip_uri.proofs.ParamTexts.{same_names, hosted_read, valued_of}

abbrev pub MaddrKept : List ℕ → List ℕ → Option Host → Type 0
MaddrKept params rest None = ValueSoFar params maddr_name rest
MaddrKept params rest (Some found) = Some found ≡ option_and_then host (value_of maddr_name (parted 59 params))

pub same_is_some : {A B : Type 0} (f : A → B) (o : Option A) → is_some (option_map f o) ≡ is_some o
same_is_some f None = refl
same_is_some f (Some x) = refl

pub map_or : {A B : Type 0} (f : A → B) (a b : Option A) → option_map f (option_or a b) ≡ option_or (option_map f a) (option_map f b)
map_or f None b = refl
map_or f (Some x) b = refl

pub either_some : {A : Type 0} (P : A → Type 0) (a b : Option A) → IfSome a P → IfSome b P → IfSome (option_or a b) P
either_some P None b here there = there
either_some P (Some x) b here there = here

module _ (params rest : List ℕ) where
  last_from : (found : Option Host) (same : Bool) → MaddrKept params rest found → behind 59 rest ≡ None
      → is_same (name_of (before 59 rest)) maddr_name ≡ same
      → option_or found (maddr_of (name_of (before 59 rest)) (behind 61 (before 59 rest)))
      ≡ option_and_then host (value_of maddr_name (parted 59 params))
  last_from (Some h) same kept e is = kept
  last_from None true kept e is = rw is (ap (option_and_then host) (value_here params maddr_name rest kept is))
  last_from None false kept e is = rw is (sym (ap (option_and_then host) (value_nowhere params maddr_name rest kept e is)))

  pub maddr_whole : (found : Option Host) → MaddrKept params rest found → behind 59 rest ≡ None
      → option_or found (maddr_of (name_of (before 59 rest)) (behind 61 (before 59 rest)))
      ≡ option_and_then host (value_of maddr_name (parted 59 params))
  maddr_whole found kept e = last_from found (is_same (name_of (before 59 rest)) maddr_name) kept e refl

  kept_host : (o : Option Host) (more : List ℕ) → is_some o ≡ true → o ≡ option_and_then host (value_of maddr_name (parted 59 params))
      → MaddrKept params more o
  kept_host None more some e = absurd (let no : false ≡ true = some in cc)
  kept_host (Some h) more some e = e

  hosted : (value : Option (List ℕ)) → behind 61 (before 59 rest) ≡ value → is_param (before 59 rest) ≡ true
      → is_same (name_of (before 59 rest)) maddr_name ≡ true → is_some (option_and_then host value) ≡ true
  hosted None e good is = absurd (maddr_valued (before 59 rest) good is e)
  hosted (Some value) e good is =
      let part : List ℕ = before 59 rest in
      let k = hosted_read (name_of part) (behind 61 part) (valued_of part good) (same_names (name_of part) maddr_name is) in
      rw e at k

  more_from : (found : Option Host) (same : Bool) → MaddrKept params rest found → is_param (before 59 rest) ≡ true
      → is_same (name_of (before 59 rest)) maddr_name ≡ same → (more : List ℕ) → behind 59 rest ≡ Some more
      → MaddrKept params more (option_or found (maddr_of (name_of (before 59 rest)) (behind 61 (before 59 rest))))
  more_from (Some h) same kept good is more e = kept
  more_from None true kept good is more e =
      rw is
      (kept_host (option_and_then host (behind 61 (before 59 rest))) more (hosted (behind 61 (before 59 rest)) refl good is)
      (ap (option_and_then host) (value_here params maddr_name rest kept is)))
  more_from None false kept good is more e = rw is (value_further params maddr_name rest kept more e is)

  pub maddr_more : (found : Option Host) → MaddrKept params rest found → is_param (before 59 rest) ≡ true
      → (more : List ℕ) → behind 59 rest ≡ Some more
      → MaddrKept params more (option_or found (maddr_of (name_of (before 59 rest)) (behind 61 (before 59 rest))))
  maddr_more found kept good more e = more_from found (is_same (name_of (before 59 rest)) maddr_name) kept good refl more e
