-- Parameters are what their readers read.
use Rattle.std.proofs.Common.{◌≡◌, ℕ, true, false, not, ◌||◌, List, ◌++◌, Option, Some, None, is_some, IfSome, IsSome, refl, sym, ◌∙◌, inl, inr}
use Rattle.std.proofs.lemmas.Bool.{cases_Bool}
use Rattle.std.proofs.lemmas.Slice.Eq.{bytes_eq-Decides}
use Rattle.std.proofs.lemmas.List.{append-nil}
use Rattle.dns_name.specs.Labels.{small_letters}
use Rattle.ip_text.specs.Parts.{before, behind}
use Rattle.sip_uri.specs.Classes.{is_param_octet}
use Rattle.sip_uri.specs.Uris.{IsSomeRun, Param, valued_text, param_text, key_of, transport_key, maddr_key, IsParam}
use Rattle.sip_uri.specs.Readers.Hosts.{host}
use Rattle.sip_uri.specs.Readers.Runs.{is_some_run}
use Rattle.sip_uri.specs.Readers.Params.{name_of, is_same, is_value_of, is_valued, is_param, transport_name, maddr_name}
use Rattle.ip_text.proofs.Cutting.{back, joined, cut_back}
use Rattle.sip_uri.proofs.DomainTexts.{both_of}
use Rattle.sip_uri.proofs.RunTexts.{some_read, some_again, run_lacks}

-- ---- names

pub same_names : (a b : List ℕ) → is_same a b ≡ true → small_letters a ≡ small_letters b
same_names a b e = (bytes_eq-Decides (small_letters a) (small_letters b)).0 e

pub names_same : (a b : List ℕ) → small_letters a ≡ small_letters b → is_same a b ≡ true
names_same a b e = (bytes_eq-Decides (small_letters a) (small_letters b)).1 e

pub names_other : (a b : List ℕ) → (small_letters a ≡ small_letters b → ⊥) → is_same a b ≡ false
names_other a b other =
    elim (cases_Bool (is_same a b)) [
      | inl is ↦ absurd (other (same_names a b is))
      | inr no' ↦ no'
    ]

-- ---- one parameter

-- the parameter of a part
abbrev pub param_of : List ℕ → Param
param_of part = record { name = before 61 part; value = behind 61 part }

valued_back : (name : List ℕ) (value : Option (List ℕ)) → valued_text name value ≡ name ++ back 61 value
valued_back name None = sym (append-nil name)
valued_back name (Some value) = refl

pub param_text-of : (part : List ℕ) → param_text (param_of part) ≡ part
param_text-of part = valued_back (before 61 part) (behind 61 part) ∙ joined 61 part

some_value : (name : List ℕ) (value : Option (List ℕ)) → is_valued name value ≡ true → IfSome value (λ v. IsSomeRun is_param_octet v)
unfolding is_value_of
some_value name None e = tt
some_value name (Some value) e = some_read is_param_octet value (both_of (is_some_run is_param_octet value) _ e).0

needs_transport : (name : List ℕ) (value : Option (List ℕ)) → is_valued name value ≡ true → small_letters name ≡ transport_key
    → IsSome value
needs_transport name None e is =
    let k = both_of (not (is_same name transport_name)) (not (is_same name maddr_name)) e in
    let same = names_same name transport_name is in
    let no : false ≡ true = rw same at k.0 in
    absurd cc
needs_transport name (Some value) e is = refl

needs_maddr : (name : List ℕ) (value : Option (List ℕ)) → is_valued name value ≡ true → small_letters name ≡ maddr_key → IsSome value
needs_maddr name None e is =
    let k = both_of (not (is_same name transport_name)) (not (is_same name maddr_name)) e in
    let same = names_same name maddr_name is in
    let no : false ≡ true = rw same at k.1 in
    absurd cc
needs_maddr name (Some value) e is = refl

pub param_read : (part : List ℕ) → is_param part ≡ true → IsParam (param_of part)
param_read part e =
    let k = both_of (is_some_run is_param_octet (before 61 part)) (is_valued (before 61 part) (behind 61 part)) e in
    record {
      name = some_read is_param_octet (before 61 part) k.0;
      value = some_value (before 61 part) (behind 61 part) k.1;
      transport = λ is. needs_transport (before 61 part) (behind 61 part) k.1 is;
      maddr = λ is. needs_maddr (before 61 part) (behind 61 part) k.1 is;
    }

-- the value of `maddr` is a host
abbrev pub IsHosted : Param → Type 0
IsHosted param = key_of param ≡ maddr_key → IfSome param.value (λ value. is_some (host value) ≡ true)

hosted_value : (name value : List ℕ) → is_value_of name value ≡ true → small_letters name ≡ maddr_key → is_some (host value) ≡ true
unfolding is_value_of
hosted_value name value e is =
    let k = (both_of (is_some_run is_param_octet value) (not (is_same name maddr_name) || is_some (host value)) e).1 in
    let same = names_same name maddr_name is in
    rw same at k

pub hosted_read : (name : List ℕ) (value : Option (List ℕ)) → is_valued name value ≡ true → small_letters name ≡ maddr_key
    → IfSome value (λ v. is_some (host v) ≡ true)
hosted_read name None e is = tt
hosted_read name (Some value) e is = hosted_value name value e is

valued_again : (name : List ℕ) (value : Option (List ℕ)) → IfSome value (λ v. IsSomeRun is_param_octet v)
    → (small_letters name ≡ transport_key → IsSome value) → (small_letters name ≡ maddr_key → IsSome value)
    → (small_letters name ≡ maddr_key → IfSome value (λ v. is_some (host v) ≡ true)) → is_valued name value ≡ true
unfolding is_value_of
valued_again name None run transport maddr hosted =
    rw (
      names_other name transport_name (λ is. let no : false ≡ true = transport is in cc),
      names_other name maddr_name (λ is. let no : false ≡ true = maddr is in cc),
    ) refl
valued_again name (Some value) run transport maddr hosted =
    elim (cases_Bool (is_same name maddr_name)) [
      | inl is ↦ rw (some_again is_param_octet refl value run, is, hosted (same_names name maddr_name is)) refl
      | inr no' ↦ rw (some_again is_param_octet refl value run, no') refl
    ]

pub valued_of : (part : List ℕ) → is_param part ≡ true → is_valued (name_of part) (behind 61 part) ≡ true
valued_of part e = (both_of (is_some_run is_param_octet (before 61 part)) (is_valued (before 61 part) (behind 61 part)) e).1

-- the part of a parameter
pub part_of : (param : Param) → IsParam param → (name_of (param_text param) ≡ param.name) × (behind 61 (param_text param) ≡ param.value)
part_of param is =
    let lacking = run_lacks is_param_octet 61 refl refl refl param.name is.name.run in
    rw valued_back (cut_back 61 param.name param.value lacking)

pub param_again : (param : Param) → IsParam param → IsHosted param → is_param (param_text param) ≡ true
param_again param is hosted =
    let k = part_of param is in
    rw (k.0, k.1)
    (rw (some_again is_param_octet refl param.name is.name) (valued_again param.name param.value is.value is.transport is.maddr hosted))
