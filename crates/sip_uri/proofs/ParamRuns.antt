-- What are no runs are no parameter and no header.
use Rattle.std.proofs.Common.{◌≡◌, ℕ, Bool, true, false, ◌&&◌, List, length, Option, Some, None, refl, inl, inr, eqb}
use Rattle.std.proofs.lemmas.Bool.{cases_Bool}
use Rattle.ip_text.specs.Parts.{before, behind}
use Rattle.sip_uri.specs.Classes.{is_param_octet, is_header_octet}
use Rattle.sip_uri.specs.Readers.Pairs.{is_value_run, are_runs}
use Rattle.sip_uri.specs.Readers.Params.{is_value_of, is_valued, is_param}
use Rattle.sip_uri.specs.Readers.Runs.{is_run, is_some_run}
use Rattle.sip_uri.specs.Readers.Uris.{is_header, is_header_value}

pub no_some_run : (class : ℕ → Bool) (text : List ℕ) → is_run class text ≡ false → is_some_run class text ≡ false
no_some_run class text bad =
    elim (cases_Bool (eqb (length text) 0)) [
      | inl none ↦ rw none refl
      | inr some ↦ rw (some, bad) refl
    ]

-- one of two tests fails
one_fails : (a b : Bool) → a && b ≡ false → (c d : Bool) → (a ≡ false → c ≡ false) → (b ≡ false → d ≡ false) → c && d ≡ false
one_fails false b e c d first second = rw (first refl) refl
one_fails true false e true d first second = second refl
one_fails true false e false d first second = refl
one_fails true true e c d first second = absurd cc

no_value : (name : List ℕ) (value : Option (List ℕ)) → is_value_run is_param_octet value ≡ false
    → is_valued name value ≡ false
unfolding is_value_of
no_value name None e = absurd cc
no_value name (Some value) e = rw (no_some_run is_param_octet value e) refl

pub no_param : (param : List ℕ) → are_runs is_param_octet param ≡ false → is_param param ≡ false
no_param param e =
    one_fails (is_run is_param_octet (before 61 param)) (is_value_run is_param_octet (behind 61 param)) e
    (is_some_run is_param_octet (before 61 param)) (is_valued (before 61 param) (behind 61 param))
    (no_some_run is_param_octet (before 61 param)) (no_value (before 61 param) (behind 61 param))

no_header_value : (value : Option (List ℕ)) → is_value_run is_header_octet value ≡ false → is_header_value value ≡ false
no_header_value None e = refl
no_header_value (Some value) e = e

pub no_header : (header : List ℕ) → are_runs is_header_octet header ≡ false → is_header header ≡ false
no_header header e =
    one_fails (is_run is_header_octet (before 61 header)) (is_value_run is_header_octet (behind 61 header)) e
    (is_some_run is_header_octet (before 61 header)) (is_header_value (behind 61 header))
    (no_some_run is_header_octet (before 61 header)) (no_header_value (behind 61 header))
