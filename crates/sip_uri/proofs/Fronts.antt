-- An octet in front of a text, and what is read where it stands there, or does not.
use Rattle.std.proofs.Common.{◌≡◌, ℕ, false, List, [], ◌∷◌, slice_index, Option, Some, None, refl, inl, inr, arith, eqb}
use Rattle.std.proofs.lemmas.Bool.{cases_Bool}
use Rattle.std.proofs.lemmas.Bool.Decides.{nat_tests}
use Rattle.std.proofs.lemmas.Option.{same_Some}
use Rattle.ip_text.specs.Parts.{before, behind, behind_front}
use Rattle.sip_uri.specs.Readers.Hosts.{plain_host, host_in_brackets, host_in_front}
use Rattle.sip_uri.specs.Readers.Vias.{behind_quoted, some_value, behind_value}
use Rattle.sip_uri.specs.Readers.ViaFronts.{via_host}
use Rattle.sip_uri.specs.Readers.ViaFronts as via
use Rattle.sip_uri.specs.ViaClasses.{is_in_host, is_value_octet, row, behind_row}
use Rattle.sip_uri.specs.declared.host.Host.{Host}

there : (octet : ℕ) (text rest : List ℕ) → behind_front octet text ≡ Some rest → text ≡ octet ∷ rest
there octet [] rest e = absurd cc
there octet (x ∷ text) rest e =
    elim (cases_Bool (eqb x octet)) [
      | inl is ↦ (
          let same : x ≡ octet = grind (arith, nat_tests) in
          let found : text ≡ rest = same_Some text rest (rw is at e) in
          cc)
      | inr no' ↦ (let no : None ≡ Some rest = rw no' at e in absurd cc)
    ]

not_there : (octet : ℕ) (text : List ℕ) → eqb 0 octet ≡ false → behind_front octet text ≡ None → eqb (slice_index text 0) octet ≡ false
not_there octet [] some e = some
not_there octet (x ∷ text) some e =
    elim (cases_Bool (eqb x octet)) [
      | inl is ↦ (let no : Some text ≡ None = rw is at e in absurd cc)
      | inr no' ↦ no'
    ]

-- ---- hosts

pub bracketed : (text rest : List ℕ) → behind_front 91 text ≡ Some rest → host_in_brackets rest ≡ host_in_front text
bracketed text rest e = rw (there 91 text rest e) refl

module _ (text : List ℕ) (e : behind_front 91 text ≡ None) where
  pub no_host : plain_host (before 58 text) ≡ None → None ≡ host_in_front text
  no_host none = rw (not_there 91 text refl e, none) refl

  pub host_there : (host : Host) (port : Option (List ℕ)) → plain_host (before 58 text) ≡ Some host → behind 58 text ≡ port
      → Some (host, port) ≡ host_in_front text
  host_there host port some is = rw (not_there 91 text refl e, some, is) refl

pub via_bracketed : (text rest : List ℕ) → behind_front 91 text ≡ Some rest → via.host_in_brackets rest ≡ via_host text
unfolding via_host
via_bracketed text rest e = rw (there 91 text rest e) refl

module _ (text : List ℕ) (e : behind_front 91 text ≡ None) where
  pub no_via_host : plain_host (row is_in_host text) ≡ None → None ≡ via_host text
  unfolding via_host
  no_via_host none = rw (not_there 91 text refl e, none) refl

  pub via_host_there : (host : Host) (rest : List ℕ) → plain_host (row is_in_host text) ≡ Some host → behind_row is_in_host text ≡ rest
      → Some (host, rest) ≡ via_host text
  unfolding via_host
  via_host_there host rest some is = rw (not_there 91 text refl e, some, is) refl

-- ---- values of parameters

pub quoted : (text rest : List ℕ) → behind_front 34 text ≡ Some rest → behind_quoted rest ≡ behind_value text
unfolding behind_value
quoted text rest e = rw (there 34 text rest e) refl

pub unquoted : (text : List ℕ) → behind_front 34 text ≡ None
    → behind_value text ≡ some_value (row is_value_octet text) (behind_row is_value_octet text)
unfolding behind_value
unquoted text e = rw (not_there 34 text refl e) refl
