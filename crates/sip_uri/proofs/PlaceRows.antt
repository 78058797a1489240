-- A host, its port and what follows them are what stands between `:`, `;` and `?`.
use Rattle.std.proofs.Common.{◌≡◌, ℕ, false, List, [], ◌∷◌, Some, None, refl, ap, inl, inr, arith, eqb}
use Rattle.std.proofs.lemmas.Bool.{cases_Bool}
use Rattle.std.proofs.lemmas.Bool.Decides.{nat_tests}
use Rattle.ip_text.specs.Parts.{before, behind, behind_front}
use Rattle.sip_uri.specs.ViaClasses.{row, behind_row}
use Rattle.sip_uri.specs.Readers.Places.{is_in_host, is_in_place, port_in_front, behind_port, params_in, headers_in}

pub host_row : (text : List ℕ) → row is_in_host text ≡ before 58 (row is_in_place text)
host_row [] = refl
host_row (x ∷ text) =
    elim (cases_Bool (eqb x 59)) [
      | inl semicolon ↦ (let colon : eqb x 58 ≡ false = grind (arith, nat_tests) in rw (semicolon, colon) refl)
      | inr no' ↦ elim (cases_Bool (eqb x 63)) [
        | inl mark ↦ (let colon : eqb x 58 ≡ false = grind (arith, nat_tests) in rw (no', mark, colon) refl)
        | inr none ↦ elim (cases_Bool (eqb x 58)) [
          | inl colon ↦ rw (no', none, colon) refl
          | inr other ↦ rw (no', none, other) (ap (λ (t : List ℕ). x ∷ t) (host_row text))
        ]
      ]
    ]

pub port_row : (text : List ℕ) → port_in_front (behind_row is_in_host text) ≡ behind 58 (row is_in_place text)
port_row [] = refl
port_row (x ∷ text) =
    elim (cases_Bool (eqb x 59)) [
      | inl semicolon ↦ (let colon : eqb x 58 ≡ false = grind (arith, nat_tests) in rw colon (rw semicolon (rw colon refl)))
      | inr no' ↦ elim (cases_Bool (eqb x 63)) [
        | inl mark ↦ (let colon : eqb x 58 ≡ false = grind (arith, nat_tests) in rw colon (rw (no', mark) (rw colon refl)))
        | inr none ↦ elim (cases_Bool (eqb x 58)) [
          | inl colon ↦ rw colon (rw (no', none) (rw colon refl))
          | inr other ↦ rw (no', none, other) (port_row text)
        ]
      ]
    ]

pub behind_rows : (text : List ℕ) → behind_port (behind_row is_in_host text) ≡ behind_row is_in_place text
behind_rows [] = refl
behind_rows (x ∷ text) =
    elim (cases_Bool (eqb x 59)) [
      | inl semicolon ↦ (let colon : eqb x 58 ≡ false = grind (arith, nat_tests) in rw colon (rw semicolon (rw colon refl)))
      | inr no' ↦ elim (cases_Bool (eqb x 63)) [
        | inl mark ↦ (let colon : eqb x 58 ≡ false = grind (arith, nat_tests) in rw colon (rw (no', mark) (rw colon refl)))
        | inr none ↦ elim (cases_Bool (eqb x 58)) [
          | inl colon ↦ rw colon (rw (no', none) (rw colon refl))
          | inr other ↦ rw (no', none, other) (behind_rows text)
        ]
      ]
    ]

pub place_row : (text : List ℕ) → row is_in_place text ≡ before 59 (before 63 text)
place_row [] = refl
place_row (x ∷ text) =
    elim (cases_Bool (eqb x 63)) [
      | inl mark ↦ (let semicolon : eqb x 59 ≡ false = grind (arith, nat_tests) in rw (semicolon, mark) refl)
      | inr no' ↦ elim (cases_Bool (eqb x 59)) [
        | inl semicolon ↦ rw (no', semicolon) refl
        | inr none ↦ rw (no', none) (ap (λ (t : List ℕ). x ∷ t) (place_row text))
      ]
    ]

pub params_row : (text : List ℕ) → params_in (behind_row is_in_place text) ≡ behind 59 (before 63 text)
params_row [] = refl
params_row (x ∷ text) =
    elim (cases_Bool (eqb x 63)) [
      | inl mark ↦ (let semicolon : eqb x 59 ≡ false = grind (arith, nat_tests) in rw (semicolon, mark) (rw semicolon refl))
      | inr no' ↦ elim (cases_Bool (eqb x 59)) [
        | inl semicolon ↦ rw (no', semicolon) (rw semicolon refl)
        | inr none ↦ rw (no', none) (params_row text)
      ]
    ]

pub headers_row : (text : List ℕ) → headers_in (behind_row is_in_place text) ≡ behind 63 text
headers_row [] = refl
headers_row (x ∷ text) =
    elim (cases_Bool (eqb x 63)) [
      | inl mark ↦ (let semicolon : eqb x 59 ≡ false = grind (arith, nat_tests) in rw (semicolon, mark) (rw semicolon refl))
      | inr no' ↦ elim (cases_Bool (eqb x 59)) [
        | inl semicolon ↦ rw (no', semicolon) (rw semicolon refl)
        | inr none ↦ rw (no', none) (headers_row text)
      ]
    ]

pub front_row : (text : List ℕ) → behind_front 91 text ≡ None → behind_front 91 (row is_in_place text) ≡ None
front_row [] e = refl
front_row (x ∷ text) e =
    elim (cases_Bool (is_in_place x)) [
      | inl is ↦ elim (cases_Bool (eqb x 91)) [
        | inl bracket ↦ (let no : Some text ≡ None = rw bracket at e in absurd cc)
        | inr none ↦ rw (is, none) refl
      ]
      | inr no' ↦ rw no' refl
    ]
