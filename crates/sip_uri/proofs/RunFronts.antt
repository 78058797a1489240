-- A run in front of a text, and what follows it.
use Rattle.std.proofs.Common.{◌≡◌, ℕ, zero, suc, ◌-◌, ◌≤◌, Bool, true, false, List, [], ◌∷◌, ◌++◌, length, take, append_assoc, Some, None, refl, sym, ap, ◌∙◌, inl, inr, arith, eqb}
use Rattle.std.specs.Char.{is_ascii_hexdigit}
use Rattle.std.proofs.Math.Seq.{take-append_seam}
use Rattle.std.proofs.lemmas.Bool.{cases_Bool}
use Rattle.std.proofs.lemmas.Bool.Decides.{nat_tests}
use Rattle.std.proofs.lemmas.List.{length-append}
use Rattle.sip_uri.specs.Readers.Runs.{run_from, is_run, behind_escaped, RunEnds}
use Rattle.sip_uri.specs.ViaClasses.{row, behind_row}
use Rattle.sip_uri.proofs.DomainTexts.{both_of}
use Rattle.sip_uri.proofs.RunSteps.{no_octet, two_digits}
use Rattle.sip_uri.proofs.ViaRows.{Ends, row_and}

pub run_append : (class : ℕ → Bool) (left : ℕ) (front text : List ℕ) → run_from class left front ≡ true
    → run_from class left (front ++ text) ≡ is_run class text
run_append class zero [] text e = refl
run_append class (suc left) [] text e = absurd (let no : suc left ≡ 0 = grind (arith, nat_tests) in omega arith)
run_append class zero (octet ∷ front) text e =
    elim (cases_Bool (eqb octet 37)) [
      | inl is ↦ rw is (run_append class 2 front text (rw is at e))
      | inr no' ↦ (
          let k = both_of (class octet) (run_from class 0 front) (rw no' at e) in
          rw (no', k.0) (run_append class 0 front text k.1))
    ]
run_append class (suc left) (octet ∷ front) text e =
    let k = both_of (is_ascii_hexdigit octet) (run_from class left front) e in
    rw k.0 (run_append class left front text k.1)

row_run : (class : ℕ → Bool) → class 37 ≡ false → (text : List ℕ) → is_run class (row class text) ≡ true
row_run class percent [] = refl
row_run class percent (x ∷ text) =
    elim (cases_Bool (class x)) [
      | inl is ↦ (
          let no_percent : eqb x 37 ≡ false = no_octet class x 37 is percent in
          rw is (rw (no_percent, is) (row_run class percent text)))
      | inr no' ↦ rw no' refl
    ]

-- the escaped octet in front, and what follows it
record Escaped (class : ℕ → Bool) (text more : List ℕ) : Type 0 where
  octets : List ℕ
  joined : octets ++ more ≡ text
  run : is_run class octets ≡ true

escaped_front : (class : ℕ → Bool) (text more : List ℕ) → behind_escaped text ≡ Some more → Escaped class text more
escaped_front class [] more e = absurd cc
escaped_front class (x ∷ []) more e = absurd cc
escaped_front class (x ∷ high ∷ []) more e = absurd cc
escaped_front class (x ∷ high ∷ low ∷ text) more e =
    let k = two_digits (eqb x 37) (is_ascii_hexdigit high) (is_ascii_hexdigit low) text more e in
    record {
      octets = x ∷ high ∷ low ∷ [];
      joined = ap (λ (t : List ℕ). x ∷ high ∷ low ∷ t) (sym k.3);
      run = rw (k.0, k.1, k.2) refl;
    }

-- a text is a run and the rest
pub record RunFront (class : ℕ → Bool) (text rest : List ℕ) : Type 0 where
  pub front : List ℕ
  pub joined : front ++ rest ≡ text
  pub run : is_run class front ≡ true

pub no_front : (class : ℕ → Bool) (text : List ℕ) → RunFront class text text
no_front class text = record { front = []; joined = refl; run = refl }

module _ (class : ℕ → Bool) (percent : class 37 ≡ false) (text rest : List ℕ) (so_far : RunFront class text rest) where
  pub front_row : RunFront class text (behind_row class rest)
  front_row = record {
    front = so_far.front ++ row class rest;
    joined = append_assoc so_far.front (row class rest) (behind_row class rest)
        ∙ ap (λ (t : List ℕ). so_far.front ++ t) (row_and class rest) ∙ so_far.joined;
    run = run_append class 0 so_far.front (row class rest) so_far.run ∙ row_run class percent rest;
  }

pub front_more : (class : ℕ → Bool) (text rest more : List ℕ) → RunFront class text rest → behind_escaped rest ≡ Some more
    → RunFront class text more
front_more class text rest more so_far e =
    let k = escaped_front class rest more e in
    record {
      front = so_far.front ++ k.octets;
      joined = append_assoc so_far.front k.octets more
          ∙ ap (λ (t : List ℕ). so_far.front ++ t) k.joined ∙ so_far.joined;
      run = run_append class 0 so_far.front k.octets so_far.run ∙ k.run;
    }

module _ (class : ℕ → Bool) (text rest : List ℕ) (is : RunFront class text rest) where
  pub front_low : length rest ≤ length text
  front_low = omega (arith, ap length is.joined, length-append is.front rest)

  pub front_taken : take (length text - length rest) text ≡ is.front
  front_taken =
      let size : length text - length rest ≡ length is.front =
      omega (arith, ap length is.joined, length-append is.front rest) in
      ap (λ (n : ℕ). take n text) size ∙ ap (take (length is.front)) (sym is.joined) ∙ take-append_seam is.front rest

pub run_ends : (class : ℕ → Bool) (text : List ℕ) → Ends class text → behind_escaped text ≡ None → RunEnds class text
run_ends class [] ends none = tt
run_ends class (x ∷ text) ends none = (ends, none)
