-- Runs are what their reader accepts.
use Rattle.std.proofs.Common.{◌≡◌, ℕ, zero, suc, Bool, true, false, not, List, [], ◌∷◌, length, refl, sym, ap, ◌∙◌, inl, inr, arith, eqb}
use Rattle.std.specs.Char.{is_ascii_hexdigit}
use Rattle.std.proofs.lemmas.Bool.{cases_Bool}
use Rattle.std.proofs.lemmas.Bool.Decides.{nat_tests}
use Rattle.sip_uri.specs.Classes.{IsRun, none, plain, escaped}
use Rattle.sip_uri.specs.Uris.{IsSomeRun}
use Rattle.sip_uri.specs.Readers.Runs.{run_from, is_run, is_some_run}
use Rattle.ip_text.proofs.Cutting.{lacks}
use Rattle.sip_uri.proofs.DomainTexts.{both_of}

-- what is left of a run: so many hexadecimal digits, and then a run
abbrev RunFrom : (ℕ → Bool) → ℕ → List ℕ → Type 0
RunFrom class zero text = IsRun class text
RunFrom class (suc left) [] = ⊥
RunFrom class (suc left) (octet ∷ text) = (is_ascii_hexdigit octet ≡ true) × RunFrom class left text

escape : (class : ℕ → Bool) (text : List ℕ) → RunFrom class 2 text → IsRun class (37 ∷ text)
escape class [] run = absurd run
escape class (high ∷ []) run = absurd run.1
escape class (high ∷ low ∷ text) run = escaped high low text run.0 run.1.0 run.1.1

from_read : (class : ℕ → Bool) (left : ℕ) (text : List ℕ) → run_from class left text ≡ true → RunFrom class left text
from_read class zero [] e = none
from_read class (suc left) [] e = absurd (let no : suc left ≡ 0 = grind (arith, nat_tests) in omega arith)
from_read class zero (octet ∷ text) e =
    elim (cases_Bool (eqb octet 37)) [
      | inl is ↦ (let same : octet ≡ 37 = grind (arith, nat_tests) in rw same (escape class text (from_read class 2 text (rw is at e))))
      | inr no' ↦ (let k = both_of (class octet) (run_from class 0 text) (rw no' at e) in plain octet text k.0 (from_read class 0 text k.1))
    ]
from_read class (suc left) (octet ∷ text) e =
    let k = both_of (is_ascii_hexdigit octet) (run_from class left text) e in
    (k.0, from_read class left text k.1)

pub run_read : (class : ℕ → Bool) (text : List ℕ) → is_run class text ≡ true → IsRun class text
run_read class text e = from_read class 0 text e

-- `%` is of no class
pub run_again : (class : ℕ → Bool) → class 37 ≡ false → (text : List ℕ) → IsRun class text → is_run class text ≡ true
run_again class percent text none = refl
run_again class percent text (plain octet rest good run) =
    elim (cases_Bool (eqb octet 37)) [
      | inl is ↦ (
          let same : octet ≡ 37 = grind (arith, nat_tests) in
          let no : false ≡ true = sym percent ∙ ap class (sym same) ∙ good in
          absurd cc)
      | inr no' ↦ rw (no', good) (run_again class percent rest run)
    ]
run_again class percent text (escaped high low rest good good' run) = rw (good, good') (run_again class percent rest run)

pub some_read : (class : ℕ → Bool) (text : List ℕ) → is_some_run class text ≡ true → IsSomeRun class text
some_read class text e =
    let k = both_of (not (eqb (length text) 0)) (is_run class text) e in
    let size = k.0 in
    record { some = grind (arith, nat_tests, size); run = run_read class text k.1 }

pub some_again : (class : ℕ → Bool) → class 37 ≡ false → (text : List ℕ) → IsSomeRun class text → is_some_run class text ≡ true
some_again class percent text is =
    let size : not (eqb (length text) 0) ≡ true = grind (arith, nat_tests, is.some) in
    rw size (run_again class percent text is.run)

-- an octet that is of neither the class, `%` nor hexadecimal digits
pub run_lacks : (class : ℕ → Bool) (octet : ℕ) → class octet ≡ false → is_ascii_hexdigit octet ≡ false → eqb 37 octet ≡ false
    → (text : List ℕ) → IsRun class text → lacks octet text ≡ true
run_lacks class octet other digit percent text none = refl
run_lacks class octet other digit percent text (plain x rest good run) =
    elim (cases_Bool (eqb x octet)) [
      | inl is ↦ (
          let same : x ≡ octet = grind (arith, nat_tests) in
          let no : false ≡ true = sym other ∙ ap class (sym same) ∙ good in
          absurd cc)
      | inr no' ↦ rw no' (run_lacks class octet other digit percent rest run)
    ]
run_lacks class octet other digit percent text (escaped high low rest good good' run) =
    let first : eqb high octet ≡ false = grind (arith, nat_tests) in
    let second : eqb low octet ≡ false = grind (arith, nat_tests) in
    rw (percent, first, second) (run_lacks class octet other digit percent rest run)
