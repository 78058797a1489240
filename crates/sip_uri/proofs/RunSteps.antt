-- Readers of octets one after another that have come to a place.
use Rattle.std.proofs.Common.{◌≡◌, ℕ, ◌+◌, ◌-◌, ◌<◌, ◌≤◌, Bool, true, false, ◌&&◌, ◌||◌, cond, List, [], ◌∷◌, ◌++◌, length, take, drop, get_or, nat_lt, Some, None, inl, inr, refl, sym, ap, ◌∙◌, arith, eqb, append_assoc}
use Rattle.std.specs.Char.{is_ascii_hexdigit}
use Rattle.std.proofs.lemmas.Bool.Decides.{nat_tests}
use Rattle.std.proofs.lemmas.List.{append-nil, length-drop, take_all, take_more, drop_more, drop_all}
use Rattle.sip_uri.specs.ViaClasses.{row, behind_row}
use Rattle.sip_uri.specs.Readers.Runs.{run_from, is_run, behind_escaped}
use Rattle.std.proofs.lemmas.Bool.{cases_Bool}
use Rattle.std.proofs.lemmas.Option.{same_Some}
use Rattle.sip_uri.proofs.ViaRows.{Ends}
use Rattle.sip_uri.specs.Readers.Vias.{quoted_from, behind_quoted}

-- ---- runs

cond_false : (b : Bool) → cond b false false ≡ false
cond_false true = refl
cond_false false = refl

pub no_octet : (class : ℕ → Bool) (x octet : ℕ) → class x ≡ true → class octet ≡ false → eqb x octet ≡ false
no_octet class x octet is other =
    elim (cases_Bool (eqb x octet)) [
      | inl same ↦ (
          let e : x ≡ octet = grind (arith, nat_tests) in
          let no : false ≡ true = sym other ∙ rw e at is in absurd cc)
      | inr no' ↦ no'
    ]

-- the octets of a class in front of a run
pub behind_plain : (class : ℕ → Bool) (text : List ℕ) → class 37 ≡ false → is_run class text ≡ is_run class (behind_row class text)
behind_plain class [] percent = refl
behind_plain class (x ∷ text) percent =
    elim (cases_Bool (class x)) [
      | inl is ↦ (
          let no_percent : eqb x 37 ≡ false = no_octet class x 37 is percent in
          rw (no_percent, is) (behind_plain class text percent))
      | inr no' ↦ rw (no', no') refl
    ]

one_digit : (percent high : Bool) → cond percent (high && false) false ≡ false
one_digit true true = refl
one_digit true false = refl
one_digit false high = refl

no_digits : (percent high low after : Bool) (text : List ℕ) → cond (percent && high && low) (Some text) None ≡ None
    → cond percent (high && (low && after)) false ≡ false
no_digits true true true after text none = absurd cc
no_digits true true false after text none = refl
no_digits true false low after text none = refl
no_digits false high low after text none = refl

pub two_digits : (percent high low : Bool) (text more : List ℕ) → cond (percent && high && low) (Some text) None ≡ Some more
    → (percent ≡ true) × (high ≡ true) × (low ≡ true) × (text ≡ more)
two_digits true true true text more e = (refl, refl, refl, same_Some text more e)
two_digits true true false text more e = absurd cc
two_digits true false low text more e = absurd cc
two_digits false high low text more e = absurd cc

-- no escaped octet in front of what is of no class
pub no_escape : (class : ℕ → Bool) (text : List ℕ) → Ends class text → 0 < length text → behind_escaped text ≡ None
    → is_run class text ≡ false
no_escape class [] ends some none = absurd (omega arith)
no_escape class (x ∷ []) ends some none = rw ends (cond_false (eqb x 37))
no_escape class (x ∷ high ∷ []) ends some none = rw ends (one_digit (eqb x 37) (is_ascii_hexdigit high))
no_escape class (x ∷ high ∷ low ∷ text) ends some none =
    rw ends (no_digits (eqb x 37) (is_ascii_hexdigit high) (is_ascii_hexdigit low) (run_from class 0 text) text none)

-- what follows an escaped octet goes on with the run
pub escape_more : (class : ℕ → Bool) (text more : List ℕ) → behind_escaped text ≡ Some more
    → (is_run class text ≡ is_run class more) × (length more < length text)
escape_more class [] more e = absurd cc
escape_more class (x ∷ []) more e = absurd cc
escape_more class (x ∷ high ∷ []) more e = absurd cc
escape_more class (x ∷ high ∷ low ∷ text) more e =
    let k = two_digits (eqb x 37) (is_ascii_hexdigit high) (is_ascii_hexdigit low) text more e in
    (rw (k.0, k.1, k.2, k.3) refl, omega (arith, ap length k.3))

-- ---- rows

module _ (class : ℕ → Bool) (text : List ℕ) (at : ℕ) (front : take at text ++ row class (drop at text) ≡ row class text)
    (back : behind_row class (drop at text) ≡ behind_row class text) where
  pub row_to_end : length text ≤ at → (text ≡ row class text) × ([] ≡ behind_row class text)
  row_to_end end =
      let none : drop at text ≡ [] = drop_all at text end in
      let whole : take at text ++ [] ≡ row class text = rw none at front in
      (sym (append-nil text) ∙ ap (λ (t : List ℕ). t ++ []) (sym (take_all at text end)) ∙ whole, rw none at back)

  module _ (within : at < length text) where
    front_here : take at text ++ row class (get_or text at 0 ∷ drop (at + 1) text) ≡ row class text
    front_here = rw (drop_more text at 0 within) at front

    back_here : behind_row class (get_or text at 0 ∷ drop (at + 1) text) ≡ behind_row class text
    back_here = rw (drop_more text at 0 within) at back

    pub row_front : class (get_or text at 0) ≡ false → take at text ≡ row class text
    row_front other =
        let whole : take at text ++ [] ≡ row class text = rw other at front_here in
        sym (append-nil (take at text)) ∙ whole

    pub row_back : class (get_or text at 0) ≡ false → take (length text - at) (drop at text) ≡ behind_row class text
    row_back other =
        let rest : get_or text at 0 ∷ drop (at + 1) text ≡ behind_row class text = rw other at back_here in
        take_all (length text - at) (drop at text) (omega (arith, length-drop at text)) ∙ drop_more text at 0 within ∙ rest

    pub row_more_front : class (get_or text at 0) ≡ true → take (at + 1) text ++ row class (drop (at + 1) text) ≡ row class text
    row_more_front is =
        let whole : take at text ++ get_or text at 0 ∷ row class (drop (at + 1) text) ≡ row class text = rw is at front_here in
        ap (λ (t : List ℕ). t ++ row class (drop (at + 1) text)) (take_more text at 0 within) ∙ append_assoc (take at text)
        (get_or text at 0 ∷ []) (row class (drop (at + 1) text)) ∙ whole

    pub row_more_back : class (get_or text at 0) ≡ true → behind_row class (drop (at + 1) text) ≡ behind_row class text
    row_more_back is = rw is at back_here

-- ---- quoted strings

module _ (text : List ℕ) (at : ℕ) (escaped : Bool) (so_far : quoted_from escaped (drop at text) ≡ behind_quoted text)
    (within : at < length text) (no_return : get_or text at 0 ≡ 13 → ⊥) (no_line : get_or text at 0 ≡ 10 → ⊥) where
  here_quoted : (before : Bool) → escaped ≡ before → quoted_from before (get_or text at 0 ∷ drop (at + 1) text) ≡ behind_quoted text
  here_quoted before e = rw (drop_more text at 0 within, e) at so_far

  in_line : (eqb (get_or text at 0) 13 || eqb (get_or text at 0) 10) ≡ false
  in_line = grind (arith, nat_tests, no_return, no_line)

  pub behind_escape : escaped ≡ true → get_or text at 0 < 128 → (after : Bool) → after ≡ false
      → quoted_from after (drop (at + 1) text) ≡ behind_quoted text
  behind_escape is low after e =
      let ascii : nat_lt (get_or text at 0) 128 ≡ true = grind (arith, nat_tests, low) in
      rw e (rw (in_line, ascii) at (here_quoted true is))

  pub behind_backslash : escaped ≡ false → get_or text at 0 ≡ 92 → (after : Bool) → after ≡ true
      → quoted_from after (drop (at + 1) text) ≡ behind_quoted text
  behind_backslash is same after e =
      let backslash : eqb (get_or text at 0) 92 ≡ true = grind (arith, nat_tests, same) in
      rw e (rw (in_line, backslash) at (here_quoted false is))

  pub behind_character : escaped ≡ false → (get_or text at 0 ≡ 92 → ⊥) → (get_or text at 0 ≡ 34 → ⊥) → (after : Bool) → after ≡ escaped
      → quoted_from after (drop (at + 1) text) ≡ behind_quoted text
  behind_character is no_backslash no_quote after e =
      let backslash : eqb (get_or text at 0) 92 ≡ false = grind (arith, nat_tests, no_backslash) in
      let quote : eqb (get_or text at 0) 34 ≡ false = grind (arith, nat_tests, no_quote) in
      rw (e, is) (rw (in_line, backslash, quote) at (here_quoted false is))
