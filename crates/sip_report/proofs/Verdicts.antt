-- What a verdict says of targets.
use Rattle.std.proofs.Common.{◌≡◌, ℕ, ◌≤◌, nat_lt, true, false, List, length, Option, Some, None, option_map, IsTrue, inl, inr, sym, subst, ◌∙◌, refl, arith}
use Rattle.std.proofs.lemmas.Bool.{cases_Bool}
use Rattle.std.proofs.lemmas.Bool.Decides.{nat_tests}
use Rattle.std.proofs.lemmas.List.Folds.{Any-from_list_any, list_any-from_Any}
use Rattle.std.specs.List.{Any}
use Rattle.sip_selection.specs.declared.target.Target.{Target}
use Rattle.sip_report.specs.Verdicts.{IsBelowCritical, IsNotCritical, IsWell, IsWithin, are_enough, graver_verdict, is_among, is_in_time, is_missing, is_shown, shortfall_of, verdict_by_bounds, verdict_on}
use Rattle.sip_report.specs.declared.check_limits.Bounds.{Bounds}
use Rattle.sip_report.specs.declared.check_limits.CheckLimits.{CheckLimits}
use Rattle.sip_report.specs.declared.verdict.Shortfall.{Shortfall}
use Rattle.sip_report.specs.declared.verdict.Shortfall.TheVariants.{Missing}
use Rattle.sip_report.specs.declared.verdict.Verdict.TheVariants.{Well, Critical}

-- ---- bounds

in-time-from : (most : Option ℕ) (took : ℕ) → is_in_time most took ≡ true → (n : ℕ) → most ≡ Some n → took ≤ n
in-time-from None took is n some = absurd (cc (some))
in-time-from (Some m) took is n some =
    let same : m ≡ n = cc (some) in
    elim (cases_Bool (nat_lt m took)) [
      | inl late ↦ absurd (cc (late, is))
      | inr not' ↦ grind (arith, nat_tests)
    ]

in-time-to : (most : Option ℕ) (took : ℕ) → ((n : ℕ) → most ≡ Some n → took ≤ n) → is_in_time most took ≡ true
in-time-to None took within = refl
in-time-to (Some m) took within =
    let low = within m refl in
    let not' : nat_lt m took ≡ false = grind (arith, nat_tests) in
    rw not' refl

enough-from : (least : Option ℕ) (count : ℕ) → are_enough least count ≡ true → (n : ℕ) → least ≡ Some n → n ≤ count
enough-from None count is n some = absurd (cc (some))
enough-from (Some m) count is n some =
    let same : m ≡ n = cc (some) in
    elim (cases_Bool (nat_lt count m)) [
      | inl few ↦ absurd (cc (few, is))
      | inr not' ↦ grind (arith, nat_tests)
    ]

enough-to : (least : Option ℕ) (count : ℕ) → ((n : ℕ) → least ≡ Some n → n ≤ count) → are_enough least count ≡ true
enough-to None count within = refl
enough-to (Some m) count within =
    let low = within m refl in
    let not' : nat_lt count m ≡ false = grind (arith, nat_tests) in
    rw not' refl

within-from : (bounds : Bounds) (took count : ℕ) → shortfall_of bounds took count ≡ None → IsWithin bounds took count
within-from bounds took count none =
    elim (cases_Bool (are_enough bounds.targets count)) [
      | inr few ↦ absurd (cc (few, none))
      | inl enough ↦ elim (cases_Bool (is_in_time bounds.time took)) [
        | inr late ↦ absurd (cc (enough, late, none))
        | inl early ↦ record {
          time = in-time-from bounds.time took early;
          targets = enough-from bounds.targets count enough;
        }
      ]
    ]

within-to : (bounds : Bounds) (took count : ℕ) → IsWithin bounds took count → shortfall_of bounds took count ≡ None
within-to bounds took count within =
    let enough = enough-to bounds.targets count within.targets in
    let early = in-time-to bounds.time took within.time in
    rw (enough, early) refl

-- ---- the target that is expected

has-from : (expected : Option (List ℕ)) (targets : List Target) → is_missing expected targets ≡ false → (word : List ℕ)
    → expected ≡ Some word → Any (λ target. IsTrue (is_shown word target)) targets
has-from None targets none word some = absurd (cc (some))
has-from (Some it) targets there word some =
    let same : it ≡ word = cc (some) in
    let among : is_among it targets ≡ true = elim (cases_Bool (is_among it targets)) [
      | inl is ↦ is
      | inr not' ↦ absurd (cc (not', there))
    ] in
    subst (λ w. Any (λ target. is_shown w target ≡ true) targets) same (Any-from_list_any (is_shown it) targets among)

has-to : (expected : Option (List ℕ)) (targets : List Target)
    → ((word : List ℕ) → expected ≡ Some word → Any (λ target. IsTrue (is_shown word target)) targets) → is_missing expected targets ≡ false
has-to None targets has = refl
has-to (Some it) targets has =
    let among = list_any-from_Any (is_shown it) targets (has it refl) in
    rw among refl

-- ---- verdicts

none-from : (critical warning : Option Shortfall) → IsBelowCritical (graver_verdict critical warning) → critical ≡ None
none-from (Some it) warning below = absurd below
none-from None warning below = refl

none-to : (critical warning : Option Shortfall) → critical ≡ None → IsBelowCritical (graver_verdict critical warning)
none-to (Some it) warning none = absurd (cc (none))
none-to None (Some it) none = tt
none-to None None none = tt

well-from : (critical warning : Option Shortfall) → graver_verdict critical warning ≡ Well → (critical ≡ None) × (warning ≡ None)
well-from (Some it) warning is = absurd (cc (is))
well-from None (Some it) is = absurd (cc (is))
well-from None None is = (refl, refl)

module _ (limits : CheckLimits) (took : ℕ) (targets : List Target) where
  abbrev expected : Option (List ℕ)
  expected = option_map (λ word. word.now) limits.expected

  by_bounds : is_missing expected targets ≡ false → verdict_on limits took targets ≡ verdict_by_bounds limits took (length targets)
  by_bounds there = rw there refl

  abbrev critical : Option Shortfall
  critical = shortfall_of limits.critical took (length targets)

  abbrev warning : Option Shortfall
  warning = shortfall_of limits.warning took (length targets)

  when-missing : is_missing expected targets ≡ true → verdict_on limits took targets ≡ Critical Missing
  when-missing missing = rw missing refl

  not-critical : is_missing expected targets ≡ false → critical ≡ None → IsNotCritical limits took targets
  not-critical there none = record {
    bounds = within-from limits.critical took (length targets) none;
    expected = record { has = has-from expected targets there };
  }

  pub below-from : IsBelowCritical (verdict_on limits took targets) → IsNotCritical limits took targets
  below-from below =
      elim (cases_Bool (is_missing expected targets)) [
        | inl missing ↦ absurd (subst IsBelowCritical (when-missing missing) below)
        | inr there ↦ not-critical there (none-from critical warning (subst IsBelowCritical (by_bounds there) below))
      ]

  pub below-to : IsNotCritical limits took targets → IsBelowCritical (verdict_on limits took targets)
  below-to it =
      let there = has-to expected targets it.expected.has in
      subst IsBelowCritical (sym (by_bounds there))
      (none-to critical warning (within-to limits.critical took (length targets) it.bounds))

  pub well-at : verdict_on limits took targets ≡ Well → IsWell limits took targets
  well-at is =
      elim (cases_Bool (is_missing expected targets)) [
        | inl missing ↦ (let wrong = sym (when-missing missing) ∙ is in absurd (cc (wrong)))
        | inr there ↦ (let none = well-from critical warning (sym (by_bounds there) ∙ is) in record {
          critical = not-critical there none.0;
          warning = within-from limits.warning took (length targets) none.1;
        })
      ]

  pub well-to : IsWell limits took targets → verdict_on limits took targets ≡ Well
  well-to it =
      let there = has-to expected targets it.critical.expected.has in
      let first = within-to limits.critical took (length targets) it.critical.bounds in
      let second = within-to limits.warning took (length targets) it.warning in
      by_bounds there ∙ rw (first, second) refl
