-- Where events lead the tries of targets.
use Rattle.std.proofs.Common.{◌≡◌, ℕ, ◌+◌, ◌<◌, ◌≤◌, Bool, true, false, ◌&&◌, nat_lt, List, [], ◌∷◌, length, take, refl, sym, ap, ◌∙◌, inl, inr, arith}
use Rattle.std.specs.Prelude.{min}
use Rattle.std.specs.List.{fold}
use Rattle.std.proofs.lemmas.Bool.{cases_lt}
use Rattle.std.proofs.lemmas.Bool.Decides.{nat_tests}
use Rattle.std.proofs.lemmas.List.{take_all}
use Rattle.sip_selection.specs.Trials.{Trial, begun, failures_in, is_answered, next_trial, progress_by, progress_of, tried_by, tried_in}
use Rattle.sip_selection.specs.declared.failover.Event.{Event}
use Rattle.sip_selection.specs.declared.failover.Event.TheVariants.{Failed, Responded}
use Rattle.sip_selection.specs.declared.target.Target.{Target}

yes_lt : (a b : ℕ) → a < b → nat_lt a b ≡ true
yes_lt a b lt = grind (arith, nat_tests)

no_lt : (a b : ℕ) → b ≤ a → nat_lt a b ≡ false
no_lt a b le = grind (arith, nat_tests)

and_false : (b : Bool) → b && false ≡ false
and_false true = refl
and_false false = refl

and_true : (b : Bool) → b && true ≡ b
and_true true = refl
and_true false = refl

module _ (targets : List Target) where
  abbrev at : ℕ → Bool → Trial
  at failures answered = record { targets = targets; failures = failures; answered = answered }

  -- where no target is left nothing changes
  stays_exhausted : (failures : ℕ) (answered : Bool) (events : List Event) → length targets ≤ failures
      → fold next_trial (at failures answered) events ≡ at failures answered
  stays_exhausted failures answered [] le = refl
  stays_exhausted failures answered (event ∷ events) le =
      rw (no_lt failures (length targets) le) (stays_exhausted failures answered events le)

  -- nor where one answered
  stays_answered : (failures : ℕ) (events : List Event) → failures < length targets
      → fold next_trial (at failures true) events ≡ at failures true
  stays_answered failures [] lt = refl
  stays_answered failures (event ∷ events) lt = rw (yes_lt failures (length targets) lt) (stays_answered failures events lt)

  abbrev service_step : ℕ → List Event → Trial
  service_step failures events =
      at (min (length targets) (failures + failures_in events))
      (is_answered events && nat_lt (failures + failures_in events) (length targets))

  run : (failures : ℕ) (events : List Event) → failures ≤ length targets
      → fold next_trial (at failures false) events ≡ service_step failures events
  run failures [] le = let here : min (length targets) (failures + 0) ≡ failures = omega arith in rw here refl
  run failures (Failed failure ∷ events) le =
      let n : ℕ = length targets in
      let f : ℕ = failures_in events in
      elim (cases_lt failures n) [
        | inl lt ↦ (let one : failures + 1 + f ≡ failures + (f + 1) =
            omega arith in rw (yes_lt failures n lt, ← one) (run (failures + 1) events (omega arith)))
        | inr ge ↦ (let all : min n (failures + (f + 1)) ≡ failures = omega arith in
            rw (no_lt failures n ge, all, no_lt (failures + (f + 1)) n (omega arith), and_false (is_answered events))
            (stays_exhausted failures false events ge))
      ]
  run failures (Responded ∷ events) le =
      let n : ℕ = length targets in
      let here : min n (failures + 0) ≡ failures = omega arith in
      elim (cases_lt failures n) [
        | inl lt ↦ rw (here, yes_lt failures n lt, yes_lt (failures + 0) n (omega arith)) (stays_answered failures events lt)
        | inr ge ↦ rw (here, no_lt failures n ge, no_lt (failures + 0) n (omega arith)) (stays_exhausted failures false events ge)
      ]

  pub tried_is : (events : List Event) → tried_in (fold next_trial (begun targets) events) ≡ tried_by targets events
  tried_is events =
      let n : ℕ = length targets in
      let f : ℕ = failures_in events in
      let zero : 0 + f ≡ f = omega arith in
      ap tried_in (run 0 events (omega arith)) ∙ elim (cases_lt f n) [
        | inl lt ↦ (let here : min n (0 + f) ≡ f = omega arith in ap (λ k. take (k + 1) targets) here)
        | inr ge ↦ (let here : min n (0 + f) ≡ n = omega arith in
            ap (λ k. take (k + 1) targets) here ∙ take_all (n + 1) targets (omega arith) ∙ sym (take_all (f + 1) targets (omega arith)))
      ]

  pub progress_is : (events : List Event) → progress_of (fold next_trial (begun targets) events) ≡ progress_by targets events
  progress_is events =
      let n : ℕ = length targets in
      let f : ℕ = failures_in events in
      ap progress_of (run 0 events (omega arith)) ∙ elim (cases_lt f n) [
        | inl lt ↦ (let here : min n (0 + f) ≡ f = omega arith in
            let zero : 0 + f ≡ f = omega arith in
            rw (here, zero, yes_lt f n lt, and_true (is_answered events)) refl)
        | inr ge ↦ (let here : min n (0 + f) ≡ n = omega arith in rw (here, no_lt n n (omega arith), no_lt f n ge) refl)
      ]
