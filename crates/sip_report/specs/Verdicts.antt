-- How a check judges targets.
use Rattle.std.specs.Prelude.{◌≡◌, ◌||◌, ◌≤◌, ℕ, nat_lt, Bool, true, false, not, List, length, Option, Some, None}
use Rattle.std.specs.Prelude.{if◌then◌else◌, option_map, IsTrue, ⊤}
use Rattle.std.specs.List.{Any, list_any}
use Rattle.std.specs.Str.{bytes_eq}
use Rattle.sip_resolver.specs.declared.outcome.Outcome.TheVariants as outcome
use Rattle.sip_selection.specs.declared.target.Target.{Target}
use Rattle.sip_report.specs.Lines.{target_words}
use Rattle.sip_report.specs.declared.address.AddressForm.{AddressForm}
use Rattle.sip_report.specs.declared.address.AddressForm.TheVariants.{Full, Short}
use Rattle.sip_report.specs.declared.check_limits.Bounds.{Bounds}
use Rattle.sip_report.specs.declared.check_limits.CheckLimits.{CheckLimits}
use Rattle.sip_report.specs.declared.line_outcome.LineOutcome.{LineOutcome}
use Rattle.sip_report.specs.declared.line_outcome.LineOutcome.TheVariants as line_outcome
use Rattle.sip_report.specs.declared.verdict.Shortfall.{Shortfall}
use Rattle.sip_report.specs.declared.verdict.Shortfall.TheVariants.{Missing, TooFew, TooLate}
use Rattle.sip_report.specs.declared.verdict.Verdict.{Verdict}
use Rattle.sip_report.specs.declared.verdict.Verdict.TheVariants.{Well, Warning, Critical}

-- so many milliseconds are no more than the bound, where there is one
abbrev pub is_in_time : Option ℕ → ℕ → Bool
is_in_time None took = true
is_in_time (Some most) took = not (nat_lt most took)

-- so many targets are as many as there have to be, where a number is given
abbrev pub are_enough : Option ℕ → ℕ → Bool
are_enough None count = true
are_enough (Some least) count = not (nat_lt count least)

-- in what so many targets, after so many milliseconds, fall short of bounds
abbrev pub shortfall_of : Bounds → ℕ → ℕ → Option Shortfall
shortfall_of bounds took count =
    if not (are_enough bounds.targets count) then Some TooFew else
    (if not (is_in_time bounds.time took) then Some TooLate else None)

-- a word shows a target in this form of addresses
abbrev pub is_shown_in : AddressForm → List ℕ → Target → Bool
is_shown_in form word target = bytes_eq (target_words form target) word

-- a word shows a target, with its address in full or in the short form
abbrev pub is_shown : List ℕ → Target → Bool
is_shown word target = is_shown_in Full word target || is_shown_in Short word target

-- a word shows one of these targets
abbrev pub is_among : List ℕ → List Target → Bool
is_among word targets = list_any (is_shown word) targets

-- the target that is expected is none of these
abbrev pub is_missing : Option (List ℕ) → List Target → Bool
is_missing None targets = false
is_missing (Some word) targets = not (is_among word targets)

-- the verdict by what falls short of the critical bounds, and of those of a warning
abbrev pub graver_verdict : Option Shortfall → Option Shortfall → Verdict
graver_verdict (Some shortfall) warning = Critical shortfall
graver_verdict None (Some shortfall) = Warning shortfall
graver_verdict None None = Well

-- the verdict on so many targets, after so many milliseconds, of which none is missing
abbrev pub verdict_by_bounds : CheckLimits → ℕ → ℕ → Verdict
verdict_by_bounds limits took count =
    graver_verdict (shortfall_of limits.critical took count)
    (shortfall_of limits.warning took count)

-- the verdict on targets, which were found after so many milliseconds
abbrev pub verdict_on : CheckLimits → ℕ → List Target → Verdict
verdict_on limits took targets =
    if is_missing (option_map (λ word. word.now) limits.expected) targets then Critical Missing
    else verdict_by_bounds limits took (length targets)

-- The verdict on what became of a text after so many milliseconds. Where it has no targets, nothing
-- is wrong with them.
abbrev pub verdict_of : CheckLimits → ℕ → LineOutcome → Verdict
verdict_of limits took (line_outcome.Became (outcome.Targets list)) =
    verdict_on limits took list.targets
verdict_of limits took (line_outcome.Became (outcome.Refused reason)) = Well
verdict_of limits took (line_outcome.Became (outcome.NoAnswer question)) = Well
verdict_of limits took (line_outcome.Became (outcome.NoServer question)) = Well
verdict_of limits took (line_outcome.Became (outcome.BadReply question refusal)) = Well
verdict_of limits took (line_outcome.Became outcome.Memory) = Well
verdict_of limits took (line_outcome.Tried tries) = verdict_on limits took tries.targets.items
verdict_of limits took (line_outcome.NoSuchName name) = Well
verdict_of limits took line_outcome.TimeOver = Well
verdict_of limits took (line_outcome.Bad fault) = Well
verdict_of limits took line_outcome.NotText = Well
verdict_of limits took line_outcome.Memory = Well

-- ---- what a verdict says

-- so much is within bounds: it took no longer, and there are as many targets as there have to be
pub record IsWithin (bounds : Bounds) (took count : ℕ) : Type 0 where
  pub time : (most : ℕ) → bounds.time ≡ Some most → took ≤ most
  pub targets : (least : ℕ) → bounds.targets ≡ Some least → least ≤ count

-- the target that is expected, where one is, is one of these
pub record HasExpected (limits : CheckLimits) (targets : List Target) : Type 0 where
  pub has : (word : List ℕ) → option_map (λ word. word.now) limits.expected ≡ Some word
      → Any (λ target. IsTrue (is_shown word target)) targets

-- nothing critical is wrong with targets
pub record IsNotCritical (limits : CheckLimits) (took : ℕ) (targets : List Target) : Type 0 where
  pub bounds : IsWithin limits.critical took (length targets)
  pub expected : HasExpected limits targets

-- all holds that a check asks of targets
pub record IsWell (limits : CheckLimits) (took : ℕ) (targets : List Target) : Type 0 where
  pub critical : IsNotCritical limits took targets
  pub warning : IsWithin limits.warning took (length targets)

-- a verdict that is not critical
abbrev pub IsBelowCritical : Verdict → Type 0
IsBelowCritical Well = ⊤
IsBelowCritical (Warning shortfall) = ⊤
IsBelowCritical (Critical shortfall) = ⊥
