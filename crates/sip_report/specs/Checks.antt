-- One line for a monitoring system, as the plugins of Nagios print it.
use Rattle.std.specs.Prelude.{ℕ, List, [], ◌∷◌, ◌++◌, length, codes, Option, Some, None, option_map, if◌then◌else◌}
use Rattle.std.specs.Fmt.{decimal}
use Rattle.sip_resolver.specs.declared.outcome.Outcome.{Outcome}
use Rattle.sip_resolver.specs.declared.outcome.Outcome.TheVariants as outcome
use Rattle.sip_selection.specs.declared.target.Target.{Target}
use Rattle.sip_report.specs.Escapes.{shown}
use Rattle.sip_report.specs.Lines.{lines_of, outcome_lines, target_words, verbose_lines}
use Rattle.sip_report.specs.declared.address.AddressForm.{AddressForm}
use Rattle.sip_report.specs.declared.check_limits.CheckLimits.{CheckLimits}
use Rattle.sip_report.specs.declared.line_outcome.LineOutcome.{LineOutcome}
use Rattle.sip_report.specs.declared.line_outcome.LineOutcome.TheVariants as line_outcome
use Rattle.sip_tries.specs.Turns.{first_time, succeeded}
use Rattle.sip_tries.specs.declared.tries.Extent.{Extent}
use Rattle.sip_tries.specs.declared.tries.Extent.TheVariants.{UntilThere, All as EachOne}
use Rattle.sip_tries.specs.declared.tries.Tries.{Tries}
use Rattle.sip_report.specs.declared.verdict.Shortfall.{Shortfall}
use Rattle.sip_report.specs.declared.verdict.Shortfall.TheVariants.{Missing, TooFew, TooLate}
use Rattle.sip_report.specs.declared.verdict.Verdict.{Verdict}
use Rattle.sip_report.specs.declared.verdict.Verdict.TheVariants.{Well, Warning, Critical}

-- ---- the status

-- of targets: 0 OK, 1 WARNING, 2 CRITICAL
abbrev pub verdict_status : Verdict → ℕ
verdict_status Well = 0
verdict_status (Warning shortfall) = 1
verdict_status (Critical shortfall) = 2

-- That of the verdict, where there are targets. 2 CRITICAL: the request goes nowhere, or no server
-- answered. 3 UNKNOWN: it is no request, or memory was refused.
abbrev pub check_status : Verdict → LineOutcome → ℕ
check_status verdict (line_outcome.Became (outcome.Targets list)) = verdict_status verdict
check_status verdict (line_outcome.Became (outcome.Refused reason)) = 2
check_status verdict (line_outcome.Became (outcome.NoAnswer question)) = 2
check_status verdict (line_outcome.Became (outcome.NoServer question)) = 2
check_status verdict (line_outcome.Became (outcome.BadReply question refusal)) = 2
check_status verdict (line_outcome.Became outcome.Memory) = 3
check_status verdict (line_outcome.Tried tries) =
    if succeeded tries.extent tries.tries.items then verdict_status verdict else 2
check_status verdict (line_outcome.NoSuchName name) = 2
check_status verdict line_outcome.TimeOver = 2
check_status verdict (line_outcome.Bad fault) = 3
check_status verdict line_outcome.NotText = 3
check_status verdict line_outcome.Memory = 3

-- ---- the line of targets

-- the target that is expected and missing
abbrev pub missing_words : Option (List ℕ) → List ℕ
missing_words None = []
missing_words (Some word) = codes "missing " ++ shown word ++ codes ", "

-- in what targets fall short
abbrev pub shortfall_words : Option (List ℕ) → Shortfall → List ℕ
shortfall_words expected Missing = missing_words expected
shortfall_words expected TooFew = codes "too few, "
shortfall_words expected TooLate = codes "too late, "

-- the verdict on targets
abbrev pub verdict_words : Option (List ℕ) → Verdict → List ℕ
verdict_words expected Well = codes "SIP OK - "
verdict_words expected (Warning shortfall) =
    codes "SIP WARNING - " ++ shortfall_words expected shortfall
verdict_words expected (Critical shortfall) =
    codes "SIP CRITICAL - " ++ shortfall_words expected shortfall

-- how many targets there are, where there are several
abbrev pub many_words : ℕ → List ℕ
many_words count = decimal count ++ codes " targets, first "

-- targets in words: how many there are, and the first one
abbrev pub targets_words : AddressForm → List Target → List ℕ
targets_words form [] = codes "0 targets"
targets_words form (only ∷ []) = codes "1 target: " ++ target_words form only
targets_words form (first ∷ second ∷ others) =
    many_words (length (first ∷ second ∷ others)) ++ target_words form first

-- a bound, where there is one, and what stands behind it
abbrev pub bound_words : Option ℕ → List ℕ → List ℕ
bound_words None behind = []
bound_words (Some bound) behind = decimal bound ++ behind

-- the bounds of a value, and its least value
abbrev pub bounds_words : Option ℕ → Option ℕ → List ℕ → List ℕ
bounds_words warning critical behind =
    bound_words warning behind ++ codes ";" ++ bound_words critical behind ++ codes ";0"

-- a value, between what stands in front of it and behind it
abbrev pub value_words : List ℕ → ℕ → List ℕ → List ℕ
value_words front value behind = front ++ decimal value ++ behind

-- The performance data: each value, its bounds of a warning and of a critical state, and its least
-- value. A time is to be at most its bound, and a number of targets at least its bound (`N:`).
abbrev pub performance : CheckLimits → ℕ → ℕ → List ℕ
performance limits took count =
    value_words (codes " | time=") took (codes "ms;")
    ++ bounds_words limits.warning.time limits.critical.time []
    ++ value_words (codes " targets=") count (codes ";")
    ++ bounds_words limits.warning.targets limits.critical.targets (codes ":")

-- the line of targets
abbrev pub targets_line : AddressForm → CheckLimits → ℕ → Verdict → List Target → List ℕ
targets_line form limits took verdict targets =
    verdict_words (option_map (λ word. word.now) limits.expected) verdict
    ++ targets_words form targets ++ performance limits took (length targets) ++ codes "\n"

-- ---- the line of targets that were tried

-- the verdict on targets of which one is there, or all are, where each is tried
abbrev pub missing_servers : Extent → List ℕ
missing_servers UntilThere = codes "SIP CRITICAL - no server answered, "
missing_servers EachOne = codes "SIP CRITICAL - a server is missing, "

-- what stands in front of them: that no server, or not each, is there, or else the verdict on them
abbrev pub tries_words : Option (List ℕ) → Verdict → Tries → List ℕ
tries_words expected verdict tries =
    if succeeded tries.extent tries.tries.items then verdict_words expected verdict
    else missing_servers tries.extent

-- the milliseconds until the final reply was there of the first server that is there
abbrev pub rtt_words : Option ℕ → List ℕ
rtt_words None = []
rtt_words (Some after) = value_words (codes " rtt=") after (codes "ms")

-- the line of targets that were tried
abbrev pub tries_line : AddressForm → CheckLimits → ℕ → Verdict → Tries → List ℕ
tries_line form limits took verdict tries =
    tries_words (option_map (λ word. word.now) limits.expected) verdict tries
    ++ targets_words form tries.targets.items
    ++ performance limits took (length tries.targets.items)
    ++ rtt_words (first_time tries.tries.items) ++ codes "\n"

-- ---- the line of any text

-- the line for a monitoring system of what became of a request
abbrev pub outcome_line : AddressForm → CheckLimits → ℕ → Verdict → Outcome → List ℕ
outcome_line form limits took verdict (outcome.Targets list) =
    targets_line form limits took verdict list.targets
outcome_line form limits took verdict (outcome.Refused reason) =
    outcome_lines form (codes "SIP CRITICAL - ") (outcome.Refused reason)
outcome_line form limits took verdict (outcome.NoAnswer question) =
    outcome_lines form (codes "SIP CRITICAL - ") (outcome.NoAnswer question)
outcome_line form limits took verdict (outcome.NoServer question) =
    outcome_lines form (codes "SIP CRITICAL - ") (outcome.NoServer question)
outcome_line form limits took verdict (outcome.BadReply question refusal) =
    outcome_lines form (codes "SIP CRITICAL - ") (outcome.BadReply question refusal)
outcome_line form limits took verdict outcome.Memory =
    outcome_lines form (codes "SIP UNKNOWN - ") outcome.Memory

-- the line for a monitoring system of what became of a text
abbrev pub check_line : AddressForm → CheckLimits → ℕ → Verdict → LineOutcome → List ℕ
check_line form limits took verdict (line_outcome.Became outcome) =
    outcome_line form limits took verdict outcome
check_line form limits took verdict (line_outcome.Tried tries) =
    tries_line form limits took verdict tries
check_line form limits took verdict (line_outcome.NoSuchName name) =
    verbose_lines form (codes "SIP CRITICAL - ") (line_outcome.NoSuchName name)
check_line form limits took verdict line_outcome.TimeOver =
    lines_of form (codes "SIP CRITICAL - ") line_outcome.TimeOver
check_line form limits took verdict (line_outcome.Bad fault) =
    lines_of form (codes "SIP UNKNOWN - ") (line_outcome.Bad fault)
check_line form limits took verdict line_outcome.NotText =
    lines_of form (codes "SIP UNKNOWN - ") line_outcome.NotText
check_line form limits took verdict line_outcome.Memory =
    lines_of form (codes "SIP UNKNOWN - ") line_outcome.Memory
