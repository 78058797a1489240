-- What is printed of a text.
use Rattle.std.specs.Prelude.{ℕ, Bool, true, false, List, [], ◌∷◌, ◌++◌}
use Rattle.std.specs.List.{flat_map}
use Rattle.dns_transport.specs.declared.wire_try.WireTry.{WireTry}
use Rattle.sip_report.specs.Escapes.{shown}
use Rattle.sip_report.specs.Checks.{check_line, check_status}
use Rattle.sip_report.specs.Explanations.{account_lines, targets_in}
use Rattle.sip_report.specs.Jsons.{json_line}
use Rattle.sip_report.specs.Lines.{lines_of, status_of, verbose_lines}
use Rattle.sip_report.specs.Metrics.{metrics_of}
use Rattle.sip_report.specs.Rules.{is_via}
use Rattle.sip_report.specs.Traces.{try_lines}
use Rattle.sip_report.specs.declared.account.Account.{Account}
use Rattle.sip_report.specs.declared.address.AddressForm.{AddressForm}
use Rattle.sip_report.specs.declared.line_outcome.LineOutcome.{LineOutcome}
use Rattle.sip_report.specs.declared.report.Report.{Report}
use Rattle.sip_report.specs.declared.report.Report.TheVariants.{Lines, Json, Check, Metrics}
use Rattle.sip_report.specs.declared.report.Style.{Style}
use Rattle.sip_report.specs.declared.verdict.Verdict.{Verdict}

-- what is in front of the lines of a text: the text as it is shown and a space, where there are
-- several texts
abbrev pub front_of : Bool → List ℕ → List ℕ
front_of true text = shown text ++ 32 ∷ []
front_of false text = []

-- the lines of a text: with the name that does not exist, where that is asked for
abbrev pub lines_in : Bool → AddressForm → List ℕ → LineOutcome → List ℕ
lines_in true form front line_outcome = verbose_lines form front line_outcome
lines_in false form front line_outcome = lines_of form front line_outcome

-- what is printed of a text, in a form of report
abbrev pub report_as : Report → Style → List ℕ → ℕ → Verdict → Account → LineOutcome → List ℕ
report_as Lines style text took verdict account line_outcome =
    lines_in style.verbose style.form (front_of style.several text) line_outcome
report_as Json style text took verdict account line_outcome =
    json_line style.form text took account line_outcome
report_as Check style text took verdict account line_outcome =
    check_line style.form style.limits took verdict line_outcome
report_as Metrics style text took verdict account line_outcome = metrics_of text took line_outcome

-- what is printed of a text, in the style that is asked for, by what became of it after so many
-- milliseconds, the verdict of a check, and the account of it
abbrev pub report_of : Style → List ℕ → ℕ → Verdict → Account → LineOutcome → List ℕ
report_of style text took verdict account line_outcome =
    report_as style.report style text took verdict account line_outcome

-- the lines of what went over the wire, where they are asked for
abbrev pub trace_of : Bool → AddressForm → List ℕ → List WireTry → List ℕ
trace_of true form text tries = flat_map (try_lines form (is_via text)) tries
trace_of false form text tries = []

-- the lines of the account of a text
abbrev pub account_of : Style → List ℕ → Account → LineOutcome → List ℕ
account_of style text account line_outcome =
    account_lines style.explains style.form (is_via text) account (targets_in line_outcome)

-- the lines of what went over the wire, where they are asked for, and after them those of the
-- account of a text, and what is printed of it
abbrev pub traced_report : Style → List WireTry → List ℕ → ℕ → Verdict → Account → LineOutcome
    → List ℕ
traced_report style tries text took verdict account line_outcome =
    trace_of style.traced style.form text tries ++ account_of style text account line_outcome
    ++ report_of style text took verdict account line_outcome

-- the exit status of a text in a form of report: a check has one of its own
abbrev pub status_in : Report → Verdict → LineOutcome → ℕ
status_in Lines verdict line_outcome = status_of line_outcome
status_in Json verdict line_outcome = status_of line_outcome
status_in Metrics verdict line_outcome = status_of line_outcome
status_in Check verdict line_outcome = check_status verdict line_outcome
