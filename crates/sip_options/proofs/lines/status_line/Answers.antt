use Rattle.std.proofs.Common.{◌≡◌, Some, None, sym, ◌∙◌}
use Rattle.sip_options.specs.Readers.Numbers.{status_in_front}
use Rattle.sip_options.proofs.StatusTexts.{line_status, versionless, second_of, line_at}
use Rattle.sip_options.proofs.WordTexts.{none_given}
use Rattle.sip_options.proofs.lines.status_line.Goals as goal

pub returns-in_err-behind_word-clause-none : goal.returns-in_err-behind_word-clause-none
returns-in_err-behind_word-clause-none c =
    none_given c.from_residual.result _
    (λ status rest is.
    let k = versionless c.args.text.now status rest is in
    c.in_err-behind_word.ensures.none k.0 k.1)

pub returns-in_err-status-clause-none : goal.returns-in_err-status-clause-none
returns-in_err-status-clause-none c =
    none_given c.from_residual-in_err-status.result _
    (λ status rest is.
    let k = line_status c.args.text.now status rest c.in_ok-behind_word.field-0.now is c.in_ok-behind_word.ensures.found in
    let none' : None ≡ status_in_front c.in_ok-behind_word.field-0.now = c.in_err-status.ensures in
    absurd (let no : None ≡ Some (status, k.0) = none' ∙ k.1 in cc))

pub returns-in_err-behind_line-clause-none : goal.returns-in_err-behind_line-clause-none
returns-in_err-behind_line-clause-none c =
    none_given c.from_residual-in_err-behind_line.result _
    (λ status rest is.
    let k = line_status c.args.text.now status rest c.in_ok-behind_word.field-0.now is c.in_ok-behind_word.ensures.found in
    let e : Some (c.in_ok-status.status, c.in_ok-status.reason.now) ≡ status_in_front c.in_ok-behind_word.field-0.now =
    c.in_ok-status.ensures in
    let same : k.0 ≡ c.in_ok-status.reason.now = second_of status c.in_ok-status.status k.0 c.in_ok-status.reason.now (sym k.1 ∙ sym e) in
    c.in_err-behind_line.ensures.none rest (line_at k.0 c.in_ok-status.reason.now rest same k.2))
