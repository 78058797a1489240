use Rattle.std.proofs.Common.{rules}
use Rattle.sip_report.proofs.Floats.{none_in_all}
use Rattle.sip_report.proofs.json.json_line.Goals as goal

pub returns : goal.returns
returns c =
    let no_float = none_in_all c.args.form c.args.text.now c.args.took c.args.line_outcome.now c.least_life-life.result
    c.args.account.now.server in
    let written = c.in_ok-line.ensures.text (rw (c.in_ok-value-3.ensures, c.in_ok-value-2.ensures, c.in_ok-value.ensures) no_float) in
    rw (c.in_ok-push_str.ensures.bytes, written, c.in_ok-value-3.ensures, c.in_ok-value-2.ensures, c.in_ok-value.ensures) (search rules)
