use Rattle.sip_options.proofs.WordTexts.{match_none, line_none}
use Rattle.sip_options.proofs.lines.behind_line.Goals as goal

pub returns-clause-none : goal.returns-clause-none
returns-clause-none c =
    match_none c.behind_break.result _ _ _ c.behind_break.ensures.none
    (line_none c.args.text.now c.cut.result.0.now c.cut.result.1.now c.cut.ensures.joined c.cut.ensures.many c.cut.ensures.ends)
