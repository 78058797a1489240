use Rattle.std.proofs.Common.{◌≡◌, ◌++◌, take}
use Rattle.std.specs.List.{flat_map}
use Rattle.std.specs.String.{string_bytes}
use Rattle.sip_report.specs.Explanations.{drawn_line}
use Rattle.sip_report.proofs.explanation.push_all_drawn.Given as goal

abbrev pub invariant-firsts : goal.invariant-firsts
invariant-firsts l = string_bytes l.lines
    ≡ string_bytes l.fn.lines ++ flat_map
    (drawn_line l.form l.account.paths.items l.account.draws) (take l.first-index l.account.firsts.items)
