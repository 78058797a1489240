use Rattle.std.proofs.Common.{◌≡◌, Some, sym, ◌∙◌}
use Rattle.ip_text.specs.Parts.{behind_front}
use Rattle.sip_uri.proofs.Fronts.{quoted}
use Rattle.sip_uri.proofs.via_params.behind_value.Goals as goal

pub returns-in-Some : goal.returns-in-Some
returns-in-Some c =
    let some : behind_front 34 c.args.text.now ≡ Some c.in-Some.quoted.now = rw c.in-Some.is at (sym c.behind_front.ensures) in
    c.behind_quoted.ensures ∙ quoted c.args.text.now c.in-Some.quoted.now some
