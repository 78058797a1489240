use Rattle.std.proofs.Common.{sym, ap, ◌∙◌}
use Rattle.std.specs.Option.{option_and_then}
use Rattle.ip_text.specs.Parts.{behind_front}
use Rattle.ip_text.proofs.Colons.{colons_in_front}
use Rattle.ip_text.proofs.ipv6.behind_colons.Goals as goal

pub returns-in_err-behind_front : goal.returns-in_err-behind_front
returns-in_err-behind_front c =
    rw c.from_residual.ensures
    (ap (option_and_then (behind_front 58)) c.in_err-behind_front.ensures ∙ sym (colons_in_front c.args.text.now))

pub returns : goal.returns
returns c = c.behind_front-2.ensures ∙
    (ap (option_and_then (behind_front 58)) c.in_ok-behind_front.ensures ∙ sym (colons_in_front c.args.text.now))
