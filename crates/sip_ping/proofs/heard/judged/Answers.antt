use Rattle.std.proofs.Common.{◌≡◌, None, Some, sym, ◌∙◌}
use Rattle.sip_ping.proofs.heard.judged.Goals as goal

pub returns-in-None : goal.returns-in-None
returns-in-None c = λ status is.
    let e : None ≡ Some status = sym c.in-None.is ∙ c.reply_status.ensures.read status is in
    absurd cc
