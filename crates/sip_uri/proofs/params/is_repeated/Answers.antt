use Rattle.std.proofs.Common.{take, sym}
use Rattle.ip_text.specs.Parts.{parted}
use Rattle.sip_uri.proofs.ParamSteps.{unmarked}
use Rattle.sip_uri.proofs.params.is_repeated.Goals as goal

pub returns-then-not-lengths-name : goal.returns-then-not-lengths-name
returns-then-not-lengths-name c =
    sym (unmarked c.args.lengths.now (take c.args.count (parted 59 c.args.params.now)) c.args.name.now
    c.requires c.if-not-lengths-name.true)
