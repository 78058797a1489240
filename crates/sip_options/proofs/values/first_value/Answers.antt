use Rattle.sip_options.specs.Heads.{values_at}
use Rattle.sip_options.proofs.ReplyTexts.{first_none}
use Rattle.sip_options.proofs.values.first_value.Goals as goal

pub returns-clause-none : goal.returns-clause-none
returns-clause-none c =
    let k = c.in_ok-values.ensures.found in
    first_none c.args.field c.args.text.now k.0 c.in_ok-values.field-0-1.now k.1 c.first.result
    (c.first.ensures (values_at c.args.field k.0) k.2)
