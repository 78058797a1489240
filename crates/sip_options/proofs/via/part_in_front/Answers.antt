use Rattle.std.proofs.Common.{sym, ◌∙◌}
use Rattle.sip_options.proofs.ViaPieces.{no_end, part_made}
use Rattle.sip_options.proofs.via.part_in_front.Goals as goal

pub returns-then-ends_part-clause-found : goal.returns-then-ends_part-clause-found
returns-then-ends_part-clause-found c =
    part_made c.args.text.now c.cut.result.0.now c.cut.result.1.now c.cut.ensures.joined c.cut.ensures.many
    (sym c.ends_part.ensures ∙ c.if-ends_part.true)

pub returns-else-ends_part-clause-none : goal.returns-else-ends_part-clause-none
returns-else-ends_part-clause-none c =
    no_end c.args.text.now c.cut.result.0.now c.cut.result.1.now c.cut.ensures.joined c.cut.ensures.many c.cut.ensures.ends
    (sym c.ends_part.ensures ∙ c.if-ends_part.false)
