use Rattle.std.proofs.Common.{◌≡◌, true, false, subst}
use Rattle.sip_options.specs.Fields.{IsOptionsCSeq}
use Rattle.sip_options.specs.declared.field.Field.TheVariants.{CSeq}
use Rattle.sip_options.proofs.ReplyTexts.{one_only}
use Rattle.sip_options.proofs.reply.cseq_fits.Goals as goal

pub returns-in-Some : goal.returns-in-Some
returns-in-Some c =
    let cseq = c.in-Some.cseq.now in (
      λ yes. (cseq, c.in-Some.ensures.found, c.is_options_cseq.ensures.0 yes),
      λ fits.
          let same = one_only CSeq c.args.text.now fits.0 cseq fits.1 c.in-Some.ensures.found in
          c.is_options_cseq.ensures.1 (subst IsOptionsCSeq same fits.2),
    )

pub returns-in-None : goal.returns-in-None
returns-in-None c = (
  λ no. absurd (let differ : false ≡ true = no in cc),
  λ fits. absurd (c.in-None.ensures.none fits.0 fits.1),
)
