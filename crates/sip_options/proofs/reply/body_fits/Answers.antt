use Rattle.std.proofs.Common.{◌≡◌, ◌≤◌, true, false, length, arith}
use Rattle.std.proofs.lemmas.Bool.Decides.{nat_tests}
use Rattle.sip_options.specs.Heads.{values_at}
use Rattle.sip_options.specs.declared.field.Field.TheVariants.{ContentLength}
use Rattle.sip_options.proofs.ReplyTexts.{body_made, body_length, body_within}
use Rattle.sip_options.proofs.reply.body_fits.Goals as goal

pub returns-in-Some-length_said : goal.returns-in-Some-length_said
returns-in-Some-length_said c =
    let text = c.args.text.now in
    let body = c.in-Some.body.now in
    let k = c.in-Some.ensures.found in
    let l = c.in-Some-length_said.ensures.found (values_at ContentLength k.0) k.2 in (
      λ yes.
          let within : c.in-Some-length_said.size ≤ length body = grind (arith, nat_tests, yes) in
          body_made text c.requires k.0 body k.1 c.in-Some-length_said.size l.0 l.1 l.2 within,
      λ fits.
          let within = body_within text c.requires k.0 body k.1 c.in-Some-length_said.size l.0 l.1 l.2 fits in
          grind (arith, nat_tests, within),
    )

pub returns-in-None-length_said : goal.returns-in-None-length_said
returns-in-None-length_said c =
    let text = c.args.text.now in
    let body = c.in-Some.body.now in
    let k = c.in-Some.ensures.found in (
      λ no. absurd (let differ : false ≡ true = no in cc),
      λ fits. absurd
          (c.in-None-length_said.ensures.none (values_at ContentLength k.0) k.2 fits.size (body_length text c.requires k.0 body k.1 fits)),
    )
