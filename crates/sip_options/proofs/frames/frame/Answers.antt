use Rattle.sip_options.specs.Heads.{values_at}
use Rattle.sip_options.specs.declared.field.Field.TheVariants.{ContentLength}
use Rattle.sip_options.proofs.FrameTexts as lemma
use Rattle.sip_options.proofs.frames.frame.Goals as goal

pub overflow_sub-octets : goal.overflow_sub-octets
overflow_sub-octets c =
    let k = c.in-Some.ensures.found in
    lemma.head_shorter c.args.octets.now k.0 c.in-Some.rest.now k.1

pub returns-then-octets-ge-MESSAGE_LIMIT-clause-found : goal.returns-then-octets-ge-MESSAGE_LIMIT-clause-found
returns-then-octets-ge-MESSAGE_LIMIT-clause-found c = λ size is.
    absurd (lemma.no_frame c.args.octets.now c.in-None.ensures.none size is)

pub returns-then-octets-ge-MESSAGE_LIMIT-clause-bad_length : goal.returns-then-octets-ge-MESSAGE_LIMIT-clause-bad_length
returns-then-octets-ge-MESSAGE_LIMIT-clause-bad_length c = (
  λ no. absurd cc,
  λ is. absurd (lemma.no_bad_length c.args.octets.now c.in-None.ensures.none is),
)

pub returns-else-octets-ge-MESSAGE_LIMIT-clause-found : goal.returns-else-octets-ge-MESSAGE_LIMIT-clause-found
returns-else-octets-ge-MESSAGE_LIMIT-clause-found c = λ size is.
    absurd (lemma.no_frame c.args.octets.now c.in-None.ensures.none size is)

pub returns-else-octets-ge-MESSAGE_LIMIT-clause-bad_length : goal.returns-else-octets-ge-MESSAGE_LIMIT-clause-bad_length
returns-else-octets-ge-MESSAGE_LIMIT-clause-bad_length c = (
  λ no. absurd cc,
  λ is. absurd (lemma.no_bad_length c.args.octets.now c.in-None.ensures.none is),
)

pub returns-else-octets-ge-MESSAGE_LIMIT-clause-too_long : goal.returns-else-octets-ge-MESSAGE_LIMIT-clause-too_long
returns-else-octets-ge-MESSAGE_LIMIT-clause-too_long c = (
  λ no. absurd cc,
  λ is. absurd (lemma.not_too_long c.args.octets.now c.in-None.ensures.none c.if-octets-ge-MESSAGE_LIMIT.false is),
)

pub returns-in-None-length_said-clause-found : goal.returns-in-None-length_said-clause-found
returns-in-None-length_said-clause-found c = λ size is.
    let k = c.in-Some.ensures.found in
    absurd
    (lemma.bad_no_frame c.args.octets.now k.0 c.in-Some.rest.now k.1
    (c.in-None-length_said.ensures.none (values_at ContentLength k.0) k.2) size is)

pub returns-in-None-length_said-clause-too_long : goal.returns-in-None-length_said-clause-too_long
returns-in-None-length_said-clause-too_long c =
    let k = c.in-Some.ensures.found in (
      λ no. absurd cc,
      λ is. absurd
          (lemma.bad_not_long c.args.octets.now k.0 c.in-Some.rest.now k.1
          (c.in-None-length_said.ensures.none (values_at ContentLength k.0) k.2) is),
    )

pub returns-in-Some-length_said-clause-whole : goal.returns-in-Some-length_said-clause-whole
returns-in-Some-length_said-clause-whole c =
    let k = c.in-Some.ensures.found in
    let l = c.in-Some-length_said.ensures.found (values_at ContentLength k.0) k.2 in
    lemma.whole_found c.args.octets.now k.0 c.in-Some.rest.now k.1 l.0 c.in-Some-length_said.body l.1 l.2 c.sized.result c.sized.ensures

pub returns-in-Some-length_said-clause-found : goal.returns-in-Some-length_said-clause-found
returns-in-Some-length_said-clause-found c =
    let k = c.in-Some.ensures.found in
    let l = c.in-Some-length_said.ensures.found (values_at ContentLength k.0) k.2 in
    lemma.frame_found c.args.octets.now k.0 c.in-Some.rest.now k.1 l.0 c.in-Some-length_said.body l.1 l.2 c.sized.result c.sized.ensures

pub returns-in-Some-length_said-clause-bad_length : goal.returns-in-Some-length_said-clause-bad_length
returns-in-Some-length_said-clause-bad_length c =
    let k = c.in-Some.ensures.found in
    let l = c.in-Some-length_said.ensures.found (values_at ContentLength k.0) k.2 in
    let octets = c.args.octets.now in
    let rest = c.in-Some.rest.now in
    let body = c.in-Some-length_said.body in (
      λ bad. absurd (lemma.no_bad octets k.0 rest k.1 l.0 body l.1 l.2 c.sized.result c.sized.ensures bad),
      λ is. absurd (lemma.not_bad octets k.0 rest k.1 l.0 body l.1 l.2 is),
    )

pub returns-in-Some-length_said-clause-too_long : goal.returns-in-Some-length_said-clause-too_long
returns-in-Some-length_said-clause-too_long c =
    let k = c.in-Some.ensures.found in
    let l = c.in-Some-length_said.ensures.found (values_at ContentLength k.0) k.2 in
    let octets = c.args.octets.now in
    let rest = c.in-Some.rest.now in
    let body = c.in-Some-length_said.body in (
      lemma.long_found octets k.0 rest k.1 l.0 body l.1 l.2 c.sized.result c.sized.ensures,
      lemma.long_again octets k.0 rest k.1 l.0 body l.1 l.2 c.sized.result c.sized.ensures,
    )
