use Rattle.std.proofs.Common.{[], refl}
use Rattle.sip_options.specs.Readers.Headers.{header_of}
use Rattle.sip_options.proofs.HeaderLists.{all_read, none_read, more_read, shorter}
use Rattle.sip_options.proofs.WordTexts.{none_given}
use Rattle.sip_options.proofs.values.values_of.Goals as goal

pub loop-body-init : goal.loop-body-init
loop-body-init c = record { seen = []; are = refl; forth = λ hs body are. (hs, are, refl); back = λ all body are. (all, are) }

pub returns-in-Some-clause-found : goal.returns-in-Some-clause-found
returns-in-Some-clause-found c =
    all_read c.args.field c.args.text.now c.loop-body.rest.now c.loop-body.values c.loop-body.invariant c.in-Some.body.now
    c.in-Some.ensures.found

pub returns-in_err-header-clause-none : goal.returns-in_err-header-clause-none
returns-in_err-header-clause-none c =
    none_given c.from_residual.result _
    (none_read c.args.field c.args.text.now c.loop-body.rest.now c.loop-body.values c.loop-body.invariant c.in_default.ensures.none
    c.in_err-header.ensures.none)

pub loop-body-preserved : goal.loop-body-preserved
loop-body-preserved c =
    more_read c.args.field c.args.text.now c.loop-body.rest.now c.loop-body.values c.loop-body.invariant
    (header_of c.in_ok-header.header) c.in_ok-header.behind.now c.with_header-values.result c.in_ok-header.ensures.found
    c.with_header-values.ensures

pub loop-body-smaller : goal.loop-body-smaller
loop-body-smaller c =
    shorter c.loop-body.rest.now (header_of c.in_ok-header.header) c.in_ok-header.behind.now c.in_ok-header.ensures.found
