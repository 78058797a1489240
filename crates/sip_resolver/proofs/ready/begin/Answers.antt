use Rattle.std.proofs.Common.{false, refl}
use Rattle.sip_selection.specs.Choice.{refused, targets}
use Rattle.sip_resolver.proofs.Beginning.{begun-asks, begun-ended}
use Rattle.sip_resolver.proofs.Going.{same-request}
use Rattle.sip_resolver.specs.declared.outcome.Outcome.TheVariants.{Refused, Targets}
use Rattle.sip_resolver.proofs.ready.begin.Goals as goal

pub wait-requires : goal.wait-requires
wait-requires g c =
    let it = rw (c.random_words-words.ensures, c.deref-it.ensures, c.in-Ok-Missing.field-0-is) at c.in-Ok-Missing.ensures.located in
    rw it.2.0 (same-request c.args.submitted.value.number false c.args.submitted.value.until _ _ _ _ it.0 it.1.gains)

pub returns-in-Ok-Targets-clause-leads : goal.returns-in-Ok-Targets-clause-leads
returns-in-Ok-Targets-clause-leads g c =
    let before = g.B.AnswerBook.shown c.args.seat.now in
    let after = g.B.AnswerBook.shown c.locate.new.seat in
    let it = rw (c.random_words-words.ensures, c.deref-it.ensures, c.in-Ok-Targets.field-0-is) at c.in-Ok-Targets.ensures.located in
    begun-ended _ _ before after _ c.requires.shown c.locate.ensures.goes_on c.locate.ensures.stores_nothing c.args.submitted.value it.0
    (Targets c.new.result) (targets c.in-Ok-Targets.targets.items) it.1
    (rw c.new.ensures refl, rw c.new.ensures (rw c.into_inner.ensures at c.host_of-host.ensures))

pub returns-in-Ok-Refused-clause-leads : goal.returns-in-Ok-Refused-clause-leads
returns-in-Ok-Refused-clause-leads g c =
    let before = g.B.AnswerBook.shown c.args.seat.now in
    let after = g.B.AnswerBook.shown c.locate.new.seat in
    let it = rw (c.random_words-words.ensures, c.deref-it.ensures, c.in-Ok-Refused.field-0-is) at c.in-Ok-Refused.ensures.located in
    begun-ended _ _ before after _ c.requires.shown c.locate.ensures.goes_on c.locate.ensures.stores_nothing c.args.submitted.value it.0
    (Refused c.in-Ok-Refused.reason) (refused c.in-Ok-Refused.reason) it.1 refl

pub returns-in-Ok-Missing-clause-leads : goal.returns-in-Ok-Missing-clause-leads
returns-in-Ok-Missing-clause-leads g c =
    let before = g.B.AnswerBook.shown c.args.seat.now in
    let after = g.B.AnswerBook.shown c.locate.new.seat in
    let it = rw (c.random_words-words.ensures, c.deref-it.ensures, c.in-Ok-Missing.field-0-is) at c.in-Ok-Missing.ensures.located in
    begun-asks _ _ before after _ c.requires.shown c.locate.ensures.goes_on c.locate.ensures.stores_nothing c.args.submitted.value it.0
    c.wait.result c.in-Ok-Missing.locator it.1 it.2.0 it.2.1 c.wait.ensures
