use Rattle.std.proofs.Common.{List, subst}
use Rattle.answer_log.specs.Logs.{In}
use Rattle.answer_log.specs.declared.event.Event.{Event}
use Rattle.answer_log.specs.declared.event.Event.TheVariants.{Named, Placed}
use Rattle.answer_log.proofs.Logs.{in-left}
use Rattle.answer_log.proofs.log.law_placed_is_named.Goals as goal

pub returns : goal.returns
returns c node store other link placed named =
    let it = c.learn.ensures in
    let P : List Event → Type 0 = λ events. In (Placed node store placed.0) events in
    let N : List Event → Type 0 = λ events. In (Named node other link.key) events in
    let mine = rw c.again-probe.ensures at it.2 in
    let there = subst P mine.1 (in-left (Placed node store placed.0) c.args.seen.now.log mine.0 placed.1) in
    let here = subst N it.3.1 (in-left (Named node other link.key) c.args.named.now.log it.3.0 named.named) in
    (it.4.1.unique node store other placed.0 link.key (it.4.1.twins node store placed.0 there) here).0
