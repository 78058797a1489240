use Rattle.std.proofs.Common.{◌∙◌, ap, refl, sym}
use Rattle.sip_selection.specs.HeldWords.{held_words}
use Rattle.sip_selection.specs.Consulting.{nothing}
use Rattle.sip_selection.specs.Stages.{name_of}
use Rattle.sip_selection.proofs.Consulting.{consulted-asked}
use Rattle.sip_selection.proofs.Steps.{goes-on, left-needs, held-by, step-asks}
use Rattle.sip_selection.proofs.Reaching.{extends-itself}
use Rattle.sip_selection.proofs.selection.Selection.consult.Goals as goal

pub returns-then-not-is_asking-clause-consulted : goal.returns-then-not-is_asking-clause-consulted
returns-then-not-is_asking-clause-consulted g c = (refl, nothing c.requires)

pub returns-then-not-is_asking-clause-goes_on : goal.returns-then-not-is_asking-clause-goes_on
returns-then-not-is_asking-clause-goes_on g c = (c.args.self.now.given, nothing c.requires)

pub unreachable-requires : goal.unreachable-requires
unreachable-requires g c =
    let s = c.self.inside in
    let asked = c.if-not-is_asking.ensures.0 refl in
    c.law_numeric_targets_ask_nothing.ensures.nothing s.request s.caps (held_words s.words) s.known
    (λ name is. c.in_default.not-Domain name (c.target.ensures ∙ is))
    asked.0 (rw (← c.self.view_is) at asked.1)

pub go_on-requires-clause-needs : goal.go_on-requires-clause-needs
go_on-requires-clause-needs g c =
    let s = c.self.inside in
    let there = sym c.target.ensures ∙ c.in-Domain.is in
    let before = rw c.in-Ask.is at c.self.invariant.0 in
    let held = rw c.in-Ask.is at c.self.invariant.2 in
    rw (c.random_words-words.ensures, c.as_ref.ensures, ← (ap name_of there))
    (left-needs s.request s.caps (held_words s.words) s.known s.targets.items c.in-Ask.field-0 c.in-Ask.stage before _
    (extends-itself s.known))

pub invariant_of-self : goal.invariant_of-self
invariant_of-self g c =
    let refused = c.in_err-self-inside.ensures.unchanged in
    rw (refused.0, refused.1) c.self.invariant

pub invariant_of-self-2 : goal.invariant_of-self-2
invariant_of-self-2 g c =
    let s = c.self.inside in
    let there = sym c.target.ensures ∙ c.in-Domain.is in
    let before = rw c.in-Ask.is at c.self.invariant.0 in
    let held = rw c.in-Ask.is at c.self.invariant.2 in
    let ok = c.in_ok-self-inside in
    let consulted = rw c.random_words-words.ensures at ok.ensures.consulted in (
      goes-on s.request s.caps (held_words s.words) s.known s.targets.items c.in-Ask.field-0 c.in-Ask.stage before _
          ok.ensures.extends ok.field-0 _
          (rw (c.random_words-words.ensures, c.as_ref.ensures, ← (ap name_of there)) at ok.ensures.goes),
      consulted-asked consulted c.self.invariant.1,
      held-by ok.field-0 s.words held,
    )

pub returns-clause-lacks : goal.returns-clause-lacks
returns-clause-lacks g c = λ question is.
    let s = c.self.inside in
    let there = sym c.target.ensures ∙ c.in-Domain.is in
    let before = rw c.in-Ask.is at c.self.invariant.0 in
    let held = rw c.in-Ask.is at c.self.invariant.2 in
    let ok = c.in_ok-self-inside in
    let stands = goes-on s.request s.caps (held_words s.words) s.known s.targets.items c.in-Ask.field-0 c.in-Ask.stage before
    c.go_on.new.known ok.ensures.extends ok.field-0 c.go_on.new.targets.items
    (rw (c.random_words-words.ensures, c.as_ref.ensures, ← (ap name_of there)) at ok.ensures.goes) in
    let asks = step-asks s.request s.caps (held_words s.words) c.go_on.new.known c.go_on.new.targets.items ok.field-0 question stands is in
    rw asks.1 at ok.ensures.lacks
