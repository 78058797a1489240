use Rattle.std.proofs.Common.{◌≡◌, ◌∙◌, ap, refl, sym}
use Rattle.sip_selection.specs.HeldWords.{held_words}
use Rattle.sip_selection.specs.Stages.{name_of}
use Rattle.sip_selection.proofs.Consulting.{extends-more, nobody-says}
use Rattle.sip_selection.proofs.Steps.{asked-is, asked-too, goes-on, left-needs, held-by, step-asks}
use Rattle.sip_selection.proofs.selection.Selection.take.Goals as goal

pub unreachable-requires : goal.unreachable-requires
unreachable-requires c =
    let s = c.self.inside in
    c.law_numeric_targets_ask_nothing.ensures.nothing s.request s.caps (held_words s.words) s.known
    (λ name is. c.in_default.not-Domain name (c.target.ensures ∙ is))
    c.requires.asked.0 (rw (← c.self.view_is) at c.requires.asked.1)

pub invariant_of-self : goal.invariant_of-self
invariant_of-self c = rw c.in_err-push.ensures.unchanged c.self.invariant

pub go_on-requires-clause-needs : goal.go_on-requires-clause-needs
go_on-requires-clause-needs c =
    let s = c.self.inside in
    let there = sym c.target.ensures ∙ c.in-Domain.is in
    let before = rw c.in-Ask.is at c.self.invariant.0 in
    let held = rw c.in-Ask.is at c.self.invariant.2 in
    rw (c.in_ok-push.ensures.pushed, c.as_ref.ensures, c.random_words-words.ensures, c.as_ref-2.ensures, ← (ap name_of there))
    (left-needs s.request s.caps (held_words s.words) s.known s.targets.items c.in-Ask.question c.in-Ask.stage before _
    (extends-more s.known _))

pub invariant_of-self-in-Ok : goal.invariant_of-self-in-Ok
invariant_of-self-in-Ok c =
    let s = c.self.inside in
    let there = sym c.target.ensures ∙ c.in-Domain.is in
    let before = rw c.in-Ask.is at c.self.invariant.0 in
    let held = rw c.in-Ask.is at c.self.invariant.2 in
    let known = nobody-says c.in-Ok.ensures.consulted ∙ rw c.as_ref.ensures at c.in_ok-push.ensures.pushed in
    rw known (
      goes-on s.request s.caps (held_words s.words) s.known s.targets.items c.in-Ask.question c.in-Ask.stage before _
          (extends-more s.known _) c.in-Ok.step _
          (rw (known, c.random_words-words.ensures, c.as_ref-2.ensures, ← (ap name_of there)) at c.in-Ok.ensures.goes),
      asked-too s.request s.caps (held_words s.words) s.known s.targets.items c.self.invariant.1 _
          (asked-is s.request s.caps (held_words s.words) s.known s.targets.items c.in-Ask.question c.in-Ask.stage before)
          c.requires.few,
      held-by c.in-Ok.step s.words held,
    )

pub invariant_of-self-in-Err : goal.invariant_of-self-in-Err
invariant_of-self-in-Err c =
    let refused = c.in-Err.ensures.unchanged in
    let back = c.pop.ensures c.self.inside.known _ (refused.1 ∙ c.in_ok-push.ensures.pushed) in
    rw (back, refused.0) c.self.invariant

pub returns-in-Ok-clause-taken : goal.returns-in-Ok-clause-taken
returns-in-Ok-clause-taken c = λ question is.
    let s = c.self.inside in
    let known = nobody-says c.in-Ok.ensures.consulted ∙ rw c.as_ref.ensures at c.in_ok-push.ensures.pushed in
    let asks = step-asks s.request s.caps (held_words s.words) s.known s.targets.items s.step question c.self.invariant.0
    (rw (← c.self.view_is) at is) in
    let same : question ≡ c.in-Ask.question = let both = sym asks.1 ∙ c.in-Ask.is in cc in
    rw (← c.self.view_is, known, same) refl
