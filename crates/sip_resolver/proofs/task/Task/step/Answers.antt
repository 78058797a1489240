use Rattle.std.proofs.Common.{sym, ap, ◌∙◌}
use Rattle.sip_selection.specs.Requests.{target_of}
use Rattle.sip_resolver.proofs.Going.{on-next, same-request}
use Rattle.sip_resolver.specs.Outcomes.{Sought}
use Rattle.sip_resolver.proofs.task.Task.step.Goals.{in-Ok, in-Err}
use Rattle.sip_resolver.proofs.task.Task.step.Goals as goal

pub returns-clause-request : goal.returns-clause-request
returns-clause-request g c =
    let old = c.self.inside.locator.value in
    let new = c.step.follows.lender-at-none in
    elim c.match-step.branch [
      | in-Ok w ↦
          let steps = rw (c.deref_mut-locator.ensures.value, w.in-Ok.is) at c.step.follows.holds-at-none in
          rw (w.self-inside-is, ← c.self.view_is)
          (same-request c.self.inside.submitted.value.number c.self.inside.cut c.self.inside.submitted.value.until _ _ _ old new steps.gains)
      | in-Err w ↦
          let steps = rw (c.deref_mut-locator.ensures.value, w.in-Err.is) at c.step.follows.holds-at-none in
          rw (w.self-inside-is, ← c.self.view_is)
          (same-request c.self.inside.submitted.value.number c.self.inside.cut c.self.inside.submitted.value.until _ _ _ old new steps.gains)
    ]

pub returns-clause-progresses : goal.returns-clause-progresses
returns-clause-progresses g c =
    let old = c.self.inside.locator.value in
    let new = c.step.follows.lender-at-none in
    let before = g.B.AnswerBook.shown c.args.seat.now in
    let after = g.B.AnswerBook.shown c.step.new.seat in
    elim c.match-step.branch [
      | in-Ok w ↦
          let steps = rw (c.deref_mut-locator.ensures.value, w.in-Ok.is) at c.step.follows.holds-at-none in
          let asks = rw w.deref.ensures at w.target.ensures in
          let host = asks ∙ sym (ap (λ (s : Sought). target_of s.request) c.self.invariant) in
          rw (w.result-is, w.self-inside-is, ← c.self.view_is)
          (on-next _ _ before after _ c.requires.shown c.step.ensures.goes_on c.step.ensures.stores_nothing c.self.inside.submitted.value.number
          c.self.inside.cut c.self.inside.submitted.value.until old new _ _ w.progress_of.result steps host w.progress_of.ensures)
      | in-Err w ↦ rw w.result-is (λ counted. tt)
    ]

pub invariant_of-self : goal.invariant_of-self
invariant_of-self g c =
    let old = c.self.inside.locator.value in
    let new = c.step.follows.lender-at-none in
    elim c.match-step.branch [
      | in-Ok w ↦
          let steps = rw (c.deref_mut-locator.ensures.value, w.in-Ok.is) at c.step.follows.holds-at-none in
          rw w.self-inside-is
          (same-request c.self.inside.submitted.value.number c.self.inside.cut c.self.inside.submitted.value.until _ _ _ old new
          steps.gains ∙ c.self.invariant)
      | in-Err w ↦
          let steps = rw (c.deref_mut-locator.ensures.value, w.in-Err.is) at c.step.follows.holds-at-none in
          rw w.self-inside-is
          (same-request c.self.inside.submitted.value.number c.self.inside.cut c.self.inside.submitted.value.until _ _ _ old new
          steps.gains ∙ c.self.invariant)
    ]
