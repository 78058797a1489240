use Rattle.std.proofs.Common.{◌≡◌, ℕ, ◌+◌, ap, sym, subst, ◌∙◌}
use Rattle.std.specs.List.{Contains, sum_by}
use Rattle.sip_resolver.proofs.Keeping.{out-of-all}
use Rattle.sip_resolver.proofs.Abandoned.{questions-not}
use Rattle.sip_resolver.proofs.Cancelling.{without-awaits, without-lacks, without-none, without-stands}
use Rattle.sip_resolver.specs.Cancels.{others_by, questions_left, requests_with, requests_without}
use Rattle.sip_resolver.specs.Requests.{RequestsView, number_of_ended, numbers_of, weight}
use Rattle.sip_resolver.proofs.resolver.Resolver.cancel.Goals as goal

-- the others are left, of those that do not wait
abbrev rest : ℕ → RequestsView → RequestsView
rest number it = record it {
  ready = others_by (λ task. task.number) number it.ready;
  held = others_by (λ task. task.number) number it.held;
  ended = others_by number_of_ended number it.ended;
}

pub returns-then-not-has-clause-requests : goal.returns-then-not-has-clause-requests
returns-then-not-has-clause-requests g c =
    let none : Contains (numbers_of c.self.inside.requests) c.args.number → ⊥ =
    λ there. let yes = c.has.ensures.1 there in let no = c.if-not-has.true in cc in
    rw (← c.self.view_is) (sym (without-none c.args.number c.self.inside.requests none))

pub returns-then-not-has-clause-questions : goal.returns-then-not-has-clause-questions
returns-then-not-has-clause-questions g c = questions-not c.args.self.now.questions c.args.self.now.requests.waiting

pub returns-clause-gone : goal.returns-clause-gone
returns-clause-gone g c =
    let left : c.remove_not_waiting.new.requests ≡ requests_without c.args.number c.self.inside.requests =
    c.remove_not_waiting.ensures ∙ ap (rest c.args.number) c.remove_waiting.ensures.requests in
    rw left (without-lacks c.args.number c.self.inside.requests)

pub returns-clause-stand : goal.returns-clause-stand
returns-clause-stand g c =
    let left : c.remove_not_waiting.new.requests ≡ requests_without c.args.number c.self.inside.requests =
    c.remove_not_waiting.ensures ∙ ap (rest c.args.number) c.remove_waiting.ensures.requests in
    rw (← c.self.view_is)
    (λ seat it.
    rw left (without-stands c.args.number c.self.inside.requests g.F.Facts.gives g.F.Facts.shows seat it))

pub returns-clause-awaited : goal.returns-clause-awaited
returns-clause-awaited g c =
    let left : c.remove_not_waiting.new.requests ≡ requests_without c.args.number c.self.inside.requests =
    c.remove_not_waiting.ensures ∙ ap (rest c.args.number) c.remove_waiting.ensures.requests in
    let questions : c.remove_waiting.new.questions
    ≡ questions_left c.self.inside.requests.waiting (requests_without c.args.number c.self.inside.requests).waiting
    c.self.inside.questions =
    c.remove_waiting.ensures.questions
    ∙ ap (λ (v : RequestsView). questions_left c.self.inside.requests.waiting v.waiting c.self.inside.questions)
    c.remove_waiting.ensures.requests in
    rw (← c.self.view_is)
    (λ it. rw (left, questions) (without-awaits c.args.number c.self.inside.requests c.self.inside.questions it))

pub returns-then-not-has-clause-kept : goal.returns-then-not-has-clause-kept
returns-then-not-has-clause-kept g c =
    let none : Contains (numbers_of c.self.inside.requests) c.args.number → ⊥ =
    λ there. let yes = c.has.ensures.1 there in let no = c.if-not-has.true in cc in
    rw (← c.self.view_is)
    (λ h.
    let Weighs : RequestsView → Type 0 =
    λ left. weight h c.self.inside.requests ≡ weight h left + sum_by h (requests_with c.args.number c.self.inside.requests) in
    subst Weighs (without-none c.args.number c.self.inside.requests none) (out-of-all h c.args.number c.self.inside.requests))

pub returns-clause-kept : goal.returns-clause-kept
returns-clause-kept g c =
    let left : c.remove_not_waiting.new.requests ≡ requests_without c.args.number c.self.inside.requests =
    c.remove_not_waiting.ensures ∙ ap (rest c.args.number) c.remove_waiting.ensures.requests in
    rw (← c.self.view_is) (λ h. rw left (out-of-all h c.args.number c.self.inside.requests))
