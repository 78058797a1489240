use Rattle.std.proofs.Common.{◌≡◌, true, ap, sym, ◌∙◌}
use Rattle.sip_resolver.proofs.Abandoned.{questions-back, questions-shared}
use Rattle.sip_resolver.proofs.Expiring.{unanswered-is}
use Rattle.sip_resolver.proofs.Inside.{ended-too, waiting-too}
use Rattle.sip_resolver.specs.Cancels.{is_awaited}
use Rattle.sip_resolver.specs.Requests.{RequestsView}
use Rattle.sip_resolver.proofs.expiries.turn_waiting.Goals as goal

pub returns-then-not-is_expired-clause-stand : goal.returns-then-not-is_expired-clause-stand
returns-then-not-is_expired-clause-stand g c =
    rw (← c.waiting.view_is) (λ seat counted lacks stand. rw c.wait.ensures (waiting-too _ _ seat _ _ stand counted lacks))

pub returns-then-not-is_expired-clause-questions : goal.returns-then-not-is_expired-clause-questions
returns-then-not-is_expired-clause-questions g c =
    rw (c.wait.ensures, c.waiting.view_is) (questions-back c.args.questions.now c.args.waiting c.args.requests.now.waiting)

pub returns-then-not-is_awaited-clause-stand : goal.returns-then-not-is_awaited-clause-stand
returns-then-not-is_awaited-clause-stand g c = rw (← c.waiting.view_is) (λ seat counted lacks stand.
    rw c.end.ensures
    (ended-too _ _ seat _ _ stand
    (unanswered-is _ _ seat c.waiting.inside.task c.unanswered-outcome.result c.unanswered-outcome.ensures counted lacks)))

pub returns-else-not-is_awaited-clause-stand : goal.returns-else-not-is_awaited-clause-stand
returns-else-not-is_awaited-clause-stand g c = rw (← c.waiting.view_is) (λ seat counted lacks stand.
    rw c.end.ensures
    (ended-too _ _ seat _ _ stand
    (unanswered-is _ _ seat c.waiting.inside.task c.unanswered-outcome.result c.unanswered-outcome.ensures counted lacks)))

pub returns-else-not-is_awaited-clause-questions : goal.returns-else-not-is_awaited-clause-questions
returns-else-not-is_awaited-clause-questions g c =
    let waiting : c.end.new.self.waiting ≡ c.args.requests.now.waiting = ap (λ (v : RequestsView). v.waiting) c.end.ensures in
    let shared : is_awaited c.args.requests.now.waiting c.args.waiting.id ≡ true =
    rw (← c.waiting.view_is, ← waiting) (sym c.is_awaited.ensures ∙ c.if-not-is_awaited.false) in
    rw waiting (questions-shared c.args.questions.now c.args.waiting c.args.requests.now.waiting shared)
