use Rattle.std.proofs.Common.{◌≤◌, rules}
use Rattle.sip_resolver.proofs.Deadlines.{in-wait, none-in-wait, overdue}
use Rattle.sip_resolver.proofs.waits.is_overdue.Goals as goal

pub returns-in-Some-clause-over : goal.returns-in-Some-clause-over
returns-in-Some-clause-over c = λ is.
    let small : c.in-Some.due ≤ c.get.result = search (rules, is) in
    overdue c.args.asker.now c.args.now c.in-Some.due (rw c.in-Some.is at c.next_due.ensures.first) (rw c.get.ensures.seconds at small)

pub returns-in-Some-clause-in_wait : goal.returns-in-Some-clause-in_wait
returns-in-Some-clause-in_wait c = λ is.
    in-wait c.args.asker.now.tickets c.args.now c.in-Some.due (rw c.in-Some.is at c.next_due.ensures.least)
    (λ over. let small : c.in-Some.due ≤ c.get.result = rw c.get.ensures.seconds over in search (rules, is, small))

pub returns-in-None-clause-in_wait : goal.returns-in-None-clause-in_wait
returns-in-None-clause-in_wait c = λ is. none-in-wait c.args.asker.now.tickets c.args.now (rw c.in-None.is at c.next_due.ensures.first)
