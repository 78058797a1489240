use Rattle.std.proofs.Common.{◌≡◌, ◌≢◌, rules}
use Rattle.dns_queries.proofs.Out.{search-hit, search-on, search-over}
use Rattle.dns_queries.proofs.tickets.Tickets.id_of.Goals as goal

pub returns-then-eq : goal.returns-then-eq
returns-then-eq c =
    let is : c.in-Some.ticket.now.question ≡ c.args.question.now =
    let its = c.question.ensures in let same = c.law_same_questions_are_equal.ensures in let told = c.eq.ensures in let yes = c.if-eq.true
    in
    search rules in
    let at = rw c.in-Some.ensures.steps at c.loop-ticket.invariant in
    rw (c.id.ensures)
    (search-hit c.args.self.now.schedule c.args.question.now c.args.self.now.list _ c.next.new.self at is
    (rw (← c.self.view_is) c.self.invariant.asking))

pub loop-ticket-preserved : goal.loop-ticket-preserved
loop-ticket-preserved c =
    let other : c.in-Some.ticket.now.question ≢ c.args.question.now =
    let its = c.question.ensures in let same = c.law_same_questions_are_equal.ensures in let told = c.eq.ensures in let no = c.if-eq.false
    in
    search rules in
    let at = rw c.in-Some.ensures.steps at c.loop-ticket.invariant in
    search-on c.args.question.now c.args.self.now.list.entries _ c.next.new.self at other

pub returns : goal.returns
returns c =
    let at = rw c.in-None.ensures.steps.0 at c.loop-ticket.invariant in
    search-over c.args.self.now.schedule c.args.question.now c.args.self.now.list at
