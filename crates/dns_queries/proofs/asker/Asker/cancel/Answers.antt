use Rattle.std.proofs.Common.{◌≡◌, ap, subst, ◌∙◌}
use Rattle.dns_queries.proofs.Listing.{free}
use Rattle.dns_queries.proofs.Out.{closed-none, id-is, question-is}
use Rattle.dns_queries.specs.Events.{closed}
use Rattle.dns_queries.specs.Listed.{asking_of}
use Rattle.dns_queries.specs.Tickets.{Asking}
use Rattle.dns_queries.proofs.asker.Asker.cancel.Goals as goal

pub returns-in-Some-clause-given : goal.returns-in-Some-clause-given
returns-in-Some-clause-given c =
    let found = c.in-Some.ensures in
    let ended = c.close-question.ensures found.entry found.there in
    rw (← c.self.view_is)
    (question-is c.self.inside.tickets.schedule c.self.inside.tickets.list c.args.id found.entry c.close-question.result.1
    found.first ended.1)

pub returns-in-Some-clause-left : goal.returns-in-Some-clause-left
returns-in-Some-clause-left c =
    let found = c.in-Some.ensures in
    let ended = c.close-question.ensures found.entry found.there in
    subst (λ (old : Asking). asking_of c.close-question.new.self.schedule c.close-question.new.self.list ≡ closed c.args.id old)
    c.self.view_is
    (ended.2
    ∙ ap (λ id. closed id (asking_of c.self.inside.tickets.schedule c.self.inside.tickets.list))
    (id-is c.self.inside.tickets.list c.args.id found.entry found.first))

pub returns-in-None-clause-given : goal.returns-in-None-clause-given
returns-in-None-clause-given c = rw (← c.self.view_is) (free c.self.inside.tickets.list c.args.id c.in-None.ensures)

pub returns-in-None-clause-left : goal.returns-in-None-clause-left
returns-in-None-clause-left c =
    rw (← c.self.view_is)
    (closed-none c.args.id (asking_of c.self.inside.tickets.schedule c.self.inside.tickets.list)
    (free c.self.inside.tickets.list c.args.id c.in-None.ensures))
