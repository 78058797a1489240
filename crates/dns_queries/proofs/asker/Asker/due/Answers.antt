use Rattle.std.proofs.Common.{Some, refl, subst, sym}
use Rattle.dns_queries.proofs.Dues.{due-is, none-is}
use Rattle.dns_queries.specs.Events.{Dues}
use Rattle.dns_queries.specs.Listed.{asking_of}
use Rattle.dns_queries.specs.Tickets.{Asking}
use Rattle.dns_queries.specs.declared.schedule.Schedule.{Schedule}
use Rattle.dns_queries.proofs.asker.Asker.due.Goals as goal

pub returns-in-None : goal.returns-in-None
returns-in-None c =
    rw (← c.self.view_is, c.take_overdue.ensures.schedule) (
      (
        refl,
        (λ _. tt),
        none-is c.self.inside.tickets.schedule c.self.inside.tickets.list c.take_overdue.new.self c.args.now c.in-None.ensures.overdue,
      ),
      record { dues = tt },
    )

pub returns-in-Some : goal.returns-in-Some
returns-in-Some c =
    let list = c.take_overdue.new.self.list in
    let kept : Dues c.args.self.now (asking_of c.self.inside.tickets.schedule list) c.args.now (Some c.due_of.result) =
    subst (λ (old : Asking). Dues old (asking_of c.self.inside.tickets.schedule list) c.args.now (Some c.due_of.result)) c.self.view_is
    (due-is c.self.inside.tickets.schedule c.self.inside.tickets.list c.take_overdue.new.self c.args.now c.in-Some.overdue
    c.due_of.result c.in-Some.ensures.overdue c.due_of.ensures) in
    let dues : Dues c.args.self.now (asking_of c.take_overdue.new.self.schedule list) c.args.now (Some c.due_of.result) =
    subst (λ (schedule : Schedule). Dues c.args.self.now (asking_of schedule list) c.args.now (Some c.due_of.result))
    (sym c.take_overdue.ensures.schedule) kept in
    ((refl, (λ _. tt), dues), record { dues = tt })
