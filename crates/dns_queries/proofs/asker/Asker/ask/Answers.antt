use Rattle.std.proofs.Common.{◌+◌, refl, ap}
use Rattle.std.proofs.lemmas.List.{length-map}
use Rattle.dns_queries.proofs.Listing.{asked-is, free, refused-is}
use Rattle.dns_queries.specs.Listed.{asking_of, ticket_in}
use Rattle.dns_queries.proofs.asker.Asker.ask.Goals as goal

pub returns-in-Ok : goal.returns-in-Ok
returns-in-Ok c =
    let it = c.in-Ok.ensures.opens in
    let schedule = c.self.inside.tickets.schedule in
    let list = c.self.inside.tickets.list in
    rw (← c.self.view_is, c.open.ensures.schedule) (
      (
        refl,
        (λ _. tt),
        (
          c.octets_at.ensures _ it.1,
          asked-is schedule list c.open.new.self.list c.in-Ok.at _ (c.args.now + schedule.wait) it.0,
          free list c.args.id it.2,
          (rw (length-map list.entries ticket_in) it.3),
          it.4,
        ),
      ),
      record { asks = tt },
    )

pub returns-in-Err : goal.returns-in-Err
returns-in-Err c =
    let it = c.in-Err.ensures.opens in
    let schedule = c.self.inside.tickets.schedule in
    rw (← c.self.view_is, c.open.ensures.schedule) (
      (
        refl,
        (λ _. tt),
        (ap (asking_of schedule) it.0, refused-is schedule c.self.inside.tickets.list c.args.id c.in-Err.refusal it.1),
      ),
      record { asks = tt },
    )
