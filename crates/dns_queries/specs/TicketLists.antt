-- How an asker keeps its tickets. No public clause cites this module.
use Rattle.std.specs.Prelude.{Option}
use Rattle.pending_list.specs.Pending.{Pending}
use Rattle.dns_queries.specs.Tickets.{Sent}
use Rattle.dns_queries.specs.declared.schedule.Schedule.{Schedule}

-- the tickets in their list, the last one that was given up, and the schedule
pub record TicketList : Type 0 where
  pub list : Pending Sent
  pub given_up : Option Sent
  pub schedule : Schedule
