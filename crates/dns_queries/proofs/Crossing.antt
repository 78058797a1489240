-- That an asker may go to another thread. The steps are those of its fields, since one search through all of them ends at
-- its bounds.
use denote.Param.Send.{IsSend, sendable}
use Rattle.std.proofs.Crossing.{crosses}
use Rattle.std.proofs.MapsCrossing as maps
use Rattle.pending_list.proofs.Crosses.{PendingList-send}
use Rattle.dns_name.specs.contracts.name.Name as Name
use Rattle.dns_queries.specs.contracts.asker.Asker as Asker
use Rattle.dns_queries.specs.contracts.id_table.IdTable as IdTable
use Rattle.dns_queries.specs.contracts.ticket.Ticket as Ticket

name_send : IsSend Name.the_row
name_send = search (sendable, crosses) depth 100 fits 100000

ticket_send : IsSend Ticket.the_row
ticket_send = search (sendable, crosses, name_send) depth 100 fits 100000

table_send : IsSend IdTable.the_row
table_send = search (sendable, crosses, maps.crosses) depth 100 fits 100000

pub asker_send : IsSend Asker.the_row
asker_send = search (sendable, crosses, ticket_send, table_send, PendingList-send) depth 100 fits 100000
