-- How a ticket is kept. No public clause cites this module.
use Rattle.std.specs.Prelude.{◌≡◌}
use Rattle.dns_queries.specs.Events.{sent_octets}
use Rattle.dns_queries.specs.declared.ticket.Ticket.TheInside.{Inside}

-- its octets are those of its question
abbrev pub HasItsOctets : Inside → Type 0
HasItsOctets it = it.octets.items ≡ sent_octets it.id it.question
