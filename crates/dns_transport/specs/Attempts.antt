-- When a query of the caller is sent once more, and when it is given up.
use Rattle.std.specs.Prelude.{⊤, ℕ, ◌+◌, ◌-◌, ◌^◌, Option, Some, None, min}
use Rattle.dns_queries.specs.declared.message_wire.Received.{Received}
use Rattle.dns_queries.specs.declared.message_wire.Received.TheVariants.{Message, Closed, TimedOut}

-- The millisecond at which the time of a query is over that went to a server at one, where each
-- send is waited for so long. A clock of 64 bits stops at the last one.
abbrev pub late_from : ℕ → ℕ → ℕ
late_from asked_at time = min (asked_at + time) (2 ^ 64 - 1)

-- it is told that no reply came in time
abbrev pub TellsTimeout : Option Received → Type 0
TellsTimeout None = ⊥
TellsTimeout (Some (Message octets)) = ⊥
TellsTimeout (Some (Closed id)) = ⊥
TellsTimeout (Some (TimedOut id)) = ⊤
