-- What a wire of datagrams does over a wire of whole messages.
use Rattle.std.specs.Prelude.{◌⊎◌, ◌<◌, ℕ, List, length}
use Rattle.dns_queries.specs.MessageWires as messages
use Rattle.dns_queries.specs.Wires as datagrams

-- What the wire below did at a call. A query that is sent is sent there, and what is given came
-- there as a message. Nothing is given only where nothing came, or that no server takes a query, or
-- that no reply to one came in time, or a message of more than 4,096 octets. No call fails.
abbrev pub Carries : {Wire : Type 0} → (Wire → messages.Event → Wire → Type 0)
    → Wire → datagrams.Event (Unit {0}) → Wire → Type 0
Carries does old datagrams.fault new = ⊥
Carries does old (datagrams.sent octets peer) new = does old (messages.sent octets) new
Carries does old (datagrams.received octets peer) new = does old (messages.received octets) new
Carries does old datagrams.nothing new =
    does old messages.nothing new
    ⊎ ((id : ℕ) × does old (messages.closed id) new)
    ⊎ ((id : ℕ) × does old (messages.timed_out id) new)
    ⊎ ((octets : List ℕ) × (4096 < length octets) × does old (messages.received octets) new)
