-- What the calls of a wire that gives whole messages do.
use Rattle.std.specs.Prelude.{ℕ, ⊤, List}
use Rattle.dns_queries.specs.declared.message_wire.Received.{Received}
use Rattle.dns_queries.specs.declared.message_wire.Received.TheVariants.{Message, Closed, TimedOut}

-- what a call of a wire did
pub data Event : Type 0 where
  -- it took these octets to send
  sent : List ℕ → Event
  -- it let the query of this id go
  left : ℕ → Event
  -- it gave this message
  received : List ℕ → Event
  -- it told that no server takes the query of this id
  closed : ℕ → Event
  -- it told that no reply to the query of this id came in time
  timed_out : ℕ → Event
  -- it gave nothing
  nothing : Event

-- what a wire did that gave this
abbrev pub receipt_of : Received → Event
receipt_of (Message octets) = received octets.items
receipt_of (Closed id) = closed id
receipt_of (TimedOut id) = timed_out id

-- what holds of the octets of a message that a wire gave
abbrev pub IfMessage : Received → (List ℕ → Type 0) → Type 0
IfMessage (Message octets) holds = holds octets.items
IfMessage (Closed id) holds = ⊤
IfMessage (TimedOut id) holds = ⊤
