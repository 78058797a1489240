-- What the calls of a flow do.
use Rattle.std.specs.Prelude.{ℕ, List, Result, Ok, Err}
use Rattle.sip_ping.specs.declared.flow.Fault.{Fault}
use Rattle.sip_ping.specs.declared.flow.Received.{Received}
use Rattle.sip_ping.specs.declared.flow.Received.TheVariants.{Octets, Nothing, Failed}

-- what a call of a flow did; times are in milliseconds since the flow began to open
pub data Event : Type 0 where
  -- its clock showed this time
  looked : ℕ → Event
  -- these octets were handed to the system to send
  sent : List ℕ → Event
  -- it waited for so many milliseconds at most, and these octets came
  came : ℕ → List ℕ → Event
  -- it waited for so many milliseconds at most, and nothing came
  nothing : ℕ → Event
  -- it failed
  failed : Fault → Event

-- what a call did that sends octets
abbrev pub dispatch : Result Unit Fault → List ℕ → Event
dispatch (Ok _) octets = sent octets
dispatch (Err fault) octets = failed fault

-- what a call did that receives, and waits for so many milliseconds at most
abbrev pub receipt : ℕ → Received → Event
receipt most (Octets octets) = came most octets.items
receipt most Nothing = nothing most
receipt most (Failed fault) = failed fault
