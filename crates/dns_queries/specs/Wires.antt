-- What a wire does.
use Rattle.std.specs.Prelude.{ℕ, ◌≤◌, List, take, Option, Some, None, Result, Ok, Err}

-- a datagram of this length, at most 4,096 octets, is in front of the buffer, and the wire may give
-- it
pub record IsGiven (gives : List ℕ → Type 0) (count : ℕ) (buffer : List ℕ) : Type 0 where
  pub fits : count ≤ 4096
  pub octets : gives (take count buffer)

-- what a call of a wire did
pub data Event (Peer : Type 0) : Type 0 where
  -- it failed
  fault : Event Peer
  -- it received nothing
  nothing : Event Peer
  -- it received this datagram from this peer
  received : List ℕ → Peer → Event Peer
  -- it sent this datagram to this peer
  sent : List ℕ → Peer → Event Peer

-- what a call did that receives a datagram
abbrev pub receipt : {Peer E : Type 0} → Result (Option (ℕ × Peer)) E → List ℕ → Event Peer
receipt (Err _) buffer = fault
receipt (Ok None) buffer = nothing
receipt (Ok (Some (count, peer))) buffer = received (take count buffer) peer

-- what a call did that receives a datagram on a wire to one peer
abbrev pub receipt_of_one : {E : Type 0} → Result (Option ℕ) E → List ℕ → Event (Unit {0})
receipt_of_one (Err _) buffer = fault
receipt_of_one (Ok None) buffer = nothing
receipt_of_one (Ok (Some count)) buffer = received (take count buffer) tt

-- what a call did that sends a datagram
abbrev pub dispatch : {Peer E : Type 0} → Result Unit E → List ℕ → Peer → Event Peer
dispatch (Err _) octets peer = fault
dispatch (Ok _) octets peer = sent octets peer
