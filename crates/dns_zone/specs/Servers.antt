-- What a server does on a wire.
use Rattle.std.specs.Prelude.{ℕ, ◌+◌, Bool, true, false, List}
use Rattle.dns_queries.specs.Wires.{Event, fault, nothing, received, sent}
use Rattle.dns_message.specs.declared.message.Message.{Message}
use Rattle.dns_zone.specs.Zones.{Owned}
use Rattle.dns_zone.specs.Replies.{IsQuery, Replies}

-- octets are the zone's reply to the query in front of other octets
abbrev pub RepliesTo : List Owned → List ℕ → List ℕ → Type 0
RepliesTo zone octets reply = (query : Message) × IsQuery octets query × Replies zone query reply

-- A round of a server, and whether it sent a reply. The wire goes from one state to another by what
-- its calls do. A reply follows the datagram that it is a reply to, and goes to the peer that sent
-- that datagram (RFC 2181 4.2).
pub data Round {Wire Peer : Type 0} (does : Wire → Event Peer → Wire → Type 0)
    (replies : List ℕ → List ℕ → Type 0) (before after : Wire) : Bool → Type 0 where
  fails : does before fault after → Round does replies before after false
  waits : does before nothing after → Round does replies before after false
  leaves : (octets : List ℕ) (peer : Peer) → does before (received octets peer) after
      → Round does replies before after false
  loses : (between : Wire) (octets reply : List ℕ) (peer : Peer)
      → does before (received octets peer) between
      → replies octets reply → does between fault after → Round does replies before after false
  answers : (between : Wire) (octets reply : List ℕ) (peer : Peer)
      → does before (received octets peer) between
      → replies octets reply → does between (sent reply peer) after
      → Round does replies before after true

-- a run of rounds, and how many of them sent a reply
pub data Serves {Wire Peer : Type 0} (does : Wire → Event Peer → Wire → Type 0)
    (replies : List ℕ → List ℕ → Type 0) (first : Wire) : ℕ → Wire → Type 0 where
  begun : Serves does replies first 0 first
  without : {count : ℕ} {before after : Wire} → Serves does replies first count before
      → Round does replies before after false → Serves does replies first count after
  with_one : {count : ℕ} {before after : Wire} → Serves does replies first count before
      → Round does replies before after true → Serves does replies first (count + 1) after
