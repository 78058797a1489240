-- The rounds of a server.
use Rattle.std.proofs.Common.{ℕ, List, Option, Some, None, Result, Ok, Err, false}
use Rattle.std.specs.Result.{is_ok}
use Rattle.dns_queries.specs.Wires.{Event, received, receipt, dispatch}
use Rattle.dns_zone.specs.Servers.{Round, fails, waits, leaves, loses, answers}

-- a round that sends nothing, whatever was received
pub no_reply : {Wire Peer E : Type 0} (does : Wire → Event Peer → Wire → Type 0) (replies : List ℕ → List ℕ → Type 0)
    (before after : Wire) (result : Result (Option (ℕ × Peer)) E) (buffer : List ℕ)
    → does before (receipt result buffer) after → Round does replies before after false
no_reply does replies before after (Err _) buffer did = fails did
no_reply does replies before after (Ok None) buffer did = waits did
no_reply does replies before after (Ok (Some (count, peer))) buffer did = leaves _ _ did

-- a round whose reply was sent, or failed
pub replied : {Wire Peer E : Type 0} (does : Wire → Event Peer → Wire → Type 0) (replies : List ℕ → List ℕ → Type 0)
    (before between after : Wire) (octets reply : List ℕ) (peer : Peer) (result : Result Unit E)
    → does before (received octets peer) between → replies octets reply → does between (dispatch result reply peer) after
    → Round does replies before after (is_ok result)
replied does replies before between after octets reply peer (Err _) came is went = loses between octets reply peer came is went
replied does replies before between after octets reply peer (Ok _) came is went = answers between octets reply peer came is went
