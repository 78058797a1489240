-- What a wire in memory to a server of a zone gives.
use Rattle.std.specs.Prelude.{ℕ, List}
use Rattle.dns_zone.specs.Servers.{RepliesTo}
use Rattle.dns_zone.specs.Zones.{Owned}

-- octets are what a zone replies to octets that were sent
pub record IsReply (reply : List ℕ) : Type 0 where
  pub zone : List Owned
  pub sent : List ℕ
  pub replies : RepliesTo zone sent reply
