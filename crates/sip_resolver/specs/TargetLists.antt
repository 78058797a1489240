-- The targets of a request, and whose certificate their servers show.
use Rattle.std.specs.Prelude.{List}
use Rattle.sip_selection.specs.declared.target.Target.{Target}
use Rattle.sip_uri.specs.declared.host.Host.{Host}

-- The targets of a request, and the host that the certificate of a server over TLS has to be of:
-- the one that was asked for, never the target of an SRV record (RFC 3263 4.1, RFC 3261 26.3.1).
pub record TargetListView : Type 0 where
  pub targets : List Target
  pub certificate_host : Host
