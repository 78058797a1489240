-- URIs that are put together of a view while their names are not written yet.
use Rattle.std.specs.Prelude.{Option, []}
use Rattle.sip_uri.specs.declared.host.Host.{Host}
use Rattle.sip_uri.specs.declared.host.Host.TheVariants.{V4, V6, Domain}
use Rattle.sip_uri.specs.declared.host_part.HostPart.{HostPart}
use Rattle.sip_uri.specs.declared.host_part.HostPart.TheVariants as part
use Rattle.sip_uri.specs.declared.uri.SipUri.{SipUri}
use Rattle.sip_uri.specs.declared.uri_parts.UriParts.{UriParts}

-- the host of a view, where a name is that of the root
abbrev pub blank_of : HostPart → Host
blank_of (part.V4 address) = V4 address.octets
blank_of (part.V6 address) = V6 address.octets
blank_of (part.Domain text) = Domain []

-- the URI of a view, with these hosts
abbrev pub uri_with : UriParts → Host → Option Host → SipUri
uri_with parts host maddr = record {
  secure = parts.secure;
  host = host;
  port = parts.port;
  transport = parts.transport;
  maddr = maddr;
}
