-- Views: URIs, Vias and hosts as they stand in a text, and what they mean.
use Rattle.std.specs.Prelude.{ℕ, List, map, IfSome, ⊤}
use Rattle.std.specs.Option.{option_map}
use Rattle.dns_name.specs.Labels.{small_letters}
use Rattle.dns_name.specs.Texts.{without_closing_dot}
use Rattle.ip_text.specs.Parts.{parted}
use Rattle.sip_uri.specs.Hosts.{DomainText}
use Rattle.sip_uri.specs.declared.host.Host.{Host}
use Rattle.sip_uri.specs.declared.host.Host.TheVariants.{V4, V6, Domain}
use Rattle.sip_uri.specs.declared.host_part.HostPart.{HostPart}
use Rattle.sip_uri.specs.declared.host_part.HostPart.TheVariants as part
use Rattle.sip_uri.specs.declared.uri.SipUri.{SipUri}
use Rattle.sip_uri.specs.declared.uri_parts.UriParts.{UriParts}
use Rattle.sip_uri.specs.declared.via.Via.{Via}
use Rattle.sip_uri.specs.declared.via_parts.ViaParts.{ViaParts}

-- the name that a hostname spells: its labels in small letters
abbrev pub name_of : List ℕ → List (List ℕ)
name_of text = map small_letters (parted 46 (without_closing_dot text))

-- the host that a view means
abbrev pub host_of : HostPart → Host
host_of (part.V4 address) = V4 address.octets
host_of (part.V6 address) = V6 address.octets
host_of (part.Domain text) = Domain (name_of text.now)

-- a view is one of a host: where it is a text, that is a hostname
abbrev pub IsHostView : HostPart → Type 0
IsHostView (part.V4 address) = ⊤
IsHostView (part.V6 address) = ⊤
IsHostView (part.Domain text) = DomainText text.now (name_of text.now)

-- the URI that a view means
abbrev pub uri_of : UriParts → SipUri
uri_of parts = record {
  secure = parts.secure;
  host = host_of parts.host;
  port = parts.port;
  transport = parts.transport;
  maddr = option_map host_of parts.maddr;
}

-- a view is one of a URI: its hosts are views of hosts
pub record IsUriView (parts : UriParts) : Type 0 where
  pub host : IsHostView parts.host
  pub maddr : IfSome parts.maddr IsHostView

-- the Via that a view means
abbrev pub via_of : ViaParts → Via
via_of parts = record { transport = parts.transport; host = host_of parts.host; port = parts.port }
