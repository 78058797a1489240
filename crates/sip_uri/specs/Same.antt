-- Equality of transports, hosts, URIs and Vias: that of their parts.
pub mod Decided
use Rattle.std.specs.Prelude.{Bool, true, false, ◌&&◌, nat_eq}
use Rattle.std.specs.Bool.{beq}
use Rattle.std.specs.Cmp.Lexicographic.{pointwise}
use Rattle.std.specs.Option.{option_eq}
use Rattle.dns_name.specs.Labels.{same_name}
use Rattle.sip_uri.specs.declared.transport.Transport.{Transport}
use Rattle.sip_uri.specs.declared.transport.Transport.TheVariants.{Udp, Tcp, Sctp, Tls}
use Rattle.sip_uri.specs.declared.transport.Spoken.{Spoken}
use Rattle.sip_uri.specs.declared.transport.Spoken.TheVariants.{Known, Other}
use Rattle.sip_uri.specs.declared.host.Host.{Host}
use Rattle.sip_uri.specs.declared.host.Host.TheVariants.{V4, V6, Domain}
use Rattle.sip_uri.specs.declared.uri.SipUri.{SipUri}
use Rattle.sip_uri.specs.declared.via.Via.{Via}

-- two transports are the same
abbrev pub same_transport : Transport → Transport → Bool
same_transport Udp Udp = true
same_transport Tcp Tcp = true
same_transport Sctp Sctp = true
same_transport Tls Tls = true
same_transport transport other = false

-- the transports that two texts name are the same; all that are not known count as one
abbrev pub same_spoken : Spoken → Spoken → Bool
same_spoken (Known transport) (Known other) = same_transport transport other
same_spoken (Known transport) Other = false
same_spoken Other (Known other) = false
same_spoken Other Other = true

-- two hosts are the same: addresses of one kind with the same octets, or names with the same labels
abbrev pub same_host : Host → Host → Bool
same_host (V4 octets) (V4 others) = pointwise nat_eq octets others
same_host (V6 octets) (V6 others) = pointwise nat_eq octets others
same_host (Domain name) (Domain other) = same_name name other
same_host host other = false

-- two URIs are the same in each part, and in whether parts that may be left out are written
abbrev pub same_uri : SipUri → SipUri → Bool
same_uri uri other =
    beq uri.secure other.secure && same_host uri.host other.host
    && option_eq nat_eq uri.port other.port
    && option_eq same_spoken uri.transport other.transport
    && option_eq same_host uri.maddr other.maddr

-- two values of Via are the same: their transports, hosts and ports are
abbrev pub same_via : Via → Via → Bool
same_via via other =
    same_spoken via.transport other.transport && same_host via.host other.host
    && option_eq nat_eq via.port other.port
