-- Transports, hosts, URIs and Vias are the same exactly where they are equal. These are proofs, and
-- no definitions to read: they stand here because the laws of `==` cite them.
use Rattle.std.proofs.Common.{◌≡◌, Bool, true, false, ◌&&◌, Option, Some, None, refl, ap}
use Rattle.std.specs.Prelude.{nat_eq}
use Rattle.std.specs.Bool.{Decides, beq}
use Rattle.std.specs.Option.{option_eq}
use Rattle.std.specs.Cmp.{unsigned_Decides, booleans_Decides}
use Rattle.std.specs.Cmp.Lexicographic.{pointwise_decides, bytes_decides}
use Rattle.sip_uri.specs.declared.transport.Transport.{Transport}
use Rattle.sip_uri.specs.declared.transport.Transport.TheVariants.{Udp, Tcp, Sctp, Tls}
use Rattle.sip_uri.specs.declared.transport.Spoken.{Spoken}
use Rattle.sip_uri.specs.declared.transport.Spoken.TheVariants.{Known, Other}
use Rattle.sip_uri.specs.declared.host.Host.{Host}
use Rattle.sip_uri.specs.declared.host.Host.TheVariants.{V4, V6, Domain}
use Rattle.sip_uri.specs.declared.uri.SipUri.{SipUri}
use Rattle.sip_uri.specs.declared.via.Via.{Via}
use Rattle.sip_uri.specs.Same.{same_transport, same_spoken, same_host, same_uri, same_via}

transport_decides : (transport other : Transport)
    → Decides (same_transport transport other) (transport ≡ other)
transport_decides Udp Udp = (λ e. refl, λ e. refl)
transport_decides Udp Tcp = (λ e. absurd cc, λ e. absurd cc)
transport_decides Udp Sctp = (λ e. absurd cc, λ e. absurd cc)
transport_decides Udp Tls = (λ e. absurd cc, λ e. absurd cc)
transport_decides Tcp Udp = (λ e. absurd cc, λ e. absurd cc)
transport_decides Tcp Tcp = (λ e. refl, λ e. refl)
transport_decides Tcp Sctp = (λ e. absurd cc, λ e. absurd cc)
transport_decides Tcp Tls = (λ e. absurd cc, λ e. absurd cc)
transport_decides Sctp Udp = (λ e. absurd cc, λ e. absurd cc)
transport_decides Sctp Tcp = (λ e. absurd cc, λ e. absurd cc)
transport_decides Sctp Sctp = (λ e. refl, λ e. refl)
transport_decides Sctp Tls = (λ e. absurd cc, λ e. absurd cc)
transport_decides Tls Udp = (λ e. absurd cc, λ e. absurd cc)
transport_decides Tls Tcp = (λ e. absurd cc, λ e. absurd cc)
transport_decides Tls Sctp = (λ e. absurd cc, λ e. absurd cc)
transport_decides Tls Tls = (λ e. refl, λ e. refl)

pub spoken_decides : (spoken other : Spoken) → Decides (same_spoken spoken other) (spoken ≡ other)
spoken_decides (Known transport) (Known other) =
    let k = transport_decides transport other in (
      λ e. ap (λ (t : Transport). Known t) (k.0 e),
      λ e. k.1 cc,
    )
spoken_decides (Known transport) Other = (λ e. absurd cc, λ e. absurd cc)
spoken_decides Other (Known other) = (λ e. absurd cc, λ e. absurd cc)
spoken_decides Other Other = (λ e. refl, λ e. refl)

pub host_decides : (host other : Host) → Decides (same_host host other) (host ≡ other)
host_decides (V4 octets) (V4 others) = let k =
    bytes_decides octets others in (λ e. cc (k.0 e), λ e. k.1 cc)
host_decides (V4 octets) (V6 others) = (λ e. absurd cc, λ e. absurd cc)
host_decides (V4 octets) (Domain other) = (λ e. absurd cc, λ e. absurd cc)
host_decides (V6 octets) (V4 others) = (λ e. absurd cc, λ e. absurd cc)
host_decides (V6 octets) (V6 others) = let k =
    bytes_decides octets others in (λ e. cc (k.0 e), λ e. k.1 cc)
host_decides (V6 octets) (Domain other) = (λ e. absurd cc, λ e. absurd cc)
host_decides (Domain name) (V4 others) = (λ e. absurd cc, λ e. absurd cc)
host_decides (Domain name) (V6 others) = (λ e. absurd cc, λ e. absurd cc)
host_decides (Domain name) (Domain other) = let k =
    pointwise_decides bytes_decides name other in (λ e. cc (k.0 e), λ e. k.1 cc)

option_decides : {A : Type 0} (same : A → A → Bool) → ((a b : A) → Decides (same a b) (a ≡ b))
    → (one other : Option A) → Decides (option_eq same one other) (one ≡ other)
option_decides same decides None None = (λ e. refl, λ e. refl)
option_decides same decides None (Some b) = (λ e. absurd cc, λ e. absurd cc)
option_decides same decides (Some a) None = (λ e. absurd cc, λ e. absurd cc)
option_decides same decides (Some a) (Some b) = let k =
    decides a b in (λ e. cc (k.0 e), λ e. k.1 cc)

both : {A B : Type 0} (r s : Bool) → Decides r A → Decides s B → Decides (r && s) (A × B)
both true true one two = (λ e. (one.0 refl, two.0 refl), λ e. refl)
both true false one two = (λ e. absurd cc, λ e. two.1 e.1)
both false s one two = (λ e. absurd cc, λ e. one.1 e.0)

abbrev Parts : SipUri → SipUri → Type 0
Parts uri other =
    (((uri.secure ≡ other.secure × uri.host ≡ other.host) × uri.port ≡ other.port)
    × uri.transport ≡ other.transport) × uri.maddr ≡ other.maddr

parts_decided : (uri other : SipUri) → Decides (same_uri uri other) (Parts uri other)
parts_decided uri other =
    both (beq uri.secure other.secure && same_host uri.host other.host
    && option_eq nat_eq uri.port other.port
    && option_eq same_spoken uri.transport other.transport)
    (option_eq same_host uri.maddr other.maddr)
    (both (beq uri.secure other.secure && same_host uri.host other.host
    && option_eq nat_eq uri.port other.port) (option_eq same_spoken uri.transport other.transport)
    (both (beq uri.secure other.secure && same_host uri.host other.host)
    (option_eq nat_eq uri.port other.port)
    (both (beq uri.secure other.secure) (same_host uri.host other.host)
    (booleans_Decides uri.secure other.secure) (host_decides uri.host other.host))
    (option_decides nat_eq unsigned_Decides uri.port other.port))
    (option_decides same_spoken spoken_decides uri.transport other.transport))
    (option_decides same_host host_decides uri.maddr other.maddr)

pub uri_decides : (uri other : SipUri) → Decides (same_uri uri other) (uri ≡ other)
uri_decides uri other =
    let k = parts_decided uri other in (
      λ e. let p : Parts uri other =
          k.0 e in λ i. record {
            secure = p.0.0.0.0 i;
            host = p.0.0.0.1 i;
            port =
                p.0.0.1 i;
            transport = p.0.1 i;
            maddr = p.1 i;
          },
      λ e. k.1 (
        (
          (
            (ap (λ (u : SipUri). u.secure) e, ap (λ (u : SipUri). u.host) e),
            ap (λ (u : SipUri). u.port) e,
          ),
          ap (λ (u : SipUri). u.transport) e,
        ),
        ap
            (λ (u : SipUri). u.maddr) e,
      ),
    )

pub via_decides : (via other : Via) → Decides (same_via via other) (via ≡ other)
via_decides via other =
    let k = both (same_spoken via.transport other.transport && same_host via.host other.host)
    (option_eq nat_eq via.port other.port)
    (both (same_spoken via.transport other.transport) (same_host via.host other.host)
    (spoken_decides via.transport other.transport) (host_decides via.host other.host))
    (option_decides nat_eq unsigned_Decides via.port other.port) in (
      λ e. let p = k.0 e in λ i. record { transport = p.0.0 i; host = p.0.1 i; port = p.1 i },
      λ e. k.1 (
        (ap (λ (v : Via). v.transport) e, ap (λ (v : Via). v.host) e),
        ap (λ (v : Via). v.port) e,
      ),
    )
