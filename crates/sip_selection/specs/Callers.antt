-- What the caller can do: its transports, in order of preference, its families of addresses,
-- whether its request is too large for UDP, and whether records that tie come in one fixed order.
use Rattle.std.specs.Prelude.{◌≡◌, ℕ, ◌+◌, ◌<◌, ◌≤◌, Bool, true, false, not, ◌&&◌, IsTrue, List, [], ◌∷◌, ◌++◌, filter, length, map, take, Option, Some, None}
use Rattle.std.specs.List.{list_any, filter_map}
use Rattle.dns_message.specs.declared.kind.Kind.{Kind}
use Rattle.dns_message.specs.declared.kind.Kind.TheVariants as kind
use Rattle.sip_uri.specs.Same.{same_transport}
use Rattle.sip_uri.specs.declared.transport.Transport.{Transport}
use Rattle.sip_uri.specs.declared.transport.Transport.TheVariants.{Udp, Tcp, Sctp, Tls}
use Rattle.sip_selection.specs.declared.caps.Families.{Families}
use Rattle.sip_selection.specs.declared.caps.Families.TheVariants.{V4, V6, V4ThenV6, V6ThenV4}

-- no two of these transports are the same
abbrev pub are_distinct : List Transport → Bool
are_distinct [] = true
are_distinct (first ∷ others) =
    not (list_any (λ other. same_transport other first) others) && are_distinct others

-- a caller has 1 to 4 transports, none of them twice
pub record AreOffered (transports : List Transport) : Type 0 where
  pub some : 0 < length transports
  pub few : length transports ≤ 4
  pub distinct : IsTrue (are_distinct transports)

-- what a caller can do: its transports, in order of preference, and its families of addresses;
-- whether its request is too large for UDP; and whether records that tie come in one fixed order
pub record CapsValue : Type 0 where
  pub transports : List Transport
  pub families : Families
  pub is_large : Bool
  pub is_fixed : Bool

-- four slots, the first of which hold these transports
abbrev pub slots_of : List Transport → List (Option Transport)
slots_of transports = take 4 (map Some transports ++ None ∷ None ∷ None ∷ None ∷ [])

-- the transports that slots hold
abbrev pub held_in : List (Option Transport) → List Transport
held_in slots = filter_map (λ slot. slot) slots

-- the slots of the transports that a caller may have, with the empty ones last
pub record AreSlots (slots : List (Option Transport)) : Type 0 where
  pub offered : AreOffered (held_in slots)
  pub packed : slots_of (held_in slots) ≡ slots

-- whether a slot holds this transport
abbrev pub holds : Option Transport → Transport → Bool
holds None transport = false
holds (Some offered) transport = same_transport offered transport

-- a transport is among the caller's
abbrev pub offers : CapsValue → Transport → Bool
offers caps transport = list_any (λ offered. same_transport offered transport) caps.transports

-- ---- large requests (RFC 3261 18.1.1)

-- a request of so many octets is too large for UDP: it is within 200 octets of the path's MTU, or
-- larger than 1,300 octets where that is not known
abbrev pub IsTooLarge : ℕ → Option ℕ → Type 0
IsTooLarge octets (Some mtu) = mtu ≤ octets + 200
IsTooLarge octets None = 1300 < octets

-- transports without UDP
abbrev pub without_udp : List Transport → List Transport
without_udp transports = filter (λ transport. not (same_transport transport Udp)) transports

-- the transport of a request that means this one: TCP in place of UDP, where it is too large for
-- UDP
abbrev pub sized : Bool → Transport → Transport
sized false transport = transport
sized true Udp = Tcp
sized true Tcp = Tcp
sized true Sctp = Sctp
sized true Tls = Tls

-- the kinds of question for addresses, in the order in which they are asked
abbrev pub kinds_of : Families → List Kind
kinds_of V4 = kind.A ∷ []
kinds_of V6 = kind.Aaaa ∷ []
kinds_of V4ThenV6 = kind.A ∷ kind.Aaaa ∷ []
kinds_of V6ThenV4 = kind.Aaaa ∷ kind.A ∷ []
