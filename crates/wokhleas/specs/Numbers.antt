-- The numbers that stand for choices in C.
use Rattle.std.specs.Prelude.{◌≡◌, ℕ, List, false, map}
use Rattle.sip_selection.specs.Callers.{AreOffered}
use Rattle.sip_selection.specs.declared.caps.Caps.{Caps}
use Rattle.sip_selection.specs.declared.caps.Families.{Families}
use Rattle.sip_selection.specs.declared.caps.Families.TheVariants.{V4, V6, V4ThenV6, V6ThenV4}
use Rattle.sip_resolver.specs.declared.transmit.DnsTransport.{DnsTransport}
use Rattle.sip_resolver.specs.declared.transmit.DnsTransport.TheVariants.{Datagram, Stream}
use Rattle.sip_uri.specs.declared.transport.Transport.{Transport}
use Rattle.sip_uri.specs.declared.transport.Transport.TheVariants.{Udp, Tcp, Tls, Sctp}

-- the number of a transport
abbrev pub number_of : Transport → ℕ
number_of Udp = 1
number_of Tcp = 2
number_of Tls = 3
number_of Sctp = 4

-- the number of families of addresses
abbrev pub number_of_families : Families → ℕ
number_of_families V4 = 1
number_of_families V6 = 2
number_of_families V4ThenV6 = 3
number_of_families V6ThenV4 = 4

-- What a caller can do that has the transports of these numbers, in their order, and the families
-- of this one: for a request of any size, and with ties by chance.
pub record AreCapsOf (transports : List ℕ) (families : ℕ) (caps : Caps) : Type 0 where
  pub transports_are : map number_of caps.transports ≡ transports
  pub families_are : number_of_families caps.families ≡ families
  pub any_size : caps.is_large ≡ false
  pub by_chance : caps.is_fixed ≡ false

-- no caller can have the transports of these numbers, in their order, and the families of this one
abbrev pub CannotBe : List ℕ → ℕ → Type 0
CannotBe numbers families =
    (transports : List Transport) (it : Families) → map number_of transports ≡ numbers
    → AreOffered transports → number_of_families it ≡ families → ⊥

-- the number of what a message goes over
abbrev pub number_of_over : DnsTransport → ℕ
number_of_over Datagram = 1
number_of_over Stream = 2
