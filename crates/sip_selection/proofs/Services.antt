-- The services that NAPTR records lead to, and those of a caller's own transports.
use Rattle.std.proofs.Common.{◌≡◌, Bool, true, false, if◌then◌else◌, List, [], ◌∷◌, filter, Option, Some, None, Ok, All, Contains, refl}
use Rattle.std.proofs.lemmas.List.Elements.{All-cons, All-contains_itself, All-nil, All-weaker}
use Rattle.std.proofs.lemmas.List.Folds.{list_any-from_Any}
use Rattle.dns_message.specs.declared.naptr.NaptrRecord.{NaptrRecord}
use Rattle.sip_uri.specs.declared.transport.Spoken.{Spoken}
use Rattle.sip_uri.specs.declared.transport.Spoken.TheVariants as spoken
use Rattle.sip_uri.specs.declared.transport.Transport.{Transport}
use Rattle.sip_uri.specs.declared.transport.Transport.TheVariants.{Udp, Tcp, Sctp, Tls}
use Rattle.sip_uri.specs.Same.{same_transport}
use Rattle.sip_selection.specs.Callers.{offers}
use Rattle.sip_selection.specs.Requests.{meant_by}
use Rattle.sip_selection.specs.Rules.{is_usable, usable_services}
use Rattle.sip_selection.specs.declared.service.Service.{Service}
use Rattle.sip_selection.proofs.Kept.{kept_usable}
use Rattle.sip_selection.specs.declared.caps.Caps.{Caps}

-- ---- transports

pub same_as_itself : (transport : Transport) → same_transport transport transport ≡ true
same_as_itself Udp = refl
same_as_itself Tcp = refl
same_as_itself Sctp = refl
same_as_itself Tls = refl

pub tls_alone : (transport : Transport) → same_transport transport Tls ≡ true → transport ≡ Tls
tls_alone Udp is = absurd cc
tls_alone Tcp is = absurd cc
tls_alone Sctp is = absurd cc
tls_alone Tls is = refl

-- a SIPS URI means TLS or nothing
pub secure_means_tls : (named : Option Spoken) (transport : Transport) → meant_by true named ≡ Ok transport → transport ≡ Tls
secure_means_tls None transport is = cc
secure_means_tls (Some (spoken.Known Udp)) transport is = absurd cc
secure_means_tls (Some (spoken.Known Tcp)) transport is = cc
secure_means_tls (Some (spoken.Known Sctp)) transport is = absurd cc
secure_means_tls (Some (spoken.Known Tls)) transport is = cc
secure_means_tls (Some spoken.Other) transport is = absurd cc

pub own_offered : (caps : Caps) → All (λ transport. offers caps transport ≡ true) caps.transports
own_offered caps =
    All-weaker (Contains caps.transports) (λ transport. offers caps transport ≡ true)
    (λ transport at. list_any-from_Any (λ offered. same_transport offered transport) caps.transports
    (at.0, transport, at.1, at.2, same_as_itself transport))
    caps.transports (All-contains_itself caps.transports)

-- ---- rules

pub filter-all : {X : Type 0} (P : X → Type 0) (test : X → Bool) → ((x : X) → test x ≡ true → P x) → (xs : List X) → All P (filter test xs)
filter-all P test each [] = All-nil P
filter-all P test each (x ∷ xs) = by (test x) refl (filter-all P test each xs)
  where
    by : (b : Bool) → test x ≡ b → All P (filter test xs) → All P (if b then x ∷ filter test xs else filter test xs)
    by true e rest = All-cons P x (filter test xs) (each x e) rest
    by false e rest = rest

module _ (secure : Bool) (caps : Caps) (T : Transport → Type 0)
    (each : (transport : Transport) → is_usable secure caps transport ≡ true → T transport) where
  pub usable_services-over : (rules : List NaptrRecord) → All (λ service. T service.transport) (usable_services secure caps rules)
  usable_services-over rules =
      All-weaker (λ (service : Service). is_usable secure caps service.transport ≡ true) (λ (service : Service). T service.transport)
      (λ service usable. each service.transport usable) (usable_services secure caps rules) (kept_usable secure caps rules)
