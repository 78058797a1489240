-- What a driver of a resolver does on a wire: what it sends is what the resolver gives, and what it
-- receives it hands to the resolver. The wire goes from one state to another by what its calls do.
-- No public clause cites this module.
use Rattle.std.specs.Prelude.{◌≡◌, ◌⊎◌, ℕ, ◌+◌, ◌-◌, ◌^◌, ◌<◌, ◌≤◌, Bool, true, false, List, Option, Some, None}
use Rattle.dns_queries.specs.Wires.{Event, fault, nothing, received, sent}
use Rattle.answer_cache.specs.Seats.{SeatView}
use Rattle.sip_resolver.specs.Resolvers.{Hears, Polls, ResolverView}
use Rattle.sip_resolver.specs.declared.resolver.ReplyOutcome.{ReplyOutcome}
use Rattle.sip_resolver.specs.declared.transmit.DnsTransport.TheVariants.{Datagram}
use Rattle.sip_resolver.specs.declared.transmit.Transmit.{Transmit}

-- ---- one call of the wire

-- a wire fails, or it can't count its faults any more and is left as it is
abbrev pub Fails : {Wire : Type 0} → (Wire → ℕ) → (Wire → Event (Unit {0}) → Wire → Type 0)
    → Wire → Wire → Type 0
Fails failed does before after =
    does before fault after ⊎ ((2 ^ 64 - 1 ≤ failed before) × (after ≡ before))

-- these octets are sent, unless the wire fails
abbrev pub Sends : {Wire : Type 0} → (Wire → ℕ) → (Wire → Event (Unit {0}) → Wire → Type 0)
    → List ℕ → Wire → Wire → Type 0
Sends failed does octets before after =
    does before (sent octets tt) after ⊎ Fails failed does before after

-- nothing is received, or the wire fails
abbrev pub HearsNothing : {Wire : Type 0} → (Wire → ℕ)
    → (Wire → Event (Unit {0}) → Wire → Type 0) → Wire → Wire → Type 0
HearsNothing failed does before after =
    does before nothing after ⊎ Fails failed does before after

-- ---- queries go out

-- what a resolver gives to send, at a moment that the clock showed; what is sent for the first time
-- is asked at the next second
pub record Gives (gives : List ℕ → Type 0) (shows : ℕ → Type 0) {I : Type 0}
    (draws : I → ℕ → I → Type 0) (old new : ResolverView) (result : Option Transmit)
    : Type 0 where
  pub seat : SeatView
  pub now : ℕ
  pub asked : ℕ
  pub shown : shows now
  pub next : now + 1 < 2 ^ 48 → asked ≡ now + 1
  pub polls : Polls gives shows draws seat now asked old new result

-- The octets that the resolver gives are sent; or it gives none, and nothing is done on the wire.
abbrev pub SendsNext : {Wire : Type 0} → (Wire → ℕ) → (Wire → Event (Unit {0}) → Wire → Type 0)
    → (ResolverView → ResolverView → Option Transmit → Type 0)
    → Wire → Wire → ResolverView → ResolverView → Bool → Type 0
SendsNext failed does given before after old new true =
    (transmit : Transmit) × given old new (Some transmit)
    × Sends failed does transmit.octets.now before after
SendsNext failed does given before after old new false =
    given old new None × (after ≡ before)

-- octets that the resolver gives are sent, this number of times in turn
pub data SendsMany {Wire : Type 0} (failed : Wire → ℕ)
    (does : Wire → Event (Unit {0}) → Wire → Type 0)
    (given : ResolverView → ResolverView → Option Transmit → Type 0)
    (first : Wire) (old : ResolverView) : ℕ → Wire → ResolverView → Type 0 where
  begun : SendsMany failed does given first old 0 first old
  further : {count : ℕ} {before after : Wire} {middle new : ResolverView}
      → SendsMany failed does given first old count before middle
      → SendsNext failed does given before after middle new true
      → SendsMany failed does given first old (count + 1) after new

-- all that there is to send is sent, or as much as this number allows
pub data SendsAll {Wire : Type 0} (limit : ℕ) (failed : Wire → ℕ)
    (does : Wire → Event (Unit {0}) → Wire → Type 0)
    (given : ResolverView → ResolverView → Option Transmit → Type 0)
    (before after : Wire) (old new : ResolverView) : Type 0 where
  all : {count : ℕ} {between : Wire} {middle : ResolverView}
      → SendsMany failed does given before old count between middle
      → SendsNext failed does given between after middle new false
      → SendsAll limit failed does given before after old new
  enough : SendsMany failed does given before old limit after new
      → SendsAll limit failed does given before after old new

-- ---- replies come in

-- what the wire received is handed to the resolver
pub record HandsOn {Wire : Type 0} (does : Wire → Event (Unit {0}) → Wire → Type 0)
    (before after : Wire) (old new : ResolverView) : Type 0 where
  pub octets : List ℕ
  pub came : does before (received octets tt) after
  pub heard : ReplyOutcome
  pub hears : Hears old new Datagram octets heard

-- what the wire received is lost, and the resolver is as it was
pub record Loses {Wire : Type 0} (does : Wire → Event (Unit {0}) → Wire → Type 0)
    (before after : Wire) (old new : ResolverView) : Type 0 where
  pub octets : List ℕ
  pub came : does before (received octets tt) after
  pub same : new ≡ old

-- what came is handed on; where nothing came, the resolver is as it was
abbrev pub HearsOne : {Wire : Type 0} → (Wire → ℕ) → (Wire → Event (Unit {0}) → Wire → Type 0)
    → Wire → Wire → ResolverView → ResolverView → Type 0
HearsOne failed does before after old new =
    HandsOn does before after old new
    ⊎ (HearsNothing failed does before after × (new ≡ old))
