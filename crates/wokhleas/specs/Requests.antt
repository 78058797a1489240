-- Requests that C hands in.
use Rattle.std.specs.Prelude.{◌≡◌, ◌≢◌, ◌⊎◌, ℕ, ◌-◌, ◌/◌, ◌≤◌, ◌^◌, List, Option, Some, None, IsSomeAnd}
use Rattle.sip_resolver.specs.declared.refusal.SubmitRefusal.{SubmitRefusal}
use Rattle.sip_resolver.specs.declared.refusal.SubmitRefusal.TheVariants as refusals
use Rattle.sip_selection.specs.declared.caps.Caps.{Caps}
use Rattle.sip_selection.specs.declared.request.Request.{Request}
use Rattle.sip_selection.specs.declared.request.Request.TheVariants.{Uri, Via}
use Rattle.sip_uri.specs.Uris.{UriText}
use Rattle.sip_uri.specs.Vias.{ViaText}
use Rattle.sip_uri.specs.declared.via.Via as vias
use Rattle.rolling_resolver.specs.Inside.{GainsOne, LosesNumber, RefusesRequest}
use Rattle.rolling_resolver.specs.Instants.{IsRoundedUp}
use Rattle.rolling_resolver.specs.Rolling.{HasRequest, RollingView, SameSeats, TakesIn}
use Rattle.wokhleas.specs.Numbers.{AreCapsOf, CannotBe}
use Rattle.wokhleas.specs.declared.status.Status.{Status}
use Rattle.wokhleas.specs.declared.status.Status.TheVariants.{Argument, Closed, Full, Memory, Syntax, Taken}

-- octets are a URI, or the value of a Via (RFC 3261 25.1)
abbrev pub IsRequest : List ℕ → Request → Type 0
IsRequest octets (Uri uri) = UriText octets uri
IsRequest octets (Via via) = ViaText octets via

-- the moment by which a request ends, in seconds, that this millisecond stands for: none for the
-- greatest number of 64 bits
abbrev pub IsUntil : ℕ → Option ℕ → Type 0
IsUntil milliseconds None = milliseconds ≡ 2 ^ 64 - 1
IsUntil milliseconds (Some second) =
    (milliseconds ≢ 2 ^ 64 - 1) × IsRoundedUp milliseconds second

-- a request that octets spell is taken in under a number, with what its caller can do, and the
-- moment by which it ends; all others stay inside
pub record IsTakenIn (number : ℕ) (octets : List ℕ) (caps : Caps) (until : Option ℕ)
    (old new : RollingView) : Type 0 where
  pub request : Request
  pub spelled : IsRequest octets request
  pub taken_in : TakesIn number request caps until new
  pub gains : GainsOne number request caps until old new

-- the same, by the numbers of its caller's transports and families, and a millisecond
pub record IsSubmitted (number : ℕ) (octets transports : List ℕ) (families milliseconds : ℕ)
    (old new : RollingView) : Type 0 where
  pub caps : Caps
  pub until : Option ℕ
  pub can : AreCapsOf transports families caps
  pub ends : IsUntil milliseconds until
  pub taken_in : IsTakenIn number octets caps until old new

-- what C is told of a request that is not taken in
abbrev pub status_of : SubmitRefusal → Status
status_of refusals.Full = Full
status_of refusals.NumberTaken = Taken
status_of refusals.Memory = Memory

-- why a request of a number is not taken in, by what a handle has afterwards: that is closed, or
-- refuses it
abbrev pub WhyNotTaken : ℕ → Option RollingView → Status → Type 0
WhyNotTaken number after status =
    ((status ≡ Closed) × (after ≡ None))
    ⊎ ((refusal : SubmitRefusal) × (status ≡ status_of refusal)
    × IsSomeAnd after (λ it. RefusesRequest it number refusal))

-- octets are the value of a Via
abbrev pub IsVia : List ℕ → Type 0
IsVia octets = (via : vias.Via) × ViaText octets via

-- why the response to the Via of a text is not taken in: the text is no Via, or for that
abbrev pub WhyNoVia : ℕ → List ℕ → Option RollingView → Status → Type 0
WhyNoVia number octets after status =
    ((status ≡ Syntax) × (IsVia octets → ⊥)) ⊎ (IsVia octets × WhyNotTaken number after status)

-- no caller has the transports and the families of these numbers, or a moment by which a request
-- ends is 2^48 seconds or more
abbrev pub IsOutOfRange : List ℕ → ℕ → ℕ → Type 0
IsOutOfRange transports families milliseconds =
    CannotBe transports families
    ⊎ ((milliseconds ≢ 2 ^ 64 - 1) × (2 ^ 48 ≤ milliseconds / 1000))

-- numbers stand for what a caller can do, and for the moment by which a request ends
abbrev pub IsInRange : List ℕ → ℕ → ℕ → Type 0
IsInRange transports families milliseconds =
    ((caps : Caps) × AreCapsOf transports families caps)
    × ((until : Option ℕ) × IsUntil milliseconds until)

-- octets are a URI, or the value of a Via
abbrev pub IsRequestText : List ℕ → Type 0
IsRequestText octets = (request : Request) × IsRequest octets request

-- why the request of a text is not taken in, in the order of the checks: an argument is out of its
-- range, the text is neither a URI nor a Via, or for what `WhyNotTaken` says
abbrev pub WhyNotSubmitted : ℕ → List ℕ → List ℕ → ℕ → ℕ → Option RollingView → Status → Type 0
WhyNotSubmitted number octets transports families milliseconds after status =
    ((status ≡ Argument) × IsOutOfRange transports families milliseconds)
    ⊎ ((status ≡ Syntax) × IsInRange transports families milliseconds
    × (IsRequestText octets → ⊥))
    ⊎ (IsInRange transports families milliseconds × IsRequestText octets
    × WhyNotTaken number after status)

-- the request of this number, which was inside, is cancelled: none of the number is inside any
-- more, all others are, and the seats are as they were
pub record Cancels (number : ℕ) (old new : RollingView) : Type 0 where
  pub was : HasRequest number old
  pub gone : HasRequest number new → ⊥
  pub kept : LosesNumber number old new
  pub seats : SameSeats old new
