-- What a handle has goes on, and what follows of it.
use Rattle.std.proofs.Common.{ℕ, List, Option, Some, None, Result, Ok, Err, OnOk}
use Rattle.sip_selection.specs.declared.caps.Caps.{Caps}
use Rattle.sip_selection.specs.declared.request.Request.{Request}
use Rattle.rolling_resolver.specs.Inside.{GainsOne}
use Rattle.rolling_resolver.specs.Rolling.{RollingView, TakesIn}
use Rattle.wokhleas.specs.Handles.{GoesBy}
use Rattle.wokhleas.specs.Numbers.{AreCapsOf}
use Rattle.wokhleas.specs.Requests.{IsRequest, IsSubmitted, IsTakenIn, IsUntil}

-- what a handle has goes on otherwise
goes-as : {P Q : RollingView → RollingView → Type 0} → ((old new : RollingView) → P old new → Q old new)
    → (old new : Option RollingView) → GoesBy P old new → GoesBy Q old new
goes-as f (Some old) (Some new) it = f old new it
goes-as f (Some old) None it = it
goes-as f None new it = it

-- it goes on as two things say
goes-both : {P Q R : RollingView → RollingView → Type 0} → ((old new : RollingView) → P old new → Q old new → R old new)
    → (old new : Option RollingView) → GoesBy P old new → GoesBy Q old new → GoesBy R old new
goes-both f (Some old) (Some new) it more = f old new it more
goes-both f (Some old) None it more = it
goes-both f None new it more = it

-- the request that octets spell is taken in
pub taken-by : {X E : Type 0} (number : ℕ) (octets : List ℕ) (request : Request) (caps : Caps) (until : Option ℕ)
    → IsRequest octets request → (it : Result X E) (old new : Option RollingView)
    → OnOk it (GoesBy (λ (before after : RollingView). TakesIn number request caps until after) old new)
    → OnOk it (GoesBy (GainsOne number request caps until) old new)
    → OnOk it (GoesBy (IsTakenIn number octets caps until) old new)
taken-by number octets request caps until spelled (Ok x) old new it more =
    goes-both (λ (before after : RollingView) taken gains. record {
      request = request;
      spelled = spelled;
      taken_in = taken;
      gains = gains;
    }) old new it more
taken-by number octets request caps until spelled (Err e) old new it more = it

-- the same, where numbers stand for what its caller can do, and for the moment by which it ends
pub submitted-by : {X E : Type 0} (number : ℕ) (octets transports : List ℕ) (families milliseconds : ℕ) (caps : Caps)
    (until : Option ℕ) → AreCapsOf transports families caps → IsUntil milliseconds until
    → (it : Result X E) (old new : Option RollingView) → OnOk it (GoesBy (IsTakenIn number octets caps until) old new)
    → OnOk it (GoesBy (IsSubmitted number octets transports families milliseconds) old new)
submitted-by number octets transports families milliseconds caps until can ends (Ok x) old new it =
    goes-as (λ (before after : RollingView) taken. record { caps = caps; until = until; can = can; ends = ends; taken_in = taken })
    old new it
submitted-by number octets transports families milliseconds caps until can ends (Err e) old new it = it
