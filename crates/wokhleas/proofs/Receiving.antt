-- Octets that came in, and whether they were a reply.
use Rattle.std.proofs.Common.{◌≡◌, ◌≢◌, List, Some, ℕ, refl, ap, Result, Ok, Err}
use Rattle.std.specs.Result.{OnErr, OnOk}
use Rattle.dns_queries.specs.declared.incoming.Why.{Why}
use Rattle.sip_resolver.specs.declared.resolver.ReplyOutcome.{ReplyOutcome}
use Rattle.sip_resolver.specs.declared.resolver.ReplyOutcome.TheVariants.{Ignored}
use Rattle.sip_resolver.specs.declared.transmit.DnsTransport.{DnsTransport}
use Rattle.rolling_resolver.specs.Rolling.{Receives, RollingView}
use Rattle.wokhleas.specs.Numbers.{number_of_over}
use Rattle.wokhleas.specs.Wires.{IsReceived}

-- octets that were not ignored are received
pub received-as : {E : Type 0} (over : DnsTransport) (octets : List ℕ) (now : ℕ) (heard : ReplyOutcome) (result : Result (Unit {0}) E)
    (old new : RollingView) → OnOk result ((why : Why) → heard ≢ Ignored why) → Receives over octets now heard old new
    → OnOk result (IsReceived (number_of_over over) octets now old new)
received-as over octets now heard (Ok x) old new reply receives =
    record { over = over; numbered = refl; heard = heard; ends = reply; receives = receives }
received-as over octets now heard (Err e) old new reply receives = tt

-- octets that were ignored leave all as it was
pub ignored-same : {E : Type 0} (heard : ReplyOutcome) (result : Result (Unit {0}) E) (old new : RollingView)
    → OnErr result ((why : Why) × (heard ≡ Ignored why)) → ((why : Why) → heard ≡ Ignored why → new ≡ old)
    → OnErr result (Some new ≡ Some old)
ignored-same heard (Ok x) old new ignored leaves = tt
ignored-same heard (Err e) old new ignored leaves = ap (λ (s : RollingView). Some s) (leaves ignored.0 ignored.1)
