-- Why a call is refused.
use Rattle.std.proofs.Common.{◌≡◌, ◌⊎◌, ◌/◌, ◌≤◌, ◌^◌, inl, inr, arith, ℕ, List, Option, Some, Result, Ok, Err, IfErr, OnErr, subst}
use Rattle.dns_queries.specs.declared.incoming.Why.{Why}
use Rattle.sip_resolver.specs.declared.resolver.ReplyOutcome.{ReplyOutcome}
use Rattle.sip_resolver.specs.declared.resolver.ReplyOutcome.TheVariants.{Ignored}
use Rattle.sip_resolver.specs.declared.transmit.DnsTransport.{DnsTransport}
use Rattle.sip_selection.specs.declared.request.Request.{Request}
use Rattle.sip_selection.specs.declared.request.Request.TheVariants.{Uri, Via}
use Rattle.sip_uri.specs.Uris.{UriText}
use Rattle.sip_uri.specs.declared.uri.SipUri.{SipUri}
use Rattle.rolling_resolver.specs.Rolling.{Receives, RollingView}
use Rattle.wokhleas.specs.Requests.{IsInRange, IsRequestText, IsVia, WhyNoVia, WhyNotSubmitted, WhyNotTaken}
use Rattle.wokhleas.specs.Wires.{IsMoment, WhyNotHeard}
use Rattle.wokhleas.specs.declared.status.Status.{Status}
use Rattle.wokhleas.specs.declared.status.Status.TheVariants.{Nothing}

-- a response to a Via is not taken in
pub via-refused : {X : Type 0} (number : ℕ) (octets : List ℕ) (after : Option RollingView) (it : Result X Status)
    → IsVia octets → IfErr it (WhyNotTaken number after) → IfErr it (WhyNoVia number octets after)
via-refused number octets after (Ok x) via why = tt
via-refused number octets after (Err status) via why = inr (via, why)

-- a request to a URI is not taken in
pub uri-refused : {X : Type 0} (number : ℕ) (octets transports : List ℕ) (families milliseconds : ℕ)
    (after : Option RollingView) (it : Result X Status) → IsInRange transports families milliseconds
    → (uri : SipUri) → UriText octets uri → IfErr it (WhyNotTaken number after)
    → IfErr it (WhyNotSubmitted number octets transports families milliseconds after)
uri-refused number octets transports families milliseconds after (Ok x) range uri spelled why = tt
uri-refused number octets transports families milliseconds after (Err status) range uri spelled why =
    inr (inr (range, (Uri uri, spelled), why))

-- octets that are no URI are the value of a Via, or no request
no-request : (octets : List ℕ) → ((uri : SipUri) → UriText octets uri → ⊥) → (IsVia octets → ⊥) → IsRequestText octets → ⊥
no-request octets no-uri no-via (Uri uri, spelled) = no-uri uri spelled
no-request octets no-uri no-via (Via via, spelled) = no-via (via, spelled)

-- the request of octets that are no URI is not taken in
pub neither-submitted : {X : Type 0} (number : ℕ) (octets transports : List ℕ) (families milliseconds : ℕ)
    (after : Option RollingView) (it : Result X Status) → IsInRange transports families milliseconds
    → ((uri : SipUri) → UriText octets uri → ⊥) → IfErr it (WhyNoVia number octets after)
    → IfErr it (WhyNotSubmitted number octets transports families milliseconds after)
neither-submitted number octets transports families milliseconds after (Ok x) range no-uri why = tt
neither-submitted number octets transports families milliseconds after (Err status) range no-uri (inl (syntax, no-via)) =
    inr (inl (syntax, range, no-request octets no-uri no-via))
neither-submitted number octets transports families milliseconds after (Err status) range no-uri (inr (via, why)) =
    inr (inr (range, (Via via.0, via.1), why))

-- octets were ignored
pub ignored-by : {X : Type 0} (over : DnsTransport) (octets : List ℕ) (now : ℕ) (heard : ReplyOutcome) (it : Result X Status)
    (old new : RollingView) → OnErr it ((why : Why) × (heard ≡ Ignored why)) → IfErr it (λ status. status ≡ Nothing)
    → Receives over octets now heard old new → ((why : Why) → heard ≡ Ignored why → new ≡ old)
    → IfErr it (WhyNotHeard over octets now (Some old))
ignored-by over octets now heard (Ok x) old new ignored told receives leaves = tt
ignored-by over octets now heard (Err status) old new ignored told receives leaves =
    let by : Receives over octets now (Ignored ignored.0) old new =
    subst (λ (h : ReplyOutcome). Receives over octets now h old new) ignored.1 receives in
    let same : Receives over octets now (Ignored ignored.0) old old =
    subst (λ (after : RollingView). Receives over octets now (Ignored ignored.0) old after) (leaves ignored.0 ignored.1) by in
    inl (inr (told, record { why = ignored.0; ignores = same }))

-- 2^48 seconds or more are no moment
pub late-by : (milliseconds : ℕ) → 2 ^ 48 ≤ milliseconds / 1000 → IsMoment milliseconds → ⊥
late-by milliseconds late it = absurd omega (arith, late, it)

-- fewer are one
pub moment-by : (milliseconds : ℕ) → (2 ^ 48 ≤ milliseconds / 1000 → ⊥) → IsMoment milliseconds
moment-by milliseconds not-late = omega (arith, not-late)
