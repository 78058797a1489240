-- Octets that came in, and the generations that take them.
use Rattle.std.proofs.Common.{◌≡◌, inl, inr, List, Option, Some, ℕ, refl, sym, ap, ◌∙◌, subst, Result, Ok, Err}
use Rattle.std.specs.Result.{IfOk, OnErr}
use Rattle.dns_queries.specs.declared.incoming.Why.{Why}
use Rattle.sip_resolver.specs.declared.resolver.ReplyOutcome.{ReplyOutcome}
use Rattle.sip_resolver.specs.declared.resolver.ReplyOutcome.TheVariants.{Ignored}
use Rattle.sip_resolver.specs.declared.transmit.DnsTransport.{DnsTransport}
use Rattle.rolling_resolver.specs.Rolling.{GenerationView, Learns, Receives, ReceivesOlder, RollingView, older, younger}

module _ (over : DnsTransport) (octets : List ℕ) (now : ℕ) where
  -- a generation that ignores octets is as it was
  ignores : (why : Why) (old new : GenerationView) → Learns over octets now (Ignored why) old new → new ≡ old
  ignores why old new it = λ j. record { core = it.hears.1 j; seat = it.leaves j; mark = it.mark j }

  module _ (old : RollingView) where
    -- the younger generation takes them
    pub younger-takes : (heard : ReplyOutcome) (after : GenerationView) → Learns over octets now heard old.current after
        → Receives over octets now heard old (record old { current = after })
    younger-takes heard after it = younger after it refl

    -- the older generation takes them
    pub older-receives : {E : Type 0} (why : Why) (result : Result ReplyOutcome E) (before after : GenerationView) → old.draining
        ≡ Some before → IfOk result (λ heard. Learns over octets now heard before after)
        → IfOk result (λ heard. ReceivesOlder over octets now why heard old (record old { draining = Some after }))
    older-receives why (Ok heard) before after was it = inr (before, after, was, it, refl)
    older-receives why (Err e) before after was it = tt

    -- the younger one ignored them, and the older one took them, or none is there
    older-by : (why : Why) (heard : ReplyOutcome) (after : GenerationView) (new : RollingView)
        → Learns over octets now (Ignored why) old.current after
        → ReceivesOlder over octets now why heard (record old { current = after }) new → Receives over octets now heard old new
    older-by why heard after new it (inl (none, is, same)) =
        subst (λ (h : ReplyOutcome). Receives over octets now h old new) (sym is) (younger after it same)
    older-by why heard after new it (inr (before, last, was, its, same)) =
        older before last was its
        (same ∙ ap (λ (c : GenerationView). record old { current = c; draining = Some last }) (ignores why old.current after it))

    pub older-takes : {E : Type 0} (why : Why) (result : Result ReplyOutcome E) (after : GenerationView) (new : RollingView)
        → Learns over octets now (Ignored why) old.current after
        → IfOk result (λ heard. ReceivesOlder over octets now why heard (record old { current = after }) new)
        → IfOk result (λ heard. Receives over octets now heard old new)
    older-takes why (Ok heard) after new it its = older-by why heard after new it its
    older-takes why (Err e) after new it its = tt

    -- where the older one finds no memory all is as it was
    pub ignored-by-younger : {E : Type 0} (why : Why) (result : Result ReplyOutcome E) (after : GenerationView) (new : RollingView)
        → Learns over octets now (Ignored why) old.current after → OnErr result (new ≡ record old { current = after })
        → OnErr result (new ≡ old)
    ignored-by-younger why (Ok heard) after new it same = tt
    ignored-by-younger why (Err e) after new it same =
        same ∙ ap (λ (c : GenerationView). record old { current = c }) (ignores why old.current after it)
