-- The requests inside both generations.
use Rattle.std.proofs.Common.{◌≡◌, ℕ, ◌+◌, List, Option, ap, ◌∙◌, arith}
use Rattle.std.specs.Prelude.{false}
use Rattle.std.proofs.lemmas.List.Sums.{sum_by_push}
use Rattle.sip_resolver.specs.Outcomes.{Sought}
use Rattle.sip_resolver.specs.Requests.{AreSame, weight}
use Rattle.sip_resolver.specs.Resolvers.{ResolverView, with_request}
use Rattle.sip_resolver.specs.Tasks.{TaskView, sought_of}
use Rattle.sip_selection.specs.declared.caps.Caps.{Caps}
use Rattle.sip_selection.specs.declared.request.Request.{Request}
use Rattle.sip_selection.specs.Selections.{begun}
use Rattle.rolling_resolver.specs.Inside.{GainsOne, SameInside, weight_of}
use Rattle.rolling_resolver.specs.Rolling.{GenerationView, RollingView}
use Rattle.rolling_resolver.specs.Stats.{of_older}

-- one is taken in
pub one-more : (h : Sought → ℕ) (number : ℕ) (request : Request) (caps : Caps) (words : List ℕ) (until : Option ℕ)
    (it : ResolverView)
    → weight h (with_request number request caps words until it).requests
    ≡ weight h it.requests
    + h (record { number = number; request = request; caps = caps; words = words; until = until })
one-more h number request caps words until it =
    let task : TaskView = record { number = number; selection = begun request caps words; cut = false; until = until } in
    let pushed = sum_by_push (λ (task : TaskView). h (sought_of task)) it.requests.ready task in
    omega (arith, pushed)

-- one is taken in by the younger generation
pub gains-by : (number : ℕ) (request : Request) (caps : Caps) (words : List ℕ) (until : Option ℕ) (old middle : RollingView)
    (after : GenerationView)
    → after ≡ record middle.current { core = with_request number request caps words until middle.current.core }
    → SameInside old middle → GainsOne number request caps until old (record middle { current = after })
gains-by number request caps words until old middle after is same = record {
  most = ap (λ (g : GenerationView). g.core.requests.limit) is ∙ same.0;
  words = words;
  weighs = λ h. rw is (let more = one-more h number request caps words until middle.current.core in omega (arith, more, same.1 h));
}

-- the same are inside the younger generation
pub younger-same : (old : RollingView) (after : GenerationView) → AreSame old.current.core.requests after.core.requests
    → SameInside old (record old { current = after })
younger-same old after same = (same.0, λ h. ap (λ (w : ℕ). w + of_older (weight_of h) old.draining) (same.1 h))
