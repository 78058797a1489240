-- Which requests are inside a rolling resolver, and which calls leave them there.
use Rattle.std.specs.Prelude.{◌≡◌, ℕ, ◌+◌, ◌<◌, ◌≤◌, List, Option}
use Rattle.std.specs.List.{sum_by}
use Rattle.sip_resolver.specs.Cancels.{requests_with}
use Rattle.sip_resolver.specs.Outcomes.{Sought}
use Rattle.sip_resolver.specs.Requests.{count_of, weight}
use Rattle.sip_resolver.specs.declared.refusal.SubmitRefusal.{SubmitRefusal}
use Rattle.sip_resolver.specs.declared.refusal.SubmitRefusal.TheVariants.{Full, NumberTaken, Memory}
use Rattle.sip_selection.specs.declared.caps.Caps.{Caps}
use Rattle.sip_selection.specs.declared.request.Request.{Request}
use Rattle.rolling_resolver.specs.Rolling.{GenerationView, HasRequest, RollingView}
use Rattle.rolling_resolver.specs.Stats.{of_both}

-- the sum of the weights of the requests inside a generation, also of those that ended and were not
-- taken
abbrev pub weight_of : (Sought → ℕ) → GenerationView → ℕ
weight_of h one = weight h one.core.requests

-- the sum of the weights of the requests inside both
abbrev pub weight_in : (Sought → ℕ) → RollingView → ℕ
weight_in h it = of_both (weight_of h) it

-- how many requests are inside both, also those that ended and were not taken
abbrev pub count_inside : RollingView → ℕ
count_inside it = of_both (λ one. count_of one.core.requests) it

-- how many can be inside both
abbrev pub most_inside : RollingView → ℕ
most_inside it = it.current.core.requests.limit

-- the same requests are inside, each as often as before, and as many as before can be
abbrev pub SameInside : RollingView → RollingView → Type 0
SameInside old new = (most_inside new ≡ most_inside old)
    × ((h : Sought → ℕ) → weight_in h new ≡ weight_in h old)

-- one request more is inside, as it was submitted, by some random words
pub record GainsOne (number : ℕ) (request : Request) (caps : Caps) (until : Option ℕ)
    (old new : RollingView) : Type 0 where
  pub most : most_inside new ≡ most_inside old
  pub words : List ℕ
  pub weighs : (h : Sought → ℕ) → weight_in h new
      ≡ weight_in h old
      + h (record {
        number = number;
        request = request;
        caps = caps;
        words = words;
        until = until;
      })

-- the sum of the weights of the requests of a number in a generation
abbrev pub weight_with : (Sought → ℕ) → ℕ → GenerationView → ℕ
weight_with h number one = sum_by h (requests_with number one.core.requests)

-- the requests of this number are gone, and all others are inside, each as often as before
abbrev pub LosesNumber : ℕ → RollingView → RollingView → Type 0
LosesNumber number old new = (most_inside new ≡ most_inside old) × ((h : Sought → ℕ)
    → weight_in h old ≡ weight_in h new + of_both (weight_with h number) old)

-- where each refusal of a request comes, and it comes exactly there, in the order of the checks;
-- memory is needed only for what would be taken
abbrev pub RefusesRequest : RollingView → ℕ → SubmitRefusal → Type 0
RefusesRequest it number Full = most_inside it ≤ count_inside it
RefusesRequest it number NumberTaken =
    (count_inside it < most_inside it) × HasRequest number it
RefusesRequest it number Memory =
    (count_inside it < most_inside it) × (HasRequest number it → ⊥)
