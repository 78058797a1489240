-- What becomes of the requests, along any calls.
use Rattle.std.specs.Prelude.{◌≡◌, ℕ, ◌+◌, List, [], ◌∷◌, ◌++◌, Option, Some, None}
use Rattle.std.specs.List.{filter_map, flat_map, sum_by}
use Rattle.sip_selection.specs.declared.caps.Caps.{Caps}
use Rattle.sip_selection.specs.declared.request.Request.{Request}
use Rattle.sip_resolver.specs.Cancels.{questions_left, requests_with, requests_without}
use Rattle.sip_resolver.specs.Idle.{AreAwaited}
use Rattle.sip_resolver.specs.Outcomes.{Ended, Sought}
use Rattle.sip_resolver.specs.Requests.{AreSame, weight}
use Rattle.sip_resolver.specs.Resolvers.{IsTaken, ResolverView, with_request}

-- What happens to a resolver: a request is submitted, an outcome is taken, the requests of a number
-- are cancelled, or it is polled, hears octets or is restarted.
pub data Event : Type 0 where
  submits : Sought → Event
  takes : Ended → Event
  cancels : List Sought → Event
  goes : Event

-- what an event leaves
pub data Step (old new : ResolverView) : Event → Type 0 where
  submitted : (number : ℕ) (request : Request) (caps : Caps) (words : List ℕ) (until : Option ℕ)
      → new ≡ with_request number request caps words until old
      → Step old new (submits (record {
        number = number;
        request = request;
        caps = caps;
        words = words;
        until = until;
      }))
  taken : (ended : Ended) → IsTaken ended old new → Step old new (takes ended)
  cancelled : (number : ℕ) → new.requests ≡ requests_without number old.requests
      → new.questions ≡ questions_left old.requests.waiting new.requests.waiting old.questions
      → Step old new (cancels (requests_with number old.requests))
  gone : AreSame old.requests new.requests
      → (AreAwaited old.requests old.questions → AreAwaited new.requests new.questions)
      → Step old new goes

-- one event happens after the other
pub data Runs (first : ResolverView) : List Event → ResolverView → Type 0 where
  begun : Runs first [] first
  further : (events : List Event) (event : Event) (old new : ResolverView)
      → Runs first events old → Step old new event → Runs first (events ++ event ∷ []) new

-- the request that an event submits, if it submits one
abbrev pub submitted_by : Event → Option Sought
submitted_by (submits sought) = Some sought
submitted_by (takes ended) = None
submitted_by (cancels requests) = None
submitted_by goes = None

-- the request whose outcome an event takes, if it takes one
abbrev pub ended_by : Event → Option Sought
ended_by (submits sought) = None
ended_by (takes ended) = Some ended.sought
ended_by (cancels requests) = None
ended_by goes = None

-- the requests that an event cancels
abbrev pub cancelled_by : Event → List Sought
cancelled_by (submits sought) = []
cancelled_by (takes ended) = []
cancelled_by (cancels requests) = requests
cancelled_by goes = []

-- The requests that were inside at first, with those that were submitted, are those that are inside
-- at last, with those whose outcomes were taken and those that were cancelled, each as often: by
-- any weight of each they weigh the same.
abbrev pub AreKept : ResolverView → List Event → ResolverView → Type 0
AreKept first events last =
    (h : Sought → ℕ)
    → weight h first.requests + sum_by h (filter_map submitted_by events)
    ≡ weight h last.requests + sum_by h (filter_map ended_by events)
    + sum_by h (flat_map cancelled_by events)
