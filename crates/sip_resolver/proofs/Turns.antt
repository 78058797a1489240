-- Requests that go on, one after the other, and no question is sent for them.
use Rattle.std.proofs.Common.{◌≡◌, ℕ, List, refl, ◌∙◌, subst}
use Rattle.answer_cache.specs.Seats.{GoesOn, SeatView, StoresNothing}
use Rattle.sip_resolver.proofs.Ending.{ends-not, ends-through}
use Rattle.sip_resolver.proofs.Standing.{goes-not, goes-through, nothing-not, nothing-through}
use Rattle.sip_resolver.proofs.Weighing.{same-not, same-through}
use Rattle.sip_resolver.specs.Idle.{AreAwaited}
use Rattle.sip_resolver.specs.Ends.{EndsMore, IsByChoice}
use Rattle.sip_resolver.specs.Outcomes.{Ended}
use Rattle.sip_resolver.specs.Requests.{AreSame, Stand}
use Rattle.sip_resolver.specs.Resolvers.{ResolverView}

module _ (gives : List ℕ → Type 0) (shows : ℕ → Type 0) where
  -- some went on so far
  pub record Went (before after : SeatView) (old new : ResolverView) : Type 0 where
    pub goes_on : GoesOn before after
    pub nothing : StoresNothing before after
    pub stand : Stand gives shows after new.requests
    pub questions : new.questions ≡ old.questions
    pub awaited : AreAwaited old.requests old.questions → AreAwaited new.requests new.questions
    pub ends : EndsMore IsByChoice old.requests.ended new.requests.ended
    pub same : AreSame old.requests new.requests

  pub went-not : (seat : SeatView) (it : ResolverView) → Stand gives shows seat it.requests → Went seat seat it it
  went-not seat it stand = record {
    goes_on = goes-not seat;
    nothing = nothing-not seat;
    stand = stand;
    questions = refl;
    awaited = λ it. it;
    ends = ends-not IsByChoice it.requests.ended;
    same = same-not it.requests;
  }

  -- and one more
  pub went-too : (before seat after : SeatView) (old now new : ResolverView) (ended : List Ended) → Went before seat old now
      → (AreAwaited now.requests now.questions → AreAwaited new.requests new.questions) → ended ≡ now.requests.ended
      → AreSame now.requests new.requests → GoesOn seat after → StoresNothing seat after
      → Stand gives shows after new.requests → new.questions ≡ now.questions → EndsMore IsByChoice ended new.requests.ended
      → Went before after old new
  went-too before seat after old now new ended so awaited is same on nothing stand asking ends = record {
    goes_on = goes-through before seat after so.goes_on on;
    nothing = nothing-through before seat after so.nothing nothing;
    stand = stand;
    questions = asking ∙ so.questions;
    awaited = λ it. awaited (so.awaited it);
    ends = ends-through IsByChoice old.requests.ended now.requests.ended new.requests.ended so.ends
        (subst (λ l. EndsMore IsByChoice l new.requests.ended) is ends);
    same = same-through old.requests now.requests new.requests so.same same;
  }
