-- Requests that ended, and out of which generation they are taken.
use Rattle.std.proofs.Common.{◌≡◌, refl, sym, subst, ℕ, Bool, List, [], Option, Some, None, IfSome}
use Rattle.std.proofs.lemmas.List.Elements.{All-nil}
use Rattle.std.specs.Prelude.{⊤, MatchOption}
use Rattle.answer_cache.specs.Lists.{IsGroupCount, IsListSeat}
use Rattle.answer_cache.specs.Seats.{SeatView}
use Rattle.dns_queries.specs.declared.schedule.Schedule.{Schedule}
use Rattle.sip_resolver.specs.Requests.{Stand, requests_of}
use Rattle.sip_resolver.specs.Tasks.{IsCounted, Lacks, WaitingView}
use Rattle.sip_resolver.specs.Outcomes.{Ended, IsOutcome}
use Rattle.sip_resolver.specs.Resolvers.{IsTaken, ResolverView, begun_of}
use Rattle.rolling_resolver.specs.Rolling.{GenerationView, Holds, RollingView, Takes, TakesOut, younger}

-- a generation with this core, at a seat
abbrev pub at_seat : SeatView → ℕ → ResolverView → GenerationView
at_seat seat mark core = record { core = core; seat = seat; mark = mark }

-- what a core gives is taken out of its generation
pub taken-out : (seat : SeatView) (mark : ℕ) (core after : ResolverView) (result : Option Ended)
    → MatchOption result ((core.requests.ended ≡ []) × (after ≡ core)) (λ ended. IsTaken ended core after)
    → IfSome result (λ ended. IsOutcome (λ _. ⊤) (λ _. ⊤) seat ended.sought ended.outcome)
    → IfSome result (λ ended. TakesOut ended (at_seat seat mark core) (at_seat seat mark after))
taken-out seat mark core after None taken sound = tt
taken-out seat mark core after (Some ended) taken sound = record { taken = taken; sound = sound; others = refl }

-- one that the younger generation gives is taken out of that
pub younger-taken : (result : Option Ended) (old : RollingView) (after : GenerationView)
    → IfSome result (λ ended. TakesOut ended old.current after)
    → IfSome result (λ ended. Takes ended old (record old { current = after }))
younger-taken None old after it = tt
younger-taken (Some ended) old after it = younger after it refl

-- all that is said of the requests inside holds where none is
empty-stand : (gives : List ℕ → Type 0) (shows : ℕ → Type 0) (seat : SeatView) (limit : ℕ)
    → Stand gives shows seat (requests_of [] [] [] [] limit)
empty-stand gives shows seat limit = record {
  ready = All-nil (IsCounted gives shows seat);
  held = All-nil (IsCounted gives shows seat);
  waiting = All-nil (λ (waiting : WaitingView). IsCounted gives shows seat waiting.task × Lacks shows seat waiting.task);
  ended = All-nil (λ (ended : Ended). IsOutcome gives shows seat ended.sought ended.outcome);
}

-- what holds of a generation holds of a core in which no request is
pub begun-holds : (seat : SeatView) (core : ResolverView) (requests questions : ℕ) (streams : Bool) (schedule : Schedule)
    → IsListSeat seat → IsGroupCount seat.groups → core ≡ begun_of requests questions streams schedule → Holds seat core
begun-holds seat core requests questions streams schedule seated groups is =
    let S : ResolverView → Type 0 = λ it. Stand (λ _. ⊤) (λ _. ⊤) seat it.requests in
    record {
      seated = seated;
      groups = groups;
      stand = subst S (sym is) (empty-stand (λ _. ⊤) (λ _. ⊤) seat requests);
    }
