-- What is so of the requests, as one is taken out or put back.
use Rattle.std.proofs.Common.{◌≡◌, ℕ, List, [], ◌∷◌, ◌++◌, Option, Some, None, MatchOption}
use Rattle.std.specs.Option.{IfSome}
use Rattle.std.proofs.lemmas.List.Elements.{All-head, All-push, All-tail}
use Rattle.answer_cache.specs.Seats.{SeatView}
use Rattle.sip_resolver.proofs.Waiters.{all-of}
use Rattle.sip_resolver.specs.Outcomes.{Ended, IsOutcome}
use Rattle.sip_resolver.specs.Requests.{IsWithoutEnded, IsWithoutHeld, IsWithoutReady, IsWithoutWaiting, IsWithoutWaitingFor, RequestsView, Stand}
use Rattle.sip_resolver.specs.Tasks.{IsCounted, Lacks, TaskView, WaitingView}

module _ (gives : List ℕ → Type 0) (shows : ℕ → Type 0) (seat : SeatView) where
  abbrev waits : WaitingView → Type 0
  waits waiting = IsCounted gives shows seat waiting.task × Lacks shows seat waiting.task

  abbrev ends : Ended → Type 0
  ends ended = IsOutcome gives shows seat ended.sought ended.outcome

  -- ---- one more

  pub ready-too : (it : RequestsView) (task : TaskView) → Stand gives shows seat it → IsCounted gives shows seat task
      → Stand gives shows seat (record it { ready = it.ready ++ task ∷ [] })
  ready-too it task stand counted = record {
    ready = All-push (IsCounted gives shows seat) it.ready task stand.ready counted;
    held = stand.held;
    waiting = stand.waiting;
    ended = stand.ended;
  }

  pub held-too : (it : RequestsView) (task : TaskView) → Stand gives shows seat it → IsCounted gives shows seat task
      → Stand gives shows seat (record it { held = it.held ++ task ∷ [] })
  held-too it task stand counted = record {
    ready = stand.ready;
    held = All-push (IsCounted gives shows seat) it.held task stand.held counted;
    waiting = stand.waiting;
    ended = stand.ended;
  }

  pub waiting-too : (it : RequestsView) (waiting : WaitingView) → Stand gives shows seat it → IsCounted gives shows seat waiting.task
      → Lacks shows seat waiting.task → Stand gives shows seat (record it { waiting = it.waiting ++ waiting ∷ [] })
  waiting-too it waiting stand counted lacks = record {
    ready = stand.ready;
    held = stand.held;
    waiting = All-push waits it.waiting waiting stand.waiting (counted, lacks);
    ended = stand.ended;
  }

  pub ended-too : (it : RequestsView) (ended : Ended) → Stand gives shows seat it
      → IsOutcome gives shows seat ended.sought ended.outcome
      → Stand gives shows seat (record it { ended = it.ended ++ ended ∷ [] })
  ended-too it ended stand is = record {
    ready = stand.ready;
    held = stand.held;
    waiting = stand.waiting;
    ended = All-push ends it.ended ended stand.ended is;
  }

  -- ---- one taken out

  pub ready-out : (old new : RequestsView) (task : TaskView) → IsWithoutReady task old new → Stand gives shows seat old
      → Stand gives shows seat new × IsCounted gives shows seat task
  ready-out old new task out stand =
      let all = rw out.first at stand.ready in (
        rw out.others (record {
          ready = All-tail (IsCounted gives shows seat) task new.ready all;
          held = stand.held;
          waiting = stand.waiting;
          ended = stand.ended;
        }),
        All-head (IsCounted gives shows seat) task new.ready all,
      )

  pub held-out : (old new : RequestsView) (task : TaskView) → IsWithoutHeld task old new → Stand gives shows seat old
      → Stand gives shows seat new × IsCounted gives shows seat task
  held-out old new task out stand =
      let all = rw out.first at stand.held in (
        rw out.others (record {
          ready = stand.ready;
          held = All-tail (IsCounted gives shows seat) task new.held all;
          waiting = stand.waiting;
          ended = stand.ended;
        }),
        All-head (IsCounted gives shows seat) task new.held all,
      )

  pub waiting-out : (old new : RequestsView) (waiting : WaitingView) → IsWithoutWaiting waiting old new → Stand gives shows seat old
      → Stand gives shows seat new × (IsCounted gives shows seat waiting.task × Lacks shows seat waiting.task)
  waiting-out old new waiting out stand =
      let all = rw out.first at stand.waiting in (
        rw out.others (record {
          ready = stand.ready;
          held = stand.held;
          waiting = All-tail waits waiting new.waiting all;
          ended = stand.ended;
        }),
        All-head waits waiting new.waiting all,
      )

  pub waiting-for-out : (id : ℕ) (old new : RequestsView) (task : TaskView) → IsWithoutWaitingFor id task old new
      → Stand gives shows seat old
      → Stand gives shows seat new × (IsCounted gives shows seat task × Lacks shows seat task)
  waiting-for-out id old new task out stand =
      let all = rw out.was at stand.waiting in
      let parts = all-of (record { id = id; task = task }) out.later waits out.first all in (
        rw out.others (record {
          ready = stand.ready;
          held = stand.held;
          waiting = parts.0;
          ended = stand.ended;
        }),
        parts.1,
      )

  pub ended-out : (old new : RequestsView) (ended : Ended) → IsWithoutEnded ended old new → Stand gives shows seat old
      → Stand gives shows seat new × IsOutcome gives shows seat ended.sought ended.outcome
  ended-out old new ended out stand =
      let all = rw out.first at stand.ended in (
        rw out.others (record {
          ready = stand.ready;
          held = stand.held;
          waiting = stand.waiting;
          ended = All-tail ends ended new.ended all;
        }),
        All-head ends ended new.ended all,
      )

  -- ---- one that ended is taken out, where there is one

  pub outcome-of : (old new : RequestsView) (found : Option Ended)
      → MatchOption found ((old.ended ≡ []) × (new ≡ old)) (λ ended. IsWithoutEnded ended old new) → Stand gives shows seat old
      → IfSome found ends
  outcome-of old new None it stand = tt
  outcome-of old new (Some ended) it stand = (ended-out old new ended it stand).1

  pub stand-of : (old new : RequestsView) (found : Option Ended)
      → MatchOption found ((old.ended ≡ []) × (new ≡ old)) (λ ended. IsWithoutEnded ended old new) → Stand gives shows seat old
      → Stand gives shows seat new
  stand-of old new None it stand = rw it.1 stand
  stand-of old new (Some ended) it stand = (ended-out old new ended it stand).0
