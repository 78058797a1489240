-- What the answers in a resolver's books rest on, and with them the outcomes that C is told.
use Rattle.std.specs.Prelude.{ℕ, List, [], ◌∷◌, ◌++◌, Option, Some, None, IfSome}
use Rattle.std.specs.List.{All, Contains}
use Rattle.answer_cache.specs.Seats.{SeatView}
use Rattle.sip_selection.specs.Choice.{Resolution, need, refused, targets}
use Rattle.sip_resolver.specs.Outcomes.{Ended, IsChosen, IsReplied}
use Rattle.sip_resolver.specs.declared.outcome.Outcome.{Outcome}
use Rattle.sip_resolver.specs.declared.outcome.Outcome.TheVariants.{Targets, Refused, NoAnswer, NoServer, BadReply, Memory}
use Rattle.rolling_resolver.specs.Rolling.{RollingView}

-- each answer that a seat has, or was handed, is that of a reply among these octets
pub record RestsOn (given : List (List ℕ)) (seat : SeatView) : Type 0 where
  pub seen : All (λ store. IsReplied (Contains given) store.question store.answer) seat.seen
  pub offered : All (λ offer. IsReplied (Contains given) offer.question offer.answer) seat.offered

-- so it is at the seats of both generations
pub record AllRestOn (given : List (List ℕ)) (it : RollingView) : Type 0 where
  pub current : RestsOn given it.current.seat
  pub draining : IfSome it.draining (λ older. RestsOn given older.seat)

-- what the answers rested on before, they rest on still
abbrev pub KeepsAnswers : RollingView → RollingView → Type 0
KeepsAnswers old new = (given : List (List ℕ)) → AllRestOn given old → AllRestOn given new

-- they rest on that, and on these octets too
abbrev pub GainsFrom : List ℕ → RollingView → RollingView → Type 0
GainsFrom octets old new =
    (given : List (List ℕ)) → AllRestOn given old → AllRestOn (given ++ octets ∷ []) new

-- what an outcome says of its request: where it goes, that it goes nowhere, or the question whose
-- answer is missing; nothing for want of memory
abbrev pub said_by : Outcome → Option Resolution
said_by (Targets list) = Some (targets list.targets)
said_by (Refused reason) = Some (refused reason)
said_by (NoAnswer question) = Some (need question)
said_by (NoServer question) = Some (need question)
said_by (BadReply question refusal) = Some (need question)
said_by Memory = None

-- what the outcome says is the choice of RFC 3263 4 and 5 over answers, each that of a reply among
-- these octets
abbrev pub IsChosenOf : List (List ℕ) → Ended → Type 0
IsChosenOf given ended =
    IfSome (said_by ended.outcome)
    (IsChosen (λ it. IsReplied (Contains given) it.question it.answer) ended.sought)

-- what is told last is chosen over what the answers rested on
abbrev pub TellsOf : RollingView → RollingView → Type 0
TellsOf old new =
    (given : List (List ℕ)) → AllRestOn given old → IfSome new.told (IsChosenOf given)
