-- What becomes of the questions that wait, along any events.
use Rattle.std.specs.Prelude.{◌≡◌, ℕ, List, [], ◌∷◌, ◌++◌, Option, Result}
use Rattle.std.specs.Borrow.{Bor}
use Rattle.dns_message.specs.declared.question.Question.{Question}
use Rattle.dns_queries.specs.Events.{Asks, Dues, Means, closed, left_by}
use Rattle.dns_queries.specs.Tickets.{Asking}
use Rattle.dns_queries.specs.declared.incoming.Due.{Due}
use Rattle.dns_queries.specs.declared.incoming.Incoming.{Incoming}
use Rattle.dns_queries.specs.declared.refusal.AskRefusal.{AskRefusal}

-- what a user of an asker can do: ask a question under an id at a moment, hand octets in, end the
-- wait for the reply to the question of an id, and let a moment come
pub data Event : Type 0 where
  ask : ℕ → Question → ℕ → Event
  hear : List ℕ → Event
  cancel : ℕ → Event
  wait : ℕ → Event

-- What an event leaves, whatever its call gives. Octets for which memory is refused leave all as it
-- was.
pub data Step (old new : Asking) : Event → Type 0 where
  asked : {id : ℕ} {question : Question} {now : ℕ} (result : Result (Bor (List ℕ)) AskRefusal)
      → Asks old new id question now result → Step old new (ask id question now)
  heard : {octets : List ℕ} (incoming : Incoming) → Means old octets incoming
      → new ≡ left_by incoming old → Step old new (hear octets)
  unheard : {octets : List ℕ} → new ≡ old → Step old new (hear octets)
  cancelled : {id : ℕ} → new ≡ closed id old → Step old new (cancel id)
  waited : {now : ℕ} (due : Option Due) → Dues old new now due → Step old new (wait now)

-- one event happens after the other
pub data Runs (first : Asking) : List Event → Asking → Type 0 where
  begun : Runs first [] first
  further : (events : List Event) (event : Event) (old new : Asking) → Runs first events old
      → Step old new event
      → Runs first (events ++ event ∷ []) new
