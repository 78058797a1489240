-- What each step of the log says.
use Rattle.std.specs.Prelude.{◌≡◌, ℕ, ◌+◌, ◌<◌, ◌==◌, ◌⊎◌, true, List, [], ◌∷◌, ◌++◌, MatchBool}
use Rattle.std.specs.Prelude.{Some}
use Rattle.std.specs.Arc.{arc_value}
use Rattle.dns_answers.specs.Values.{AnswerValue}
use Rattle.dns_message.specs.declared.question.Question.{Question}
use Rattle.logbook.specs.Pages.{Step, View, nib, may_make}
use mathlib.Core.List.{IsPrefix}
use Rattle.answer_log.specs.Counts.{count}
use Rattle.answer_log.specs.Groups.{group_in}
use Rattle.answer_log.specs.Histories.{IsFull}
use Rattle.answer_log.specs.Logs.{groups_in, seat_of, history, top, In}
use Rattle.answer_log.specs.Rules.{node_at}
use Rattle.answer_log.specs.declared.event.Counted.{Counted}
use Rattle.answer_log.specs.declared.event.Event.{Event}
use Rattle.answer_log.specs.declared.event.Event.TheVariants.{Asks, Named, Opened, Placed}
use Rattle.answer_log.specs.declared.store.Store.{Store}
use Rattle.answer_log.specs.declared.store.NewStore.{NewStore}
use Rattle.answer_log.specs.declared.tally.Tally.{Tally}

-- the store of a seat, a question, its answer and a moment
abbrev pub store_by : ℕ → Question → AnswerValue → ℕ → Store
store_by seat question answer moment =
    record { seat = seat; question = question; answer = answer; moment = moment }

-- the store that is made of it
abbrev pub store_of : NewStore → Store
store_of new_store = store_by new_store.seat new_store.question.now (arc_value new_store.answer.now)
    new_store.moment

-- the nodes of the seat are at places below this one
abbrev pub NamesBelow : ℕ → ℕ → List Event → Type 0
NamesBelow seat place log =
    (node : ℕ) (store : Store) (link : ℕ) → In (Named node store link) log → store.seat ≡ seat
    → node < node_at seat place

-- at some moment the head of the question's group, one of so many, led to this node, and the group
-- was not full then
pub record HadRoom (groups : ℕ) (log : List Event) (node : ℕ) (question : Question) : Type 0 where
  pub seen : List Event
  pub later : IsPrefix seen log
  pub top : top groups (group_in groups question) seen ≡ node
  pub room : IsFull groups (history seen) question → ⊥

-- a tally is that of a seat, in the log of these names
abbrev pub Fits : Tally → List ℕ → ℕ → Type 0
Fits tally names seat = (tally.held ≡ true) × (tally.name ∷ [] ≡ names) × (tally.seat ≡ seat)
    × (seat < 64)

-- the tally is as it was but for its count
abbrev pub Stays : Tally → Tally → Type 0
Stays old new = (new.held ≡ true) × (new.name ≡ old.name) × (new.seat ≡ old.seat)

-- the tally stays, and its count is this one
abbrev pub Same : Tally → Tally → ℕ → Type 0
Same old new number = Stays old new × (new.count ≡ old.count) × (number ≡ old.count)

-- The log is what was seen, what came since, and then the event. Till then the log had as many
-- events of its seat as the tally says.
abbrev pub Adds : Event → Tally → List Event → List Event → Type 0
Adds event tally before after = (more : List Event) × (after ≡ (before ++ more) ++ event ∷ [])
    × (count (seat_of event) (before ++ more) ≡ tally.count)

-- a step says what it counted
abbrev pub Says : View Event Counted → (Counted → Type 0) → Type 0
Says after P = (counted : Counted) × (after.1.1 ≡ Some counted) × P counted

-- the count is as it was
abbrev pub Kept : ℕ → List Event → Counted → Type 0
Kept seat log counted = (counted.before ≡ count seat log) × (counted.after ≡ counted.before)

-- an event was added, and the count of its seat has risen
abbrev pub Rose : Event → List Event → List Event → Counted → Type 0
Rose event before after counted = (counted.after ≡ counted.before + 1)
    × ((more : List Event) × (after ≡ (before ++ more) ++ event ∷ [])
    × (counted.before ≡ count (seat_of event) (before ++ more)))

-- the head of a group leads to its node placed last
abbrev pub Looks : Step Event → View Event Counted → ℕ → View Event Counted → Type 0
Looks s v found w = (found ≡ top (groups_in w.0) s.key w.0) × Says w (Kept (seat_of s.ask) w.0)

-- the link of a placed node leads to the one of its group placed before it
abbrev pub Follows : Step Event → View Event Counted → ℕ → View Event Counted → Type 0
Follows s v found w =
    (before after : List Event) (node : ℕ) (store : Store)
    → v.0 ≡ before ++ Placed node store s.key ∷ after
    → found ≡ top (groups_in v.0) (group_in (groups_in v.0) store.question) before

abbrev pub linked_to : Event → ℕ → Event
linked_to (Opened seats groups) link = Opened seats groups
linked_to (Asks seat count) link = Asks seat count
linked_to (Named node store _) link = Named node store link
linked_to (Placed node store _) link = Placed node store link

abbrev pub node_of : Event → ℕ
node_of (Opened seats groups) = 0
node_of (Asks seat count) = 0
node_of (Named node store link) = node
node_of (Placed node store link) = node

-- a node of some seat is named already
abbrev pub IsTaken : ℕ → List Event → Type 0
IsTaken node log = (store : Store) × (link : ℕ) × In (Named node store link) log × (store.seat < 64)
    × ((place : ℕ) × (node ≡ node_at store.seat place))

-- A cell is made. The node was new and is named with that cell as its link, or it was named already
-- and nothing is added.
abbrev pub Claims : Step Event → View Event Counted → ℕ → View Event Counted → Type 0
Claims s v found w = (link : ℕ) × (groups_in w.0 < link) × (w.1.0 ≡ nib may_make link 0)
    × Says w (λ counted. Rose (linked_to s.ask link) v.0 w.0 counted
    ⊎ (Kept (seat_of s.ask) w.0 counted × IsTaken (node_of s.ask) w.0))

-- The head was the one expected, and the node is placed; or it was another, which is the last one
-- of the group, and nothing is added.
abbrev pub Tries : Step Event → View Event Counted → ℕ → View Event Counted → Type 0
Tries s v found w = Says w
    (λ counted. MatchBool (found == s.old) (Rose (linked_to s.ask v.1.0.key) v.0 w.0 counted)
    ((found ≡ top (groups_in w.0) s.key w.0) × (w.1.0 ≡ v.1.0) × Kept (seat_of s.ask) w.0 counted))
