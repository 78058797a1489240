-- What is left after a request was cancelled.
use Rattle.std.specs.Prelude.{◌==◌, ◌&&◌, ℕ, Bool, not, List, ◌++◌, map}
use Rattle.std.specs.List.{filter, list_any}
use Rattle.dns_queries.specs.Tickets.{Asking}
use Rattle.sip_resolver.specs.Outcomes.{Sought}
use Rattle.sip_resolver.specs.Questions.{QuestionsView}
use Rattle.sip_resolver.specs.Requests.{RequestsView, number_of_ended, number_of_waiting, requests_of, waits_for}
use Rattle.sip_resolver.specs.Tasks.{WaitingView, sought_of}

-- ---- the requests

-- the items that have another number than this, in their order
abbrev pub others_by : {X : Type 0} → (X → ℕ) → ℕ → List X → List X
others_by numbered number items = filter (λ it. not (numbered it == number)) items

-- the requests inside that have another number, each in its queue and in its order
abbrev pub requests_without : ℕ → RequestsView → RequestsView
requests_without number it = requests_of
    (others_by (λ task. task.number) number it.ready)
    (others_by (λ task. task.number) number it.held)
    (others_by number_of_waiting number it.waiting)
    (others_by number_of_ended number it.ended)
    it.limit

-- the items that have this number, in their order
abbrev pub these_by : {X : Type 0} → (X → ℕ) → ℕ → List X → List X
these_by numbered number items = filter (λ it. numbered it == number) items

-- the requests inside that have this number, as they were submitted
abbrev pub requests_with : ℕ → RequestsView → List Sought
requests_with number it =
    map sought_of (these_by (λ task. task.number) number it.ready)
    ++ map sought_of (these_by (λ task. task.number) number it.held)
    ++ map (λ waiting. sought_of waiting.task) (these_by number_of_waiting number it.waiting)
    ++ map (λ ended. ended.sought) (these_by number_of_ended number it.ended)

-- ---- the questions

-- a request waits for the reply to the question of this id
abbrev pub is_awaited : List WaitingView → ℕ → Bool
is_awaited waiting id = list_any (waits_for id) waiting

-- a request waited for the reply to the question of this id, and none does any more
abbrev pub is_abandoned : List WaitingView → List WaitingView → ℕ → Bool
is_abandoned old new id = is_awaited old id && not (is_awaited new id)

-- the tickets of the questions that were not abandoned
abbrev pub without_abandoned : List WaitingView → List WaitingView → Asking → Asking
without_abandoned old new asking = record asking {
  tickets = filter (λ ticket. not (is_abandoned old new ticket.sent.id)) asking.tickets;
}

-- What is left of the questions that are out, where the first requests waited and the second wait
-- now. One that a request waited for and that none waits for any more is closed, over datagrams and
-- over streams. Each other one is as it was.
abbrev pub questions_left : List WaitingView → List WaitingView → QuestionsView → QuestionsView
questions_left old new it = record {
  datagrams = without_abandoned old new it.datagrams;
  streams = without_abandoned old new it.streams;
}
