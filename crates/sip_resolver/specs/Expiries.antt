-- Which requests end because their time is over, and what is left.
use Rattle.std.specs.Prelude.{◌≡◌, ⊤, ℕ, nat_le, Bool, true, false, not, List, ◌++◌, Option, Some, None}
use Rattle.std.specs.List.{All, filter, filter_map}
use Rattle.sip_selection.specs.Choice.{need}
use Rattle.sip_selection.specs.Selections.{now_of}
use Rattle.sip_resolver.specs.Outcomes.{Ended}
use Rattle.sip_resolver.specs.Questions.{QuestionsView, deadlines_of}
use Rattle.sip_resolver.specs.Requests.{RequestsView, requests_of}
use Rattle.sip_resolver.specs.Tasks.{TaskView, WaitingView}
use Rattle.sip_resolver.specs.declared.outcome.Outcome.{Outcome}
use Rattle.sip_resolver.specs.declared.outcome.Outcome.TheVariants.{Targets, Refused, NoAnswer, NoServer, BadReply, Memory}

-- ---- the moment by which a request ends

-- the moment by which a request ends has come; one without such a moment has time for ever
abbrev pub is_expired : ℕ → Option ℕ → Bool
is_expired now None = false
is_expired now (Some until) = nat_le until now

-- a request has time left
abbrev pub has_time : ℕ → TaskView → Bool
has_time now task = not (is_expired now task.until)

-- a request that waits has time left
abbrev pub waits_in_time : ℕ → WaitingView → Bool
waits_in_time now waiting = has_time now waiting.task

-- each request inside that has not ended has time left
pub record HaveTime (now : ℕ) (it : RequestsView) : Type 0 where
  pub ready : All (λ task. has_time now task ≡ true) it.ready
  pub held : All (λ task. has_time now task ≡ true) it.held
  pub waiting : All (λ waiting. waits_in_time now waiting ≡ true) it.waiting

-- ---- how a request ends without an answer

-- a request ends without the answer that it needs, or for want of memory
abbrev pub IsUnanswered : TaskView → Outcome → Type 0
IsUnanswered task (Targets list) = ⊥
IsUnanswered task (Refused reason) = ⊥
IsUnanswered task (NoAnswer question) = now_of task.selection ≡ need question
IsUnanswered task (NoServer question) = ⊥
IsUnanswered task (BadReply question refusal) = ⊥
IsUnanswered task Memory = ⊤

-- ---- what is left

-- an end by the choice, or for want of an answer or of memory
abbrev pub IsWithoutReply : Outcome → Type 0
IsWithoutReply (Targets list) = ⊤
IsWithoutReply (Refused reason) = ⊤
IsWithoutReply (NoAnswer question) = ⊤
IsWithoutReply (NoServer question) = ⊥
IsWithoutReply (BadReply question refusal) = ⊥
IsWithoutReply Memory = ⊤

-- the time of a request was over as it ended, by its choice or without an answer
pub record IsLate (now : ℕ) (ended : Ended) : Type 0 where
  pub over : is_expired now ended.sought.until ≡ true
  pub outcome : IsWithoutReply ended.outcome

-- the requests that had ended, and after them more, whose time was over
pub record EndsLate (now : ℕ) (old new : List Ended) : Type 0 where
  pub more : List Ended
  pub after : new ≡ old ++ more
  pub are : All (IsLate now) more

-- The requests whose time is over have ended. Those with time left are as they were, each in its
-- place and in its order.
pub record AreExpired (now : ℕ) (old new : RequestsView) : Type 0 where
  pub ends : EndsLate now old.ended new.ended
  pub others : new ≡ requests_of (filter (has_time now) old.ready) (filter (has_time now) old.held)
      (filter (waits_in_time now) old.waiting) new.ended old.limit

-- ---- when to come again

-- the moments by which the requests inside end that have not ended
abbrev pub untils_of : RequestsView → List ℕ
untils_of it =
    filter_map (λ task. task.until) it.ready ++ filter_map (λ task. task.until) it.held
    ++ filter_map (λ waiting. waiting.task.until) it.waiting

-- the deadlines of the questions that are out, and the moments by which requests end
abbrev pub timeouts_of : RequestsView → QuestionsView → List ℕ
timeouts_of requests questions = deadlines_of questions ++ untils_of requests
