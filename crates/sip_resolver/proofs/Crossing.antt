-- That a resolver may go to another thread. The steps are those of its fields, each at the row that it has as a field, since
-- one search through all of them ends at its bounds.
use denote.RattleType.{RattleType}
use denote.Param.Send.{IsSend, IsSync, sendable}
use Rattle.std.proofs.Crossing.{Vec-send, crosses}
use Rattle.std.proofs.MapsCrossing as maps
use Rattle.dns_answers.specs.contracts.answer.Answer as Answer
use Rattle.dns_message.specs.contracts.question.Question as Question
use Rattle.dns_name.specs.contracts.name.Name as Name
use Rattle.dns_queries.proofs.Crossing.{asker_send}
use Rattle.sip_locator.specs.contracts.locator.Locator as Locator
use Rattle.sip_selection.specs.contracts.caps.Caps as Caps
use Rattle.sip_selection.specs.contracts.held_words.HeldWords as HeldWords
use Rattle.sip_selection.specs.contracts.known.Known as Known
use Rattle.sip_selection.specs.contracts.request.Request as Request
use Rattle.sip_selection.specs.contracts.selection.Selection as Selection
use Rattle.sip_selection.specs.contracts.stage.Candidates as Candidates
use Rattle.sip_selection.specs.contracts.stage.Listing as Listing
use Rattle.sip_selection.specs.contracts.stage.ServiceStage as ServiceStage
use Rattle.sip_selection.specs.contracts.stage.Stage as Stage
use Rattle.sip_selection.specs.contracts.stage.Step as Step
use Rattle.sip_selection.specs.contracts.target.Target as Target
use Rattle.sip_uri.specs.contracts.host.Host as Host
use Rattle.sip_resolver.specs.contracts.number_filter.NumberFilter as NumberFilter
use Rattle.sip_resolver.specs.contracts.outcome.Outcome as Outcome
use Rattle.sip_resolver.specs.contracts.outcome.Resolved as Resolved
use Rattle.sip_resolver.specs.contracts.outcome.TargetList as TargetList
use Rattle.sip_resolver.specs.contracts.question_table.QuestionTable as QuestionTable
use Rattle.sip_resolver.specs.contracts.questions.Questions as Questions
use Rattle.sip_resolver.specs.contracts.ready.Ready as Ready
use Rattle.sip_resolver.specs.contracts.requests.Requests as Requests
use Rattle.sip_resolver.specs.contracts.resolver.Resolver as Resolver
use Rattle.sip_resolver.specs.contracts.submitted.Submitted as Submitted
use Rattle.sip_resolver.specs.contracts.submitted.SubmittedWords as SubmittedWords
use Rattle.sip_resolver.specs.contracts.task.Task as Task
use Rattle.sip_resolver.specs.contracts.waiting_queue.WaitingQueue as WaitingQueue
use Rattle.sip_resolver.specs.contracts.waiting_slots.Slot as Slot
use Rattle.sip_resolver.specs.contracts.waiting_slots.WaitingSlots as WaitingSlots

-- ---- names, and what has them

pub name_send : IsSend (Name.the_field).row
name_send = search (sendable, crosses) depth 100 fits 100000

name_sync : IsSync (Name.the_field).row
name_sync = search (sendable, crosses) depth 100 fits 100000

host_send : IsSend (Host.the_field).row
host_send = search (sendable, name_send) depth 40

question_send : IsSend (Question.the_field).row
question_send = search (sendable, name_send) depth 40

pub answer_send : IsSend (Answer.the_field).row
answer_send = search (sendable, crosses, name_send) depth 100 fits 100000

pub answer_sync : IsSync (Answer.the_field).row
answer_sync = search (sendable, crosses, name_sync) depth 100 fits 100000

-- ---- a choice

request_send : IsSend (Request.the_field).row
request_send = search (sendable, crosses, host_send) depth 100 fits 100000

caps_send : IsSend (Caps.the_field).row
caps_send = search sendable depth 40

target_send : IsSend (Target.the_field).row
target_send = search sendable depth 40

words_send : IsSend (HeldWords.the_field).row
words_send = search (sendable, crosses) depth 100 fits 100000

known_send : IsSend (Known.the_field).row
known_send = search (sendable, crosses, answer_send, answer_sync, name_send) depth 100 fits 100000

listing_send : IsSend (Listing.the_field).row
listing_send = search (sendable, crosses, answer_send, answer_sync) depth 100 fits 100000

listing_sync : IsSync (Listing.the_field).row
listing_sync = search (sendable, crosses, answer_send, answer_sync) depth 100 fits 100000

candidates_send : IsSend (Candidates.the_field).row
candidates_send = search (sendable, crosses, name_send) depth 100 fits 100000

candidates_sync : IsSync (Candidates.the_field).row
candidates_sync = search (sendable, crosses, name_sync) depth 100 fits 100000

service_send : IsSend (ServiceStage.the_field).row
service_send = search (sendable, crosses, listing_send, listing_sync) depth 100 fits 100000

stage_send : IsSend (Stage.the_field).row
stage_send = search (sendable, crosses, candidates_send, candidates_sync, service_send) depth 100 fits 100000

step_send : IsSend (Step.the_field).row
step_send = search (sendable, crosses, stage_send, question_send) depth 100 fits 100000

selection_send : IsSend (Selection.the_field).row
selection_send = search (
  sendable,
  Vec-send,
  request_send,
  caps_send,
  words_send,
  target_send,
  known_send,
  step_send,
) depth 100 fits 100000

-- ---- questions

table_send : IsSend (QuestionTable.the_field).row
table_send = search (sendable, crosses, maps.crosses, question_send) depth 100 fits 100000

questions_send : IsSend (Questions.the_field).row
questions_send = search (sendable, asker_send, table_send) depth 40

-- ---- requests

numbers_send : IsSend (NumberFilter.the_field).row
numbers_send = search (sendable, Vec-send) depth 40

list_send : IsSend (TargetList.the_field).row
list_send = search (sendable, Vec-send, target_send, host_send) depth 40

outcome_send : IsSend (Outcome.the_field).row
outcome_send = search (sendable, list_send, question_send) depth 40

submitted_words_send : IsSend (SubmittedWords.the_field).row
submitted_words_send = search (sendable, crosses) depth 100 fits 100000

submitted_send : IsSend (Submitted.the_field).row
submitted_send = search (sendable, request_send, caps_send, submitted_words_send) depth 40

module _ (B : RattleType) (b : IsSend B) where
  locator_send : IsSend (Locator.the_field B).row
  locator_send = search (sendable, crosses, selection_send) depth 40

  task_send : IsSend (Task.the_field B).row
  task_send = search (sendable, crosses, locator_send, submitted_send) depth 100 fits 100000

  ready_send : IsSend (Ready.the_field B).row
  ready_send = search (sendable, crosses, submitted_send, task_send) depth 100 fits 100000

  pub resolved_send : IsSend (Resolved.the_field B).row
  resolved_send = search (sendable, crosses, outcome_send) depth 40

  slot_send : IsSend (Slot.the_field B).row
  slot_send = search (sendable, task_send) depth 40

  slots_send : IsSend (WaitingSlots.the_field B).row
  slots_send = search (sendable, crosses, slot_send) depth 100 fits 100000

  waiting_send : IsSend (WaitingQueue.the_field B).row
  waiting_send = search (sendable, slots_send) depth 40

  requests_send : IsSend (Requests.the_field B).row
  requests_send = search (
    sendable,
    crosses,
    ready_send,
    task_send,
    waiting_send,
    resolved_send,
    numbers_send,
  ) depth 100 fits 100000

  pub resolver_send : (F I : RattleType) → IsSend F → IsSend I → IsSend (Resolver.the_row B F I)
  resolver_send F I f i = search (sendable, crosses, questions_send, requests_send) depth 100 fits 100000
