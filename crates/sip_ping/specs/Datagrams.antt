-- An OPTIONS request over UDP, and what becomes of it (RFC 3261 17.1.2.2).
use Rattle.std.specs.Prelude.{ℕ, ◌+◌, ◌≤◌, ◌<◌, List, [], ◌∷◌}
use Rattle.sip_options.specs.Replies.{IsReply}
use Rattle.sip_options.specs.Requests.{request_text}
use Rattle.sip_options.specs.declared.request.OptionsRequest.{OptionsRequest}
use Rattle.sip_ping.specs.Flows.{Event, looked, sent, came, nothing, failed}
use Rattle.sip_ping.specs.Timers.{AreScheduled, next_wait, t1, t2}
use Rattle.sip_ping.specs.declared.answer.Answer.{Answer}
use Rattle.sip_ping.specs.declared.answer.Answer.TheVariants.{Replied, Silent, Refused}
use Rattle.sip_ping.specs.declared.heard.Heard.{Heard}
use Rattle.sip_ping.specs.declared.heard.Heard.TheVariants.{Final, Provisional, Other}
use Rattle.sip_ping.specs.declared.flow.Fault.TheVariants.{Closed}

-- octets are a reply with this status to the request
abbrev pub Answers : OptionsRequest → List ℕ → ℕ → Type 0
Answers request octets status = IsReply request.branch request.call_id octets status

-- octets are a final reply with this status to the request
pub record IsFinal (request : OptionsRequest) (octets : List ℕ) (status : ℕ) : Type 0 where
  pub is : Answers request octets status
  pub final : 200 ≤ status

-- octets are a provisional reply to the request
pub record IsProvisional (request : OptionsRequest) (octets : List ℕ) : Type 0 where
  pub status : ℕ
  pub is : Answers request octets status
  pub provisional : status < 200

-- octets are no reply to the request
abbrev pub IsOther : OptionsRequest → List ℕ → Type 0
IsOther request octets = (status : ℕ) → Answers request octets status → ⊥

-- what octets are that came
abbrev pub IsHeard : OptionsRequest → List ℕ → Heard → Type 0
IsHeard request octets (Final status) = IsFinal request octets status
IsHeard request octets Provisional = IsProvisional request octets
IsHeard request octets Other = IsOther request octets

-- a transaction, as far as it has come
pub record Course : Type 0 where
  -- what Timer E is set to next
  pub wait : ℕ
  -- when Timer E fires, and the request is sent
  pub due : ℕ
  -- the time that the clock showed last
  pub time : ℕ
  -- the times of the sends, the latest first
  pub sends : List ℕ

-- nothing was sent, and the request is due
abbrev pub start : Course
start = record { wait = t1; due = 0; time = 0; sends = [] }

-- the request is sent, and Timer E is set
abbrev pub sent_now : Course → Course
sent_now course = record {
  wait = next_wait course.wait;
  due = course.time + course.wait;
  time = course.time;
  sends = course.time ∷ course.sends;
}

-- a wait of so many milliseconds at most, from a time on, is over when Timer E fires, and at the
-- deadline
pub record IsInTime (deadline due time most : ℕ) : Type 0 where
  pub before_due : time + most ≤ due
  pub before_deadline : time + most ≤ deadline

-- A flow goes from one state to another by what its calls do: it sends the request, and again each
-- time that Timer E fires before the deadline, and waits in between. After a provisional reply
-- Timer E is set to the longest wait each time. What is no reply to the request changes nothing.
pub data Asks {Flow : Type 0} (does : Flow → Event → Flow → Type 0) (request : OptionsRequest)
    (deadline : ℕ) (first : Flow) : Course → Flow → Type 0 where
  begins : Asks does request deadline first start first
  looks : (course : Course) (time : ℕ) (before after : Flow)
      → Asks does request deadline first course before → does before (looked time) after
      → Asks does request deadline first (record course { time = time }) after
  sends : (course : Course) (before after : Flow)
      → Asks does request deadline first course before
      → course.due ≤ course.time → course.time < deadline
      → does before (sent (request_text request)) after
      → Asks does request deadline first (sent_now course) after
  waits : (course : Course) (most : ℕ) (before after : Flow)
      → Asks does request deadline first course before
      → IsInTime deadline course.due course.time most
      → does before (nothing most) after
      → Asks does request deadline first course after
  slows : (course : Course) (most : ℕ) (octets : List ℕ) (before after : Flow)
      → Asks does request deadline first course before
      → IsInTime deadline course.due course.time most
      → does before (came most octets) after → IsProvisional request octets
      → Asks does request deadline first (record course { wait = t2 }) after
  passes : (course : Course) (most : ℕ) (octets : List ℕ) (before after : Flow)
      → Asks does request deadline first course before
      → IsInTime deadline course.due course.time most
      → does before (came most octets) after → IsOther request octets
      → Asks does request deadline first course after

-- What became of the request after sends at these times: a final reply came, and the clock then
-- showed this time; or the clock showed the deadline, or a later time; or the flow failed.
pub data Ends {Flow : Type 0} (does : Flow → Event → Flow → Type 0) (request : OptionsRequest)
    (deadline : ℕ) (first : Flow) : List ℕ → Answer → Flow → Type 0 where
  replied : (course : Course) (most status time : ℕ) (octets : List ℕ)
      (before between after : Flow)
      → Asks does request deadline first course before
      → IsInTime deadline course.due course.time most
      → does before (came most octets) between → IsFinal request octets status
      → does between (looked time) after
      → Ends does request deadline first course.sends
      (Replied (record { status = status; after = time })) after
  silent : (course : Course) (time : ℕ) (before after : Flow)
      → Asks does request deadline first course before → does before (looked time) after
      → deadline ≤ time
      → Ends does request deadline first course.sends Silent after
  refused : (course : Course) (before after : Flow)
      → Asks does request deadline first course before → does before (failed Closed) after
      → Ends does request deadline first course.sends Refused after

-- What became of the request, which was sent on schedule.
pub record Pings {Flow : Type 0} (does : Flow → Event → Flow → Type 0) (request : OptionsRequest)
    (deadline : ℕ) (first : Flow) (answer : Answer) (last : Flow) : Type 0 where
  pub times : List ℕ
  pub ends : Ends does request deadline first times answer last
  pub scheduled : AreScheduled deadline times
