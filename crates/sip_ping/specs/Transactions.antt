-- How far a transaction has come: words of private contracts alone.
use Rattle.std.specs.Prelude.{ℕ, List, Option, Some, None}
use Rattle.sip_ping.specs.Datagrams.{Asks, Course, Ends, IsInTime}
use Rattle.sip_ping.specs.Flows.{Event, failed}
use Rattle.sip_ping.specs.declared.answer.Answer.{Answer}
use Rattle.sip_ping.specs.declared.sending.Sending.{Sending}
use Rattle.sip_ping.specs.declared.flow.Fault.{Fault}
use Rattle.sip_ping.specs.declared.timer.Timer.{Timer}

-- where a transaction stands that was sent at these times
abbrev pub course_of : Timer → ℕ → List ℕ → Course
course_of timer time times =
    record { wait = timer.wait; due = timer.due; time = time; sends = times }

-- a transaction has come so far that Timer E stands so, and the clock showed this time last
abbrev pub AsksAt : {Flow : Type 0} → (Flow → Event → Flow → Type 0) → Sending → Flow → Timer → ℕ
    → Flow → Type 0
AsksAt does sending first timer time flow =
    (times : List ℕ)
    × Asks does sending.request.now sending.deadline first (course_of timer time times) flow

-- it has come so far, and then its flow failed
pub record FailsWith {Flow : Type 0} (does : Flow → Event → Flow → Type 0) (sending : Sending)
    (first : Flow) (fault : Fault) (flow : Flow) : Type 0 where
  pub course : Course
  pub before : Flow
  pub asks : Asks does sending.request.now sending.deadline first course before
  pub fails : does before (failed fault) flow

-- it ended with this answer
abbrev pub EndsWith : {Flow : Type 0} → (Flow → Event → Flow → Type 0) → Sending → Flow → Answer
    → Flow → Type 0
EndsWith does sending first answer flow =
    (times : List ℕ) × Ends does sending.request.now sending.deadline first times answer flow

-- it ended with this answer, or goes on
abbrev pub GoesOn : {Flow : Type 0} → (Flow → Event → Flow → Type 0) → Sending → Flow
    → Option Answer → Timer → Flow → Type 0
GoesOn does sending first None timer flow = (time : ℕ) × AsksAt does sending first timer time flow
GoesOn does sending first (Some answer) timer flow = EndsWith does sending first answer flow

-- a wait of so many milliseconds at most from a time on is short enough
abbrev pub IsShort : Sending → Timer → ℕ → ℕ → Type 0
IsShort sending timer time most = IsInTime sending.deadline timer.due time most
