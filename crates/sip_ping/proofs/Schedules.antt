-- Requests are sent on schedule.
use Rattle.std.proofs.Common.{◌≡◌, ℕ, zero, suc, ◌≤◌, List, length, sym, arith}
use Rattle.sip_options.specs.declared.request.OptionsRequest.{OptionsRequest}
use Rattle.sip_ping.specs.Flows.{Event}
use Rattle.sip_ping.specs.Timers.{AreScheduled, next_wait, send_time, t2, wait_after}
use Rattle.sip_ping.specs.Datagrams.{Asks, Course, Ends, Pings, begins, looks, sends, waits, slows, passes, replied, silent, refused}
use Rattle.sip_ping.specs.declared.answer.Answer.{Answer}

short : (count : ℕ) → wait_after count ≤ t2
short zero = omega arith
short (suc count) = omega arith

longer : (a b : ℕ) → a ≤ b → next_wait a ≤ next_wait b
longer a b less = omega (arith, less)

-- a transaction is not ahead of the schedule
record IsOnTime (deadline : ℕ) (course : Course) : Type 0 where
  are : AreScheduled deadline course.sends
  wait : wait_after (length course.sends) ≤ course.wait
  due : send_time (length course.sends) ≤ course.due

module _ {Flow : Type 0} (does : Flow → Event → Flow → Type 0) (request : OptionsRequest) (deadline : ℕ) (first : Flow) where
  on_time : (course : Course) (flow : Flow) → Asks does request deadline first course flow → IsOnTime deadline course
  on_time course flow begins = record { are = record { late = tt; few = tt }; wait = omega arith; due = omega arith }
  on_time course flow (looks old time before after asks did) =
      let so-far = on_time old before asks in
      record { are = so-far.are; wait = so-far.wait; due = so-far.due }
  on_time course flow (sends old before after asks fires early did) =
      let so-far = on_time old before asks in
      let late = so-far.due in
      let waits' = so-far.wait in
      record {
        are = record {
          late = (omega (arith, late, fires), so-far.are.late);
          few = (omega (arith, late, fires, early), so-far.are.few);
        };
        wait = longer _ _ so-far.wait;
        due = omega (arith, late, fires, waits');
      }
  on_time course flow (waits old most before after asks within did) = on_time old before asks
  on_time course flow (slows old most octets before after asks within did is) =
      let so-far = on_time old before asks in
      record { are = so-far.are; wait = short _; due = so-far.due }
  on_time course flow (passes old most octets before after asks within did is) = on_time old before asks

  pub ended : (times : List ℕ) (answer : Answer) (flow : Flow) → Ends does request deadline first times answer flow
      → AreScheduled deadline times
  ended times answer flow (replied course most status time octets before between after asks within did is then) =
      (on_time course before asks).are
  ended times answer flow (silent course time before after asks did late) = (on_time course before asks).are
  ended times answer flow (refused course before after asks did) = (on_time course before asks).are

  pub pings : (answer : Answer) (flow : Flow) (same : ℕ) → deadline ≡ same
      → ((times : List ℕ) × Ends does request deadline first times answer flow) → Pings does request same first answer flow
  pings answer flow same is it =
      let back = sym is in
      rw back (record { times = it.0; ends = it.1; scheduled = ended it.0 answer flow it.1 })
