-- A transaction goes on by one call of its flow.
use Rattle.std.proofs.Common.{◌≡◌, ℕ, ◌+◌, ◌≤◌, ◌<◌, List, [], ◌∷◌, Option, Some, None, sym, Result, Ok, Err, IfOk}
use Rattle.sip_options.specs.Requests.{request_text}
use Rattle.sip_options.specs.declared.request.OptionsRequest.{OptionsRequest}
use Rattle.sip_ping.specs.Flows.{Event, looked, sent, came, nothing, failed}
use Rattle.sip_ping.specs.Timers.{next_wait, t1, t2}
use Rattle.sip_ping.specs.Datagrams.{IsFinal, IsHeard, IsOther, IsProvisional, begins, looks, sends, waits, slows, passes, replied, silent, refused}
use Rattle.sip_ping.specs.Transactions.{AsksAt, EndsWith, FailsWith, GoesOn, IsShort}
use Rattle.sip_ping.specs.declared.answer.Answer.{Answer}
use Rattle.sip_ping.specs.declared.answer.Answer.TheVariants.{Replied, Silent, Refused}
use Rattle.sip_ping.specs.declared.sending.Sending.{Sending}
use Rattle.sip_ping.specs.declared.flow.Fault.{Fault}
use Rattle.sip_ping.specs.declared.flow.Fault.TheVariants.{Closed}
use Rattle.sip_ping.specs.declared.heard.Heard.{Heard}
use Rattle.sip_ping.specs.declared.heard.Heard.TheVariants.{Other}
use Rattle.sip_ping.specs.declared.timer.Timer.{Timer}

pub map_ok : {A E : Type 0} (r : Result A E) (P Q : A → Type 0) → IfOk r P → ((x : A) → P x → Q x) → IfOk r Q
map_ok (Ok x) P Q p then = then x p
map_ok (Err e) P Q p then = tt

pub closed_as : {E : Type 0} (r : Result (Option Answer) E) (fault : Fault) (P : Option Answer → Type 0)
    → IfOk r (λ it. fault ≡ Closed) → IfOk r (λ it. it ≡ Some Refused) → (fault ≡ Closed → P (Some Refused)) → IfOk r P
closed_as (Ok it) fault P closed is then = rw is (then closed)
closed_as (Err e) fault P closed is then = tt

pub heard_other : (request : OptionsRequest) (octets octets' : List ℕ) (heard : Heard) → heard ≡ Other → octets ≡ octets'
    → IsHeard request octets heard → IsOther request octets'
heard_other request octets octets' heard is same it = λ status answers.
    let back = sym same in
    (rw is at it) status (rw back at answers)

module _ {Flow : Type 0} (does : Flow → Event → Flow → Type 0) (sending : Sending) (first : Flow) where
  pub looked_on : (timer : Timer) (old time : ℕ) (before after : Flow) → AsksAt does sending first timer old before
      → does before (looked time) after → AsksAt does sending first timer time after
  looked_on timer old time before after asks did = (asks.0, looks _ time before after asks.1 did)

  pub sent_on : (timer timer' : Timer) (now : ℕ) (before after : Flow) → AsksAt does sending first timer now before
      → timer.due ≤ now → now < sending.deadline → does before (sent (request_text sending.request.now)) after
      → timer'.wait ≡ next_wait timer.wait → timer'.due ≡ now + timer.wait → AsksAt does sending first timer' now after
  sent_on timer timer' now before after asks fires early did same same' =
      rw (same, same') (now ∷ asks.0, sends _ before after asks.1 fires early did)

  pub waited_on : (timer : Timer) (time most : ℕ) (before after : Flow) → AsksAt does sending first timer time before
      → IsShort sending timer time most → does before (nothing most) after → AsksAt does sending first timer time after
  waited_on timer time most before after asks within did = (asks.0, waits _ most before after asks.1 within did)

  pub slowed_on : (timer timer' : Timer) (time most : ℕ) (octets : List ℕ) (before after : Flow)
      → AsksAt does sending first timer time before → IsShort sending timer time most → does before (came most octets) after
      → IsProvisional sending.request.now octets → timer'.due ≡ timer.due → timer'.wait ≡ t2
      → AsksAt does sending first timer' time after
  slowed_on timer timer' time most octets before after asks within did is same same' =
      rw (same, same') (asks.0, slows _ most octets before after asks.1 within did is)

  pub passed_on : (timer : Timer) (time most : ℕ) (octets : List ℕ) (before after : Flow)
      → AsksAt does sending first timer time before → IsShort sending timer time most → does before (came most octets) after
      → IsOther sending.request.now octets → AsksAt does sending first timer time after
  passed_on timer time most octets before after asks within did is =
      (asks.0, passes _ most octets before after asks.1 within did is)

  pub replied_at : (timer : Timer) (time most status after' : ℕ) (octets : List ℕ) (before between after : Flow)
      → AsksAt does sending first timer time before → IsShort sending timer time most → does before (came most octets) between
      → IsFinal sending.request.now octets status → does between (looked after') after
      → EndsWith does sending first (Replied (record { status = status; after = after' })) after
  replied_at timer time most status after' octets before between after asks within did is then =
      (asks.0, replied _ most status after' octets before between after asks.1 within did is then)

  pub silent_at : (timer : Timer) (old time : ℕ) (before after : Flow) → AsksAt does sending first timer old before
      → does before (looked time) after → sending.deadline ≤ time → EndsWith does sending first Silent after
  silent_at timer old time before after asks did late = (asks.0, silent _ time before after asks.1 did late)

  pub fails_at : (timer : Timer) (time : ℕ) (fault : Fault) (before after : Flow) → AsksAt does sending first timer time before
      → does before (failed fault) after → FailsWith does sending first fault after
  fails_at timer time fault before after asks did = record { course = _; before = before; asks = asks.1; fails = did }

  pub refused_at : (flow : Flow) (fault : Fault) → fault ≡ Closed → FailsWith does sending first fault flow
      → EndsWith does sending first Refused flow
  refused_at flow fault is fails =
      let did = fails.fails in
      (fails.course.sends, refused fails.course fails.before flow fails.asks (rw is at did))

  pub ended_at : (it : Option Answer) (answer : Answer) (timer : Timer) (flow : Flow) → it ≡ Some answer
      → GoesOn does sending first it timer flow → EndsWith does sending first answer flow
  ended_at it answer timer flow is goes = rw is at goes

  pub goes_on : (it : Option Answer) (timer : Timer) (flow : Flow) → it ≡ None → GoesOn does sending first it timer flow
      → (time : ℕ) × AsksAt does sending first timer time flow
  goes_on it timer flow is goes = rw is at goes

  pub begins_at : (timer : Timer) → timer.due ≡ 0 → timer.wait ≡ t1 → (time : ℕ) × AsksAt does sending first timer time first
  begins_at timer same same' = rw (same, same') (0, ([], begins))
