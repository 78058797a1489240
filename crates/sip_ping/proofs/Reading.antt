-- The reading of a connection goes on by one call of its flow.
use Rattle.std.proofs.Common.{◌≡◌, ◌⊎◌, ℕ, ◌+◌, ◌-◌, ◌≤◌, ◌<◌, List, [], ◌++◌, length, take, drop, Option, Some, None, Result, Err, sym, subst, inl, inr, arith}
use Rattle.std.specs.Borrow.{Bor}
use Rattle.std.proofs.lemmas.List.{take-append-drop, length-take-le, length-drop, take_all}
use Rattle.sip_options.specs.Frames.{HasBadLength, IsFrame, IsTooLong}
use Rattle.sip_options.specs.Requests.{request_text}
use Rattle.sip_options.specs.declared.frames.FrameRefusal.{FrameRefusal}
use Rattle.sip_options.specs.declared.frames.FrameRefusal.TheVariants.{BadLength, TooLong}
use Rattle.sip_options.specs.declared.request.OptionsRequest.{OptionsRequest}
use Rattle.sip_ping.specs.Datagrams.{IsFinal}
use Rattle.sip_ping.specs.Flows.{Event, looked, sent, came, nothing, failed}
use Rattle.sip_ping.specs.Messages.{BeginsFinal, BeginsPassed, GoesOn, IsFront, ReadsAt}
use Rattle.sip_ping.specs.Streams.{BeginsWith, Ends, IsBehind, IsPart, IsPassed, IsUnreadable, sends, looks, waits, reads, passes, replied, unsent, silent, not_sent, closed, unreadable}
use Rattle.sip_ping.specs.declared.answer.Answer.{Answer}
use Rattle.sip_ping.specs.declared.answer.Answer.TheVariants.{Replied, Silent, Refused}
use Rattle.sip_ping.specs.declared.answer.Answer.TheVariants.{Unreadable as Garbled}
use Rattle.sip_ping.specs.declared.flow.Fault.{Fault}
use Rattle.sip_ping.specs.declared.flow.Fault.TheVariants.{Closed}
use Rattle.sip_ping.specs.declared.messages.Front.{Front}
use Rattle.sip_ping.specs.declared.messages.Front.TheVariants.{Final, Passed, Part, Unreadable}
use Rattle.sip_ping.specs.declared.sending.Sending.{Sending}

-- ---- what stands in front

module _ (all octets : List ℕ) (size : ℕ) (behind : IsBehind all octets) (frame : IsFrame octets size) where
  pub begins_with : BeginsWith all (take size octets) (drop size octets)
  begins_with =
      let joined : octets ≡ take size octets ++ drop size octets = sym (take-append-drop size octets) in
      let same : size ≡ length (take size octets) = sym (length-take-le size octets frame.whole) in
      let parts : IsFrame (take size octets ++ drop size octets) size = subst (λ it. IsFrame it size) joined frame in
      record { behind = subst (IsBehind all) joined behind; frame = subst (IsFrame (take size octets ++ drop size octets)) same parts }

  rest_is : take (length octets - size) (drop size octets) ≡ drop size octets
  rest_is = take_all (length octets - size) (drop size octets) (omega (arith, length-drop size octets))

  pub final_in : (request : OptionsRequest) (status : ℕ) → IsFinal request (take size octets) status
      → BeginsFinal request all status
  final_in request status is = record { message = take size octets; rest = drop size octets; begins = begins_with; final = is }

  pub passed_in : (request : OptionsRequest) → IsPassed request (take size octets)
      → BeginsPassed request all (take (length octets - size) (drop size octets))
  passed_in request is =
      subst (BeginsPassed request all) (sym rest_is) (record { message = take size octets; begins = begins_with; passed = is })

pub unreadable_as : (refusal : FrameRefusal) (rest : List ℕ) (r : Result (Option ℕ) FrameRefusal) → r ≡ Err refusal
    → (r ≡ Err BadLength → HasBadLength rest) → (r ≡ Err TooLong → IsTooLong rest) → HasBadLength rest ⊎ IsTooLong rest
unreadable_as TooLong rest r is bad long = inr (long is)
unreadable_as BadLength rest r is bad long = inl (bad is)

module _ (request : OptionsRequest) (octets all : List ℕ) (front : Front) (same : octets ≡ all) (is : IsFront request octets front) where
  pub final_front : (status : ℕ) → front ≡ Final status → BeginsFinal request all status
  final_front status e = subst (λ it. BeginsFinal request it status) same (subst (IsFront request octets) e is)

  pub passed_front : (rest : Bor (List ℕ)) (kept : List ℕ) → front ≡ Passed rest → kept ≡ rest.now → BeginsPassed request all kept
  passed_front rest kept e e' =
      subst (BeginsPassed request all) (sym e')
      (subst (λ it. BeginsPassed request it rest.now) same (subst (IsFront request octets) e is))

  pub part_front : (rest : Bor (List ℕ)) (kept : List ℕ) → front ≡ Part rest → kept ≡ rest.now → IsPart all kept
  part_front rest kept e e' =
      subst (IsPart all) (sym e') (subst (λ it. IsPart it rest.now) same (subst (IsFront request octets) e is))

  pub unreadable_front : front ≡ Unreadable → IsUnreadable all
  unreadable_front e = subst IsUnreadable same (subst (IsFront request octets) e is)

-- ---- one call

module _ {Flow : Type 0} (does : Flow → Event → Flow → Type 0) (sending : Sending) (first : Flow) where
  pub refused_before : (time : ℕ) (fault : Fault) (before after : Flow) → does first (looked time) before
      → fault ≡ Closed → does before (failed fault) after → Ends does sending.request.now sending.deadline first Refused after
  refused_before time fault before after early is did = not_sent time before after early (rw is at did)

  pub refused_then : (kept : List ℕ) (time : ℕ) (fault : Fault) (before after : Flow) → ReadsAt does sending first kept time before
      → fault ≡ Closed → does before (failed fault) after → Ends does sending.request.now sending.deadline first Refused after
  refused_then kept time fault before after asks is did = closed kept time before after asks (rw is at did)

  pub unsent_at : (time : ℕ) (last : Flow) → does first (looked time) last → sending.deadline ≤ time
      → Ends does sending.request.now sending.deadline first Silent last
  unsent_at time last did late = unsent time last did late

  pub sent_at : (time : ℕ) (before after : Flow) → does first (looked time) before → time < sending.deadline
      → does before (sent (request_text sending.request.now)) after → ReadsAt does sending first [] time after
  sent_at time before after early within did = sends time before after early within did

  pub looked_at : (kept : List ℕ) (old time : ℕ) (before after : Flow) → ReadsAt does sending first kept old before
      → does before (looked time) after → ReadsAt does sending first kept time after
  looked_at kept old time before after asks did = looks kept old time before after asks did

  pub silent_then : (kept : List ℕ) (time : ℕ) (last : Flow) → ReadsAt does sending first kept time last
      → sending.deadline ≤ time → Ends does sending.request.now sending.deadline first Silent last
  silent_then kept time last asks late = silent kept time last asks late

  pub replied_then : (kept : List ℕ) (time status : ℕ) (last : Flow) → ReadsAt does sending first kept time last
      → BeginsFinal sending.request.now kept status
      → Ends does sending.request.now sending.deadline first (Replied (record { status = status; after = time })) last
  replied_then kept time status last asks is = replied kept is.message is.rest time status last asks is.begins is.final

  pub passed_then : (kept rest : List ℕ) (time : ℕ) (last : Flow) → ReadsAt does sending first kept time last
      → BeginsPassed sending.request.now kept rest → ReadsAt does sending first rest time last
  passed_then kept rest time last asks is = passes kept is.message rest time last asks is.begins is.passed

  pub unreadable_then : (kept : List ℕ) (time : ℕ) (last : Flow) → ReadsAt does sending first kept time last
      → IsUnreadable kept → Ends does sending.request.now sending.deadline first Garbled last
  unreadable_then kept time last asks is = unreadable kept time last asks is

  pub waited_then : (kept part : List ℕ) (time most : ℕ) (before after : Flow) → ReadsAt does sending first kept time before
      → IsPart kept part → time + most ≤ sending.deadline → does before (nothing most) after
      → ReadsAt does sending first part time after
  waited_then kept part time most before after asks is within did = waits kept part time most before after asks is within did

  pub read_then : (kept part octets both : List ℕ) (time most : ℕ) (before after : Flow)
      → ReadsAt does sending first kept time before → IsPart kept part → time + most ≤ sending.deadline
      → does before (came most octets) after → both ≡ part ++ octets → ReadsAt does sending first both time after
  read_then kept part octets both time most before after asks is within did e =
      rw e (reads kept part octets time most before after asks is within did)

  pub ended_then : (it : Option Answer) (answer : Answer) (kept : List ℕ) (flow : Flow) (deadline : ℕ) → it ≡ Some answer
      → sending.deadline ≡ deadline → GoesOn does sending first it kept flow
      → Ends does sending.request.now deadline first answer flow
  ended_then it answer kept flow deadline is same goes =
      let ends : Ends does sending.request.now sending.deadline first answer flow = rw is at goes in
      subst (λ d. Ends does sending.request.now d first answer flow) same ends

  pub goes_then : (it : Option Answer) (kept : List ℕ) (flow : Flow) → it ≡ None → GoesOn does sending first it kept flow
      → (time : ℕ) × ReadsAt does sending first kept time flow
  goes_then it kept flow is goes = rw is at goes
