-- How far the reading of a connection has come: words of private contracts alone.
use Rattle.std.specs.Prelude.{ℕ, List, Option, Some, None}
use Rattle.sip_options.specs.declared.request.OptionsRequest.{OptionsRequest}
use Rattle.sip_ping.specs.Datagrams.{IsFinal}
use Rattle.sip_ping.specs.Flows.{Event}
use Rattle.sip_ping.specs.Streams.{BeginsWith, Ends, IsPart, IsPassed, IsUnreadable, Reads}
use Rattle.sip_ping.specs.declared.answer.Answer.{Answer}
use Rattle.sip_ping.specs.declared.messages.Front.{Front}
use Rattle.sip_ping.specs.declared.messages.Front.TheVariants.{Final, Passed, Part, Unreadable}
use Rattle.sip_ping.specs.declared.sending.Sending.{Sending}

-- octets begin with a final reply of this status
pub record BeginsFinal (request : OptionsRequest) (octets : List ℕ) (status : ℕ) : Type 0 where
  pub message : List ℕ
  pub rest : List ℕ
  pub begins : BeginsWith octets message rest
  pub final : IsFinal request message status

-- octets begin with a message that is no final reply, and this follows it
pub record BeginsPassed (request : OptionsRequest) (octets rest : List ℕ) : Type 0 where
  pub message : List ℕ
  pub begins : BeginsWith octets message rest
  pub passed : IsPassed request message

-- what stands in front of octets
abbrev pub IsFront : OptionsRequest → List ℕ → Front → Type 0
IsFront request octets (Final status) = BeginsFinal request octets status
IsFront request octets (Passed rest) = BeginsPassed request octets rest.now
IsFront request octets (Part rest) = IsPart octets rest.now
IsFront request octets Unreadable = IsUnreadable octets

-- the reading of a connection has come so far that these octets are kept, and the clock showed this
-- time last
abbrev pub ReadsAt : {Flow : Type 0} → (Flow → Event → Flow → Type 0) → Sending → Flow → List ℕ
    → ℕ → Flow → Type 0
ReadsAt does sending first kept time flow =
    Reads does sending.request.now sending.deadline first kept time flow

-- it goes on with these octets, or ended with an answer
abbrev pub GoesOn : {Flow : Type 0} → (Flow → Event → Flow → Type 0) → Sending → Flow
    → Option Answer → List ℕ → Flow → Type 0
GoesOn does sending first None kept flow =
    (time : ℕ) × ReadsAt does sending first kept time flow
GoesOn does sending first (Some answer) kept flow =
    Ends does sending.request.now sending.deadline first answer flow
