-- An OPTIONS request over TCP, and what becomes of it (RFC 3261 7.5, 18.3).
use Rattle.std.specs.Prelude.{◌≡◌, ◌⊎◌, ℕ, ◌+◌, ◌≤◌, ◌<◌, List, [], ◌++◌, length}
use Rattle.sip_options.specs.Frames.{HasBadLength, IsEmptyLine, IsFrame, IsTooLong}
use Rattle.sip_options.specs.Requests.{request_text}
use Rattle.sip_options.specs.Texts.{Ends as StartsWithNone, Many}
use Rattle.sip_options.specs.declared.request.OptionsRequest.{OptionsRequest}
use Rattle.sip_ping.specs.Datagrams.{IsFinal, IsOther, IsProvisional}
use Rattle.sip_ping.specs.Flows.{Event, looked, sent, came, nothing, failed}
use Rattle.sip_ping.specs.declared.answer.Answer.{Answer}
use Rattle.sip_ping.specs.declared.answer.Answer.TheVariants.{Replied, Silent, Refused, Unreadable}
use Rattle.sip_ping.specs.declared.flow.Fault.TheVariants.{Closed}

-- octets begin with empty lines, which are no part of a message, and this follows them
pub record IsBehind (octets rest : List ℕ) : Type 0 where
  pub lines : List ℕ
  pub empty : Many IsEmptyLine lines
  pub joined : octets ≡ lines ++ rest
  pub all : StartsWithNone IsEmptyLine rest

-- octets begin with this message, behind empty lines, and this follows it
pub record BeginsWith (octets message rest : List ℕ) : Type 0 where
  pub behind : IsBehind octets (message ++ rest)
  pub frame : IsFrame (message ++ rest) (length message)

-- octets begin with no whole message yet: behind empty lines there is this part of one
pub record IsPart (octets rest : List ℕ) : Type 0 where
  pub behind : IsBehind octets rest
  pub none : (size : ℕ) → IsFrame rest size → ⊥

-- no message can be read of octets any more: its length can't, or it has more than 65,535 octets
pub record IsUnreadable (octets : List ℕ) : Type 0 where
  pub rest : List ℕ
  pub behind : IsBehind octets rest
  pub unreadable : HasBadLength rest ⊎ IsTooLong rest

-- a message is a provisional reply to the request, or no reply to it
abbrev pub IsPassed : OptionsRequest → List ℕ → Type 0
IsPassed request message = IsProvisional request message ⊎ IsOther request message

-- A connection goes from one state to another by what its calls do: it sends the request once, and
-- waits until the deadline. What came is kept until it has a whole message in front, which is
-- passed over where it is no final reply.
pub data Reads {Flow : Type 0} (does : Flow → Event → Flow → Type 0) (request : OptionsRequest)
    (deadline : ℕ) (first : Flow) : List ℕ → ℕ → Flow → Type 0 where
  sends : (time : ℕ) (before after : Flow) → does first (looked time) before → time < deadline
      → does before (sent (request_text request)) after
      → Reads does request deadline first [] time after
  looks : (kept : List ℕ) (old time : ℕ) (before after : Flow)
      → Reads does request deadline first kept old before → does before (looked time) after
      → Reads does request deadline first kept time after
  waits : (kept part : List ℕ) (time most : ℕ) (before after : Flow)
      → Reads does request deadline first kept time before → IsPart kept part
      → time + most ≤ deadline → does before (nothing most) after
      → Reads does request deadline first part time after
  reads : (kept part octets : List ℕ) (time most : ℕ) (before after : Flow)
      → Reads does request deadline first kept time before → IsPart kept part
      → time + most ≤ deadline → does before (came most octets) after
      → Reads does request deadline first (part ++ octets) time after
  passes : (kept message rest : List ℕ) (time : ℕ) (flow : Flow)
      → Reads does request deadline first kept time flow → BeginsWith kept message rest
      → IsPassed request message
      → Reads does request deadline first rest time flow

-- What became of the request: a final reply came, and the clock then showed this time; or the clock
-- showed the deadline, or a later time, before or after the request was sent; or the connection
-- failed; or no message can be read of what came.
pub data Ends {Flow : Type 0} (does : Flow → Event → Flow → Type 0) (request : OptionsRequest)
    (deadline : ℕ) (first : Flow) : Answer → Flow → Type 0 where
  replied : (kept message rest : List ℕ) (time status : ℕ) (last : Flow)
      → Reads does request deadline first kept time last → BeginsWith kept message rest
      → IsFinal request message status
      → Ends does request deadline first (Replied (record { status = status; after = time })) last
  unsent : (time : ℕ) (last : Flow) → does first (looked time) last → deadline ≤ time
      → Ends does request deadline first Silent last
  silent : (kept : List ℕ) (time : ℕ) (last : Flow)
      → Reads does request deadline first kept time last → deadline ≤ time
      → Ends does request deadline first Silent last
  not_sent : (time : ℕ) (before last : Flow) → does first (looked time) before
      → does before (failed Closed) last
      → Ends does request deadline first Refused last
  closed : (kept : List ℕ) (time : ℕ) (before last : Flow)
      → Reads does request deadline first kept time before → does before (failed Closed) last
      → Ends does request deadline first Refused last
  unreadable : (kept : List ℕ) (time : ℕ) (last : Flow)
      → Reads does request deadline first kept time last → IsUnreadable kept
      → Ends does request deadline first Unreadable last
