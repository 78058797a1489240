-- What becomes of a request, once its URI is known.
use Rattle.std.proofs.Common.{◌≡◌, ℕ, List, Some, inl, inr, ◌⊎◌}
use Rattle.std.specs.List.{AllZip}
use Rattle.dns_message.specs.declared.message.Message.{Message}
use Rattle.sip_selection.specs.declared.request.Request.{Request}
use Rattle.sip_selection.specs.declared.caps.Families.{Families}
use Rattle.sip_selection.specs.Choice.{Resolution}
use Rattle.sip_selection.specs.Known.{Given}
use Rattle.siplocate_one.specs.Talks.{goes, talk}
use Rattle.sip_uri.specs.declared.refusal.UriRefusal.{UriRefusal}
use Rattle.sip_uri.specs.declared.refusal.UriRefusal.TheVariants as uri
use Rattle.siplocate_one.specs.declared.reply.BadReply.{BadReply}
use Rattle.siplocate_one.specs.declared.reply.BadReply.TheVariants as bad
use Rattle.siplocate_one.specs.Refusals.{of_request, of_reply, RefusedAs}
use Rattle.siplocate_one.specs.Replies.{ReplyLine, FailsAt}
use Rattle.sip_selection.specs.RequestLines.{RequestText}
use Rattle.siplocate_one.specs.Requests.{LocatesTo, first_line, other_lines}

-- a text that locates to a resolution has this request, and what it was told
pub told_to : (families : Families) (text : List ℕ) (request : Request) → ((other : Request) → RequestText (first_line text) other
    → request ≡ other)
    → (resolution : Resolution) → LocatesTo families text resolution
    → (messages : List Message) × (given : List Given) × AllZip ReplyLine (other_lines text) messages
    × (talk families request messages ≡ Some given) × (resolution ≡ goes families request given)
told_to families text request one resolution to =
    let same = one to.request to.spelled in
    (to.messages, to.given, to.replies, rw same to.talked, rw same to.is)

-- ---- what is refused

module _ (families : Families) (text : List ℕ) where
  pub bad_request : (refusal : UriRefusal) → ((request : Request) → RequestText (first_line text) request → refusal ≡ uri.Memory)
      → RefusedAs (of_request refusal) families text
  bad_request uri.Memory memory = tt
  bad_request refusal memory = record {
    none = λ request spelled. let e = memory request spelled in absurd cc;
    said = λ e. absurd cc;
  }

  pub bad_reply : (reply : BadReply) (request : Request) → RequestText (first_line text) request
      → (reply ≡ bad.Memory) ⊎ FailsAt families request (other_lines text) reply
      → RefusedAs (of_reply reply) families text
  bad_reply bad.Memory request spelled fails = tt
  bad_reply reply request spelled (inl e) = absurd cc
  bad_reply reply request spelled (inr fails) = record { request = request; spelled = spelled; fails = fails; said = λ e. absurd cc }
