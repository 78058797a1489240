-- A request with replies, in lines.
use Rattle.std.specs.Prelude.{◌≡◌, ◌≢◌, ℕ, List, [], drop, Some, slice_index_or}
use Rattle.std.specs.List.{AllZip}
use Rattle.std.specs.Str.Lines.{lines}
use Rattle.dns_message.specs.declared.message.Message.{Message}
use Rattle.sip_uri.specs.declared.refusal.UriRefusal.{UriRefusal}
use Rattle.sip_uri.specs.declared.refusal.UriRefusal.TheVariants as uri
use Rattle.sip_selection.specs.declared.caps.Families.{Families}
use Rattle.sip_selection.specs.declared.request.Request.{Request}
use Rattle.sip_selection.specs.Choice.{Resolution}
use Rattle.sip_selection.specs.Known.{Given}
use Rattle.sip_selection.specs.RequestLines.{RequestText}
use Rattle.siplocate_one.specs.Talks.{goes, talk}
use Rattle.siplocate_one.specs.declared.reply.BadReply.{BadReply}
use Rattle.siplocate_one.specs.declared.reply.BadReply.TheVariants as bad
use Rattle.siplocate_one.specs.Replies.{ReplyLine, FailsAt}

-- the first line of a text, which is empty where there is none
abbrev pub first_line : List ℕ → List ℕ
first_line text = slice_index_or (lines text) 0 []

-- the lines of a text after the first one
abbrev pub other_lines : List ℕ → List (List ℕ)
other_lines text = drop 1 (lines text)

-- What becomes of the request in the first line: each of the other lines is a reply to the question
-- that is needed then.
pub record LocatesTo (families : Families) (text : List ℕ) (resolution : Resolution) : Type 0 where
  pub request : Request
  pub messages : List Message
  pub given : List Given
  pub spelled : RequestText (first_line text) request
  pub replies : AllZip ReplyLine (other_lines text) messages
  pub talked : talk families request messages ≡ Some given
  pub is : resolution ≡ goes families request given

-- ---- what is no request with replies

-- the first line is no request, and is refused as this
pub record HasBadRequest (text : List ℕ) (refusal : UriRefusal) : Type 0 where
  pub none : (request : Request) → RequestText (first_line text) request → ⊥
  pub said : refusal ≢ uri.Memory

-- the first line is a request, and of the others the first that is no reply to what is needed then
-- has this fault
pub record HasBadReply (families : Families) (text : List ℕ) (reply : BadReply) : Type 0 where
  pub request : Request
  pub spelled : RequestText (first_line text) request
  pub fails : FailsAt families request (other_lines text) reply
  pub said : reply ≢ bad.Memory
