-- Replies to an OPTIONS request (RFC 3261 7.2, 8.1.3.3, 17.1.3, 18.3).
use Rattle.std.specs.Prelude.{◌≡◌, ℕ, ◌+◌, ◌*◌, ◌-◌, ◌≤◌, IsTrue, List, [], ◌∷◌, ◌++◌, length, codes}
use Rattle.std.specs.Char.{is_ascii_digit}
use Rattle.sip_options.specs.Fields.{IsOptionsCSeq, LengthOf}
use Rattle.sip_options.specs.Heads.{Header, HeadersText, values_at}
use Rattle.sip_options.specs.Requests.{token, branch_text}
use Rattle.sip_options.specs.Texts.{Many, IsOctet, IsWord, IsAlone, is_in_line}
use Rattle.sip_options.specs.Vias.{FirstHasBranch}
use Rattle.sip_options.specs.declared.field.Field.TheVariants.{Via, CallId, CSeq, ContentLength}

-- a text begins with the status line of a status from 100 to 699, and then comes the rest
pub record StatusLine (text : List ℕ) (status : ℕ) (rest : List ℕ) : Type 0 where
  pub version : List ℕ
  pub first : ℕ
  pub second : ℕ
  pub third : ℕ
  pub reason : List ℕ
  pub joined : text
      ≡ version ++ 32 ∷ first ∷ second ∷ third ∷ 32 ∷ (reason ++ 13 ∷ 10 ∷ rest)
  pub is_version : IsWord (codes "SIP/2.0") version
  pub from : 49 ≤ first
  pub upto : first ≤ 54
  pub second_digit : IsTrue (is_ascii_digit second)
  pub third_digit : IsTrue (is_ascii_digit third)
  pub is : status ≡ 100 * (first - 48) + 10 * (second - 48) + (third - 48)
  pub is_reason : Many (IsOctet is_in_line) reason

-- The octets are a whole message, and a reply with this status to the request with this branch and
-- this Call-ID: the first Via has the branch, and one Call-ID and one CSeq are those of the
-- request. Of a body there are at least as many octets as Content-Length says.
pub record IsReply (branch call_id : ℕ) (message : List ℕ) (status : ℕ) : Type 0 where
  pub short : length message ≤ 65535
  pub text : List ℕ
  pub line : StatusLine message status text
  pub headers : List Header
  pub body : List ℕ
  pub are : HeadersText text headers body
  pub via : List ℕ
  pub vias : List (List ℕ)
  pub via_first : values_at Via headers ≡ via ∷ vias
  pub has_branch : FirstHasBranch (branch_text branch) via
  pub id : List ℕ
  pub one_id : values_at CallId headers ≡ id ∷ []
  pub same_id : IsAlone (token call_id) id
  pub cseq : List ℕ
  pub one_cseq : values_at CSeq headers ≡ cseq ∷ []
  pub is_cseq : IsOptionsCSeq cseq
  pub size : ℕ
  pub is_size : LengthOf (values_at ContentLength headers) size
  pub whole : size ≤ length body
