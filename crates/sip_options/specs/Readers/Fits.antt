-- What is known of the headers of a text, each of its kind.
use Rattle.std.specs.Prelude.{◌≡◌, ℕ, ◌≤◌, List, [], ◌∷◌, length}
use Rattle.sip_options.specs.Fields.{IsOptionsCSeq, LengthOf}
use Rattle.sip_options.specs.Heads.{Header, HeadersText, values_at}
use Rattle.sip_options.specs.Requests.{token, branch_text}
use Rattle.sip_options.specs.Texts.{IsAlone}
use Rattle.sip_options.specs.Vias.{FirstHasBranch}
use Rattle.sip_options.specs.declared.field.Field.{Field}
use Rattle.sip_options.specs.declared.field.Field.TheVariants.{Via, CallId, CSeq, ContentLength}

-- the headers of a name have one value
pub record HasOnly (field : Field) (text value : List ℕ) : Type 0 where
  pub headers : List Header
  pub body : List ℕ
  pub are : HeadersText text headers body
  pub is : values_at field headers ≡ value ∷ []

-- the headers of a name have a first value
pub record HasFirst (field : Field) (text value : List ℕ) : Type 0 where
  pub headers : List Header
  pub body : List ℕ
  pub are : HeadersText text headers body
  pub others : List (List ℕ)
  pub is : values_at field headers ≡ value ∷ others

-- the first Via has the branch
abbrev pub ViaFits : ℕ → List ℕ → Type 0
ViaFits branch text =
    (via : List ℕ) × HasFirst Via text via × FirstHasBranch (branch_text branch) via

-- the only Call-ID is that of a number
abbrev pub CallIdFits : ℕ → List ℕ → Type 0
CallIdFits call_id text = (id : List ℕ) × HasOnly CallId text id × IsAlone (token call_id) id

-- the only CSeq is that of the request
abbrev pub CSeqFits : List ℕ → Type 0
CSeqFits text = (cseq : List ℕ) × HasOnly CSeq text cseq × IsOptionsCSeq cseq

-- the body has as many octets as Content-Length says
pub record BodyFits (text : List ℕ) : Type 0 where
  pub headers : List Header
  pub body : List ℕ
  pub are : HeadersText text headers body
  pub size : ℕ
  pub is_size : LengthOf (values_at ContentLength headers) size
  pub whole : size ≤ length body
