-- Replies, and what is known of their headers.
use Rattle.std.proofs.Common.{◌≡◌, ℕ, ◌≤◌, nat_lt, List, [], ◌∷◌, length, Option, Some, None, IfNone, sym, ap, ◌∙◌, inl, inr, arith}
use Rattle.std.specs.Borrow.{Bor}
use Rattle.std.proofs.lemmas.Bool.{cases_Bool}
use Rattle.std.proofs.lemmas.Bool.Decides.{nat_tests}
use Rattle.std.proofs.lemmas.List.{length-append}
use Rattle.sip_options.specs.Fields.{LengthOf}
use Rattle.sip_options.specs.Heads.{Header, HeadersText, empty_line, header, values_at}
use Rattle.sip_options.specs.Readers.Fits.{HasOnly, HasFirst, ViaFits, CallIdFits, CSeqFits, BodyFits}
use Rattle.sip_options.specs.Readers.Headers.{IsOnly, IsFirst}
use Rattle.sip_options.specs.Readers.Numbers.{capped}
use Rattle.sip_options.specs.Replies.{StatusLine, IsReply}
use Rattle.sip_options.specs.declared.field.Field.{Field}
use Rattle.sip_options.specs.declared.field.Field.TheVariants.{Via, CallId, CSeq, ContentLength}
use Rattle.sip_options.proofs.HeaderLists.{one_head}
use Rattle.sip_options.proofs.NumberTexts.{one_length}
use Rattle.sip_options.proofs.StatusTexts.{one_status}

same_values : (field : Field) (text : List ℕ) (hs hs' : List Header) (body body' : List ℕ) → HeadersText text hs body
    → HeadersText text hs' body' → values_at field hs ≡ values_at field hs'
same_values field text hs hs' body body' are are' = ap (values_at field) (one_head text hs hs' body body' are are').0

pub only_none : (field : Field) (text : List ℕ) (hs : List Header) (body : List ℕ) → HeadersText text hs body
    → (o : Option (Bor (List ℕ))) → IsOnly (values_at field hs) o → IfNone o ((value : List ℕ) → HasOnly field text value → ⊥)
only_none field text hs body are None is = λ value has. is value (same_values field text hs has.headers body has.body are has.are ∙ has.is)
only_none field text hs body are (Some x) is = tt

pub first_none : (field : Field) (text : List ℕ) (hs : List Header) (body : List ℕ) → HeadersText text hs body
    → (o : Option (Bor (List ℕ))) → IsFirst (values_at field hs) o → IfNone o ((value : List ℕ) → HasFirst field text value → ⊥)
first_none field text hs body are None is = λ value has.
    let e : [] ≡ value ∷ has.others = sym is ∙ same_values field text hs has.headers body has.body are has.are ∙ has.is in
    absurd cc
first_none field text hs body are (Some x) is = tt

pub one_only : (field : Field) (text a b : List ℕ) → HasOnly field text a → HasOnly field text b → a ≡ b
one_only field text a b is is' =
    let e : a ∷ [] ≡ b ∷ [] = sym is.is ∙ same_values field text is.headers is'.headers is.body is'.body is.are is'.are ∙ is'.is in
    cc

pub one_first : (field : Field) (text a b : List ℕ) → HasFirst field text a → HasFirst field text b → a ≡ b
one_first field text a b is is' =
    let e : a ∷ is.others ≡ b ∷ is'.others =
    sym is.is ∙ same_values field text is.headers is'.headers is.body is'.body is.are is'.are ∙ is'.is in
    cc

-- ---- the body

pub body_shorter : (text : List ℕ) (hs : List Header) (body : List ℕ) → HeadersText text hs body → length body ≤ length text
body_shorter text hs body (empty_line t b joined) = omega (arith, ap length joined)
body_shorter text hs body (header t line rest b h others is are joined) =
    omega (arith, ap length joined, length-append line (13 ∷ 10 ∷ rest), body_shorter rest others body are)

uncapped : (found size limit : ℕ) → found ≡ capped size → found ≤ limit → limit ≤ 65535 → size ≤ limit
uncapped found size limit e within small =
    elim (cases_Bool (nat_lt 65535 size)) [
      | inl over ↦ (let large : found ≡ 65536 = rw over at e in absurd (omega arith))
      | inr less ↦ (let same : found ≡ size = rw less at e in omega arith)
    ]

recapped : (found size limit : ℕ) → found ≡ capped size → size ≤ limit → limit ≤ 65535 → found ≤ limit
recapped found size limit e within small =
    elim (cases_Bool (nat_lt 65535 size)) [
      | inl over ↦ absurd (grind (arith, nat_tests))
      | inr less ↦ (let same : found ≡ size = rw less at e in omega arith)
    ]

length_at : (a b : List (List ℕ)) (size : ℕ) → a ≡ b → LengthOf a size → LengthOf b size
length_at a b size e is = rw e at is

module _ (text : List ℕ) (short : length text ≤ 65535) (hs : List Header) (body : List ℕ) (are : HeadersText text hs body) where
  pub body_made : (found size : ℕ) → LengthOf (values_at ContentLength hs) size → found ≡ capped size → found ≤ length body → BodyFits text
  body_made found size is e within = record {
    headers = hs;
    body = body;
    are = are;
    size = size;
    is_size = is;
    whole = uncapped found size (length body) e within (omega (arith, body_shorter text hs body are));
  }

  pub body_length : (fits : BodyFits text) → LengthOf (values_at ContentLength hs) fits.size
  body_length fits =
      length_at (values_at ContentLength fits.headers) (values_at ContentLength hs) fits.size
      (same_values ContentLength text fits.headers hs fits.body body fits.are are) fits.is_size

  pub body_within : (found size : ℕ) → LengthOf (values_at ContentLength hs) size → found ≡ capped size → BodyFits text
      → found ≤ length body
  body_within found size is e fits =
      let k = one_head text fits.headers hs fits.body body fits.are are in
      let same : size ≡ fits.size = one_length (values_at ContentLength hs) size fits.size is (body_length fits) in
      recapped found size (length body) e (omega (arith, same, fits.whole, ap length k.1)) (omega (arith, body_shorter text hs body are))

-- ---- replies

module _ (branch call_id : ℕ) (message text : List ℕ) (status : ℕ) (line : StatusLine message status text) where
  pub reply_made : length message ≤ 65535 → ViaFits branch text → CallIdFits call_id text → CSeqFits text → BodyFits text
      → IsReply branch call_id message status
  reply_made short via id cseq fits =
      let hs : List Header = fits.headers in
      record {
        short = short;
        text = text;
        line = line;
        headers = fits.headers;
        body = fits.body;
        are = fits.are;
        via = via.0;
        vias = via.1.others;
        via_first = same_values Via text fits.headers via.1.headers fits.body via.1.body fits.are via.1.are ∙ via.1.is;
        has_branch = via.2;
        id = id.0;
        one_id = same_values CallId text fits.headers id.1.headers fits.body id.1.body fits.are id.1.are ∙ id.1.is;
        same_id = id.2;
        cseq = cseq.0;
        one_cseq = same_values CSeq text fits.headers cseq.1.headers fits.body cseq.1.body fits.are cseq.1.are ∙ cseq.1.is;
        is_cseq = cseq.2;
        size = fits.size;
        is_size = fits.is_size;
        whole = fits.whole;
      }

-- what is known of the headers of a reply
pub record AllFit (branch call_id : ℕ) (text : List ℕ) : Type 0 where
  pub via : ViaFits branch text
  pub id : CallIdFits call_id text
  pub cseq : CSeqFits text
  pub body : BodyFits text

pub fits_of : (branch call_id : ℕ) (message : List ℕ) (status : ℕ) → (is : IsReply branch call_id message status)
    → AllFit branch call_id is.text
fits_of branch call_id message status is = record {
  via = (
    is.via,
    record { headers = is.headers; body = is.body; are = is.are; others = is.vias; is = is.via_first },
    is.has_branch,
  );
  id = (is.id, record { headers = is.headers; body = is.body; are = is.are; is = is.one_id }, is.same_id);
  cseq = (is.cseq, record { headers = is.headers; body = is.body; are = is.are; is = is.one_cseq }, is.is_cseq);
  body = record { headers = is.headers; body = is.body; are = is.are; size = is.size; is_size = is.is_size; whole = is.whole };
}

pub fits_at : (branch call_id : ℕ) (a b : List ℕ) → a ≡ b → AllFit branch call_id a → AllFit branch call_id b
fits_at branch call_id a b e fits = rw e at fits

pub reply_fits : (branch call_id : ℕ) (message text : List ℕ) (status status' : ℕ) → StatusLine message status text
    → IsReply branch call_id message status' → (status ≡ status') × AllFit branch call_id text
reply_fits branch call_id message text status status' line is =
    let k = one_status message status status' text is.text line is.line in
    (k.0, fits_at branch call_id is.text text (sym k.1) (fits_of branch call_id message status' is))
