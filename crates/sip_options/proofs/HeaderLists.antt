-- Headers in a row, and the empty line behind them.
use Rattle.std.proofs.Common.{◌≡◌, ℕ, ◌<◌, true, false, List, [], ◌∷◌, ◌++◌, length, refl, sym, ap, ◌∙◌, inl, inr, arith, append_assoc, eqb}
use Rattle.std.proofs.lemmas.Bool.{cases_Bool}
use Rattle.std.proofs.lemmas.Bool.Decides.{nat_tests}
use Rattle.std.proofs.lemmas.List.{append-nil, length-append}
use Rattle.sip_options.specs.Heads.{Header, IsHeader, IsHeaderPiece, HeadersText, empty_line, header, values_at, is_field, is_token_octet}
use Rattle.sip_options.specs.Readers.Headers.{Are, BeginsHeader, with_header}
use Rattle.sip_options.specs.Texts.{Many, Ends, IsOctet, IsWhite, is_blank, is_white}
use Rattle.sip_options.specs.declared.field.Field.{Field}
use Rattle.sip_options.specs.declared.values.Values.{Values}
use Rattle.sip_options.proofs.HeaderPieces.{header_pieces_apart, break_ends}
use Rattle.sip_options.proofs.Octets.{no_octet, ends_behind, same_cut, first_of}
use Rattle.sip_options.proofs.Repeats.{same_fronts}

-- ---- one header

-- a header begins with an octet of a token
pub header_starts : (line : List ℕ) (h : Header) → IsHeader line h
    → (x : ℕ) × (more : List ℕ) × (line ≡ x ∷ more) × (is_token_octet x ≡ true)
header_starts line h is =
    let k = first_of is_token_octet h.name is.token is.some in
    let whole : line ≡ k.0 ∷ (k.1 ++ (is.white ++ 58 ∷ h.value)) = is.joined ∙ ap (λ (u : List ℕ). u ++ (is.white ++ 58 ∷ h.value)) k.2 in
    (k.0, k.1 ++ (is.white ++ 58 ∷ h.value), whole, k.3)

token_no_white : (x : ℕ) → is_white x ≡ true → is_token_octet x ≡ false
token_no_white x is =
    elim (cases_Bool (eqb x 32)) [
      | inl a ↦ (let same : x ≡ 32 = grind (arith, nat_tests) in rw same refl)
      | inr a ↦ elim (cases_Bool (eqb x 9)) [
        | inl b ↦ (let same : x ≡ 9 = grind (arith, nat_tests) in rw same refl)
        | inr b ↦ elim (cases_Bool (eqb x 13)) [
          | inl d ↦ (let same : x ≡ 13 = grind (arith, nat_tests) in rw same refl)
          | inr d ↦ (let same : x ≡ 10 = grind (arith, nat_tests) in rw same refl)
        ]
      ]
    ]

-- a token ends before white space and a colon
pub token_ends : (white value : List ℕ) → IsWhite white → Ends (IsOctet is_token_octet) (white ++ 58 ∷ value)
token_ends white value is = ends_behind is_token_octet is_white token_no_white white (58 ∷ value) is (no_octet is_token_octet 58 value refl)

pub colon_ends : (value : List ℕ) → Ends (IsOctet is_white) (58 ∷ value)
colon_ends value = no_octet is_white 58 value refl

made : (h h' : Header) → h.name ≡ h'.name → h.value ≡ h'.value → h ≡ h'
made h h' name value =
    let first : h ≡ record { name = h'.name; value = h.value } = ap (λ (n : List ℕ). record { name = n; value = h.value }) name in
    first ∙ ap (λ (v : List ℕ). record { name = h'.name; value = v }) value

-- a line is one header
pub one_header : (line : List ℕ) (h h' : Header) → IsHeader line h → IsHeader line h' → h ≡ h'
one_header line h h' is is' =
    let k = same_cut is_token_octet line h.name (is.white ++ 58 ∷ h.value) h'.name (is'.white ++ 58 ∷ h'.value) is.joined is.token
    (token_ends is.white h.value is.is_white) is'.joined is'.token (token_ends is'.white h'.value is'.is_white) in
    let l = same_cut is_white (is.white ++ 58 ∷ h.value) is.white (58 ∷ h.value) is'.white (58 ∷ h'.value) refl is.is_white
    (colon_ends h.value) k.1 is'.is_white (colon_ends h'.value) in
    let value : h.value ≡ h'.value = cc (l.1) in
    let name : h.name ≡ h'.name = k.0 in
    made h h' name value

-- ---- the header in front of headers

blank_token : (x : ℕ) → is_token_octet x ≡ true → is_blank x ≡ false
blank_token x is =
    elim (cases_Bool (is_blank x)) [
      | inl a ↦ (let no : is_token_octet x ≡ false = token_no_white x (grind (arith, nat_tests)) in
          absurd (let differ : true ≡ false = sym is ∙ no in cc))
      | inr a ↦ a
    ]

pub headers_start : (text : List ℕ) (hs : List Header) (body : List ℕ) → HeadersText text hs body
    → (blank : ℕ) (more : List ℕ) → text ≡ blank ∷ more → is_blank blank ≡ false
headers_start text hs body (empty_line t b joined) blank more e =
    let first : blank ≡ 13 = cc in
    rw first refl
headers_start text hs body (header t line rest b h others is are joined) blank more e =
    let k = header_starts line h is in
    let whole : text ≡ k.0 ∷ (k.1 ++ 13 ∷ 10 ∷ rest) = joined ∙ ap (λ (u : List ℕ). u ++ 13 ∷ 10 ∷ rest) k.2 in
    let first : blank ≡ k.0 = cc in
    rw first (blank_token k.0 k.3)

pub headers_end : (text : List ℕ) (hs : List Header) (body : List ℕ) → HeadersText text hs body → Ends IsHeaderPiece (13 ∷ 10 ∷ text)
headers_end text hs body are = break_ends text (headers_start text hs body are)

no_break : (text : List ℕ) (h : Header) (rest body : List ℕ) → BeginsHeader text h rest → text ≡ 13 ∷ 10 ∷ body → ⊥
no_break text h rest body begins e =
    let k = header_starts begins.line h begins.is in
    let whole : text ≡ k.0 ∷ (k.1 ++ 13 ∷ 10 ∷ rest) = begins.joined ∙ ap (λ (u : List ℕ). u ++ 13 ∷ 10 ∷ rest) k.2 in
    let first : k.0 ≡ 13 = cc in
    let no : is_token_octet 13 ≡ true = rw first at k.3 in
    absurd cc

moved_header : (a b : List ℕ) (h : Header) → a ≡ b → IsHeader a h → IsHeader b h
moved_header a b h e is = rw e at is

moved : (a b : List ℕ) (hs : List Header) (body : List ℕ) → a ≡ b → HeadersText a hs body → HeadersText b hs body
moved a b hs body e are = rw e at are

begins_of : (text line rest body : List ℕ) (h : Header) (others : List Header) → IsHeader line h → HeadersText rest others body
    → text ≡ line ++ 13 ∷ 10 ∷ rest → BeginsHeader text h rest
begins_of text line rest body h others is are joined =
    record { line = line; is = is; ends = headers_end rest others body are; joined = joined }

-- what follows the first header is the same in two readings, and so is the header
pub begins_next : (text : List ℕ) (hs : List Header) (body : List ℕ) (h : Header) (rest : List ℕ) → HeadersText text hs body
    → BeginsHeader text h rest → (others : List Header) × (hs ≡ h ∷ others) × HeadersText rest others body
begins_next text hs body h rest (empty_line t b joined) begins = absurd (no_break text h rest body begins joined)
begins_next text hs body h rest (header t line after b h' others is are joined) begins =
    let k = same_fronts IsHeaderPiece header_pieces_apart begins.line line (13 ∷ 10 ∷ rest) (13 ∷ 10 ∷ after) begins.is.pieces begins.ends
    is.pieces (headers_end after others body are) (sym begins.joined ∙ joined) in
    let tail : rest ≡ after = cc (k.1) in
    let same = one_header begins.line h h' begins.is (moved_header line begins.line h' (sym k.0) is) in
    (others, ap (λ (u : Header). u ∷ others) (sym same), moved after rest others body (sym tail) are)

-- a text is one row of headers
pub one_head : (text : List ℕ) (hs hs' : List Header) (body body' : List ℕ) → HeadersText text hs body → HeadersText text hs' body'
    → (hs ≡ hs') × (body ≡ body')
one_head text hs hs' body body' (empty_line t b joined) (empty_line t' b' joined') = (refl, cc)
one_head text hs hs' body body' (empty_line t b joined) (header t' line rest b' h others is are joined') =
    absurd (no_break text h rest body (begins_of text line rest body' h others is are joined') joined)
one_head text hs hs' body body' (header t line rest b h others is are joined) other =
    let k = begins_next text hs' body' h rest other (begins_of text line rest body h others is are joined) in
    let l = one_head rest others k.0 body body' are k.2 in
    (ap (λ (u : List Header). h ∷ u) l.0 ∙ sym k.1, l.1)

-- ---- a reader that has come to a place

pub record ReadSoFar (field : Field) (text rest : List ℕ) (values : Values) : Type 0 where
  pub seen : List (List ℕ)
  pub are : Are values seen
  pub forth : (hs : List Header) (body : List ℕ) → HeadersText rest hs body
      → (all : List Header) × HeadersText text all body × (values_at field all ≡ seen ++ values_at field hs)
  pub back : (all : List Header) (body : List ℕ) → HeadersText text all body → (hs : List Header) × HeadersText rest hs body

values_more : (field : Field) (seen : List (List ℕ)) (h : Header) (hs : List Header)
    → seen ++ values_at field (h ∷ hs) ≡ with_header field seen h ++ values_at field hs
values_more field seen h hs =
    elim (cases_Bool (is_field field h.name)) [
      | inl is ↦ rw is (sym (append_assoc seen (h.value ∷ []) (values_at field hs)))
      | inr no' ↦ rw no' refl
    ]

are_at : (values : Values) (a b : List (List ℕ)) → a ≡ b → Are values a → Are values b
are_at values a b e are = rw e at are

none_here : (rest : List ℕ) (hs : List Header) (body : List ℕ) → ((body : List ℕ) → rest ≡ 13 ∷ 10 ∷ body → ⊥)
    → ((h : Header) (more : List ℕ) → BeginsHeader rest h more → ⊥) → HeadersText rest hs body → ⊥
none_here rest hs body no_end no_more (empty_line t b joined) = no_end body joined
none_here rest hs body no_end no_more (header t line after b h others is are joined) =
    no_more h after (begins_of rest line after body h others is are joined)

module _ (field : Field) (text rest : List ℕ) (values : Values) (so_far : ReadSoFar field text rest values) where
  pub all_read : (body : List ℕ) → rest ≡ 13 ∷ 10 ∷ body
      → (all : List Header) × HeadersText text all body × Are values (values_at field all)
  all_read body e =
      let k = so_far.forth [] body (empty_line rest body e) in
      let same : values_at field k.0 ≡ so_far.seen = k.2 ∙ append-nil so_far.seen in
      (k.0, k.1, are_at values so_far.seen (values_at field k.0) (sym same) so_far.are)

  pub none_read : ((body : List ℕ) → rest ≡ 13 ∷ 10 ∷ body → ⊥) → ((h : Header) (more : List ℕ) → BeginsHeader rest h more → ⊥)
      → (all : List Header) (body : List ℕ) → HeadersText text all body → ⊥
  none_read no_end no_more all body are =
      let k = so_far.back all body are in
      none_here rest k.0 body no_end no_more k.1

  pub more_read : (h : Header) (after : List ℕ) (values' : Values) → BeginsHeader rest h after
      → ((all : List (List ℕ)) → Are values all → Are values' (with_header field all h)) → ReadSoFar field text after values'
  more_read h after values' begins step = record {
    seen = with_header field so_far.seen h;
    are = step so_far.seen so_far.are;
    forth = λ hs body are.
        let k = so_far.forth (h ∷ hs) body (header rest begins.line after body h hs begins.is are begins.joined) in
        (k.0, k.1, k.2 ∙ values_more field so_far.seen h hs);
    back = λ all body are.
        let k = so_far.back all body are in
        let l = begins_next rest k.0 body h after k.1 begins in
        (l.0, l.2);
  }

-- what follows a header is shorter
pub shorter : (text : List ℕ) (h : Header) (rest : List ℕ) → BeginsHeader text h rest → length rest < length text
shorter text h rest begins =
    omega (arith, ap length begins.joined, length-append begins.line (13 ∷ 10 ∷ rest))

-- ---- readers of one header

-- the name of a header, and what follows it, in a cut of its line
pub name_cut : (line name rest : List ℕ) (h : Header) → line ≡ name ++ rest → Many (IsOctet is_token_octet) name
    → Ends (IsOctet is_token_octet) rest → (is : IsHeader line h) → (name ≡ h.name) × (rest ≡ is.white ++ 58 ∷ h.value)
name_cut line name rest h e many ends is =
    same_cut is_token_octet line name rest h.name (is.white ++ 58 ∷ h.value) e many ends is.joined is.token
    (token_ends is.white h.value is.is_white)

pub nameless : (line name rest : List ℕ) (h : Header) → line ≡ name ++ rest → Many (IsOctet is_token_octet) name
    → Ends (IsOctet is_token_octet) rest → length name ≡ 0 → IsHeader line h → ⊥
nameless line name rest h e many ends short is =
    let k = name_cut line name rest h e many ends is in
    omega (arith, short, ap length k.0, is.some)

pub value_cut : (line name rest front back : List ℕ) (h : Header) → line ≡ name ++ rest → Many (IsOctet is_token_octet) name
    → Ends (IsOctet is_token_octet) rest → rest ≡ front ++ back → IsWhite front → Ends (IsOctet is_white) back → IsHeader line h
    → back ≡ 58 ∷ h.value
value_cut line name rest front back h e many ends f white ends' is =
    let k = name_cut line name rest h e many ends is in
    (same_cut is_white rest front back is.white (58 ∷ h.value) f white ends' k.1 is.is_white (colon_ends h.value)).1

-- the line of the header in front, and the line break behind it, in a cut of the text
pub line_cut : (text line behind : List ℕ) (h : Header) (rest : List ℕ) → text ≡ line ++ behind → Many IsHeaderPiece line
    → Ends IsHeaderPiece behind → (begins : BeginsHeader text h rest) → (line ≡ begins.line) × (behind ≡ 13 ∷ 10 ∷ rest)
line_cut text line behind h rest e many ends begins =
    same_fronts IsHeaderPiece header_pieces_apart line begins.line behind (13 ∷ 10 ∷ rest) many ends begins.is.pieces begins.ends
    (sym e ∙ begins.joined)

pub header_at : (a b : List ℕ) (h : Header) → a ≡ b → IsHeader a h → IsHeader b h
header_at a b h e is = moved_header a b h e is

-- ---- values

pub with_here : (field : Field) (all : List (List ℕ)) (h : Header) → is_field field h.name ≡ true
    → with_header field all h ≡ all ++ h.value ∷ []
with_here field all h is = rw is refl
