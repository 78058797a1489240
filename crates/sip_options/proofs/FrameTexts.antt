-- Messages in front of a stream.
use Rattle.std.proofs.Common.{◌≡◌, ℕ, ◌+◌, ◌-◌, ◌<◌, ◌≤◌, true, false, nat_lt, List, ◌∷◌, length, Option, Some, None, Result, Ok, Err, IfOk, IfSome, refl, sym, ap, ◌∙◌, inl, inr, ◌⊎◌, arith, subst}
use Rattle.std.proofs.lemmas.Bool.{cases_Bool}
use Rattle.std.proofs.lemmas.Bool.Decides.{nat_tests}
use Rattle.std.proofs.lemmas.List.{length-append}
use Rattle.sip_options.specs.Fields.{LengthOf}
use Rattle.sip_options.specs.Frames.{HasHead, SaysLength, IsFrame, HasBadLength, IsTooLong, said, headless}
use Rattle.sip_options.specs.Heads.{Header, HeadersText, values_at}
use Rattle.sip_options.specs.Readers.Numbers.{capped, sized}
use Rattle.sip_options.specs.Readers.Words.{BeginsLine}
use Rattle.sip_options.specs.declared.field.Field.TheVariants.{ContentLength}
use Rattle.sip_options.specs.declared.frames.FrameRefusal.{FrameRefusal}
use Rattle.sip_options.specs.declared.frames.FrameRefusal.TheVariants.{TooLong, BadLength}
use Rattle.sip_options.proofs.HeaderLists.{one_head}
use Rattle.sip_options.proofs.NumberTexts.{one_length}
use Rattle.sip_options.proofs.ReplyTexts.{body_shorter}
use Rattle.sip_options.proofs.WordTexts.{one_line}

-- ---- heads

pub head_line : (octets : List ℕ) (hs : List Header) (rest : List ℕ) → (is : HasHead octets hs rest) → BeginsLine octets is.text
head_line octets hs rest is = record { line = is.line; is = is.is_line; joined = is.joined }

headers_at : (a b : List ℕ) (hs : List Header) (rest : List ℕ) → a ≡ b → HeadersText a hs rest → HeadersText b hs rest
headers_at a b hs rest e are = rw e at are

pub head_headers : (octets text : List ℕ) (hs : List Header) (rest : List ℕ) → BeginsLine octets text → HasHead octets hs rest
    → HeadersText text hs rest
head_headers octets text hs rest line is =
    headers_at is.text text hs rest (one_line octets is.text text (head_line octets hs rest is) line) is.are

-- octets have one head
pub same_head : (octets : List ℕ) (hs hs' : List Header) (rest rest' : List ℕ) → HasHead octets hs rest → HasHead octets hs' rest'
    → (hs ≡ hs') × (rest ≡ rest')
same_head octets hs hs' rest rest' is is' =
    one_head is.text hs hs' rest rest' is.are (head_headers octets is.text hs' rest' (head_line octets hs rest is) is')

pub head_shorter : (octets : List ℕ) (hs : List Header) (rest : List ℕ) → HasHead octets hs rest → length rest ≤ length octets
head_shorter octets hs rest is =
    omega (arith, ap length is.joined, length-append is.line (13 ∷ 10 ∷ is.text), body_shorter is.text hs rest is.are)

length_at : (a b : List (List ℕ)) (size : ℕ) → a ≡ b → LengthOf a size → LengthOf b size
length_at a b size e is = rw e at is

-- the length of another reading of the head
pub body_of : (octets : List ℕ) (hs hs' : List Header) (rest rest' : List ℕ) → HasHead octets hs rest → HasHead octets hs' rest'
    → (body : ℕ) → LengthOf (values_at ContentLength hs') body → LengthOf (values_at ContentLength hs) body
body_of octets hs hs' rest rest' is is' body said' =
    let k = same_head octets hs hs' rest rest' is is' in
    length_at (values_at ContentLength hs') (values_at ContentLength hs) body (ap (values_at ContentLength) (sym k.0)) said'

one_size : (octets : List ℕ) (a b : ℕ) → SaysLength octets a → SaysLength octets b → a ≡ b
one_size octets a b is is' =
    let k = same_head octets is.headers is'.headers is.rest is'.rest is.head is'.head in
    let body : is.body ≡ is'.body =
    one_length (values_at ContentLength is.headers) is.body is'.body is.is_body
    (body_of octets is.headers is'.headers is.rest is'.rest is.head is'.head is'.body is'.is_body) in
    omega (arith, is.is, is'.is, body, ap length k.1)

-- ---- what is answered without a head

module _ (octets : List ℕ) (no_head : (hs : List Header) (rest : List ℕ) → HasHead octets hs rest → ⊥) where
  pub no_frame : (size : ℕ) → IsFrame octets size → ⊥
  no_frame size is = no_head is.says.headers is.says.rest is.says.head

  pub no_bad_length : HasBadLength octets → ⊥
  no_bad_length is = no_head is.headers is.rest is.head

  pub not_too_long : length octets < 65535 → IsTooLong octets → ⊥
  not_too_long short (said size says over) = no_head says.headers says.rest says.head
  not_too_long short (headless long none) = omega arith

-- ---- with a head that says no length

module _ (octets : List ℕ) (hs : List Header) (rest : List ℕ) (head : HasHead octets hs rest)
    (bad : (body : ℕ) → LengthOf (values_at ContentLength hs) body → ⊥) where
  bad_says : (size : ℕ) → SaysLength octets size → ⊥
  bad_says size says = bad says.body (body_of octets hs says.headers rest says.rest head says.head says.body says.is_body)

  pub bad_no_frame : (size : ℕ) → IsFrame octets size → ⊥
  bad_no_frame size is = bad_says size is.says

  pub bad_not_long : IsTooLong octets → ⊥
  bad_not_long (said size says over) = bad_says size says
  bad_not_long (headless long none) = none hs rest head

-- ---- with a head that says a length

-- two answers are one
abbrev Gives : Result (Option ℕ) FrameRefusal → Result (Option ℕ) FrameRefusal → Type 0
Gives a b = a ≡ b

module _ (octets : List ℕ) (hs : List Header) (rest : List ℕ) (head : HasHead octets hs rest) (body found : ℕ)
    (is_body : LengthOf (values_at ContentLength hs) body) (is_found : found ≡ capped body) where
  says : SaysLength octets (length octets - length rest + body)
  says = record {
    headers = hs;
    rest = rest;
    head = head;
    body = body;
    is_body = is_body;
    is = omega (arith, head_shorter octets hs rest head);
  }

  -- the number that is compared is the length, or both are above the limit
  same_or_large : (found ≡ body) ⊎ ((65535 < found) × (65535 < body))
  same_or_large =
      elim (cases_Bool (nat_lt 65535 body)) [
        | inl over ↦ (let large : found ≡ 65536 = rw over at is_found in inr (omega arith, grind (arith, nat_tests)))
        | inr within ↦ inl (rw within at is_found)
      ]

  short_same : length octets - length rest + found ≤ 65535 → found ≡ body
  short_same short =
      elim same_or_large [
        | inl same ↦ same
        | inr large ↦ omega (arith, large.0, short)
      ]

  short_body : length octets - length rest + body ≤ 65535 → found ≡ body
  short_body short =
      elim same_or_large [
        | inl same ↦ same
        | inr large ↦ omega (arith, large.1, short)
      ]

  frame_made : length octets - length rest + found ≤ 65535 → length octets - length rest + found ≤ length octets
      → IsFrame octets (length octets - length rest + found)
  frame_made short within =
      let same = short_same short in
      record {
        says = subst (λ (n : ℕ). SaysLength octets (length octets - length rest + n)) (sym same) says;
        whole = within;
        short = short;
      }

  pub whole_found : (r : Result (Option ℕ) FrameRefusal) → r ≡ sized (length octets) (length octets - length rest + found)
      → IfOk r (λ f. IfSome f (λ size. IsFrame octets size))
  whole_found r e =
      elim (cases_Bool (nat_lt 65535 (length octets - length rest + found))) [
        | inl over ↦ rw (e, over) tt
        | inr small ↦ elim (cases_Bool (nat_lt (length octets) (length octets - length rest + found))) [
          | inl more ↦ rw (e, small, more) tt
          | inr within ↦ rw (e, small, within) (frame_made (grind (arith, nat_tests)) (grind (arith, nat_tests)))
        ]
      ]

  pub frame_found : (r : Result (Option ℕ) FrameRefusal) → r ≡ sized (length octets) (length octets - length rest + found)
      → (size : ℕ) → IsFrame octets size → r ≡ Ok (Some size)
  frame_found r e size is =
      let one : size ≡ length octets - length rest + body = one_size octets size (length octets - length rest + body) is.says says in
      let same : found ≡ body = short_body (omega (arith, one, is.short)) in
      let number : length octets - length rest + found ≡ size = omega arith in
      let small : nat_lt 65535 (length octets - length rest + found) ≡ false = grind (arith, nat_tests, is.short) in
      let within : nat_lt (length octets) (length octets - length rest + found) ≡ false = grind (arith, nat_tests, is.whole) in
      rw (e, small, within) (ap (λ (n : ℕ). Ok (Some n)) number)

  pub no_bad : (r : Result (Option ℕ) FrameRefusal) → r ≡ sized (length octets) (length octets - length rest + found)
      → r ≡ Err BadLength → ⊥
  no_bad r e bad =
      elim (cases_Bool (nat_lt 65535 (length octets - length rest + found))) [
        | inl over ↦ (let no : Gives (Err TooLong) (Err BadLength) = rw over at (sym e ∙ bad) in absurd cc)
        | inr small ↦ elim (cases_Bool (nat_lt (length octets) (length octets - length rest + found))) [
          | inl more ↦ (let no : Gives (Ok None) (Err BadLength) = rw (small, more) at (sym e ∙ bad) in absurd cc)
          | inr within ↦ (let no : Gives (Ok (Some (length octets - length rest + found))) (Err BadLength) =
              rw (small, within) at (sym e ∙ bad) in absurd cc)
        ]
      ]

  pub not_bad : HasBadLength octets → ⊥
  not_bad is = is.bad body (body_of octets is.headers hs is.rest rest is.head head body is_body)

  pub long_found : (r : Result (Option ℕ) FrameRefusal) → r ≡ sized (length octets) (length octets - length rest + found)
      → r ≡ Err TooLong → IsTooLong octets
  long_found r e long =
      elim (cases_Bool (nat_lt 65535 (length octets - length rest + found))) [
        | inl over ↦ (
            let large : 65535 < length octets - length rest + body = elim same_or_large [
              | inl same ↦ grind (arith, nat_tests, same)
              | inr both ↦ omega (arith, both.1)
            ] in
            said (length octets - length rest + body) says large)
        | inr small ↦ elim (cases_Bool (nat_lt (length octets) (length octets - length rest + found))) [
          | inl more ↦ (let no : Gives (Ok None) (Err TooLong) = rw (small, more) at (sym e ∙ long) in absurd cc)
          | inr within ↦ (let no : Gives (Ok (Some (length octets - length rest + found))) (Err TooLong) =
              rw (small, within) at (sym e ∙ long) in absurd cc)
        ]
      ]

  pub long_again : (r : Result (Option ℕ) FrameRefusal) → r ≡ sized (length octets) (length octets - length rest + found)
      → IsTooLong octets → r ≡ Err TooLong
  long_again r e (said size says' over) =
      let one : size ≡ length octets - length rest + body = one_size octets size (length octets - length rest + body) says' says in
      let large : 65535 < length octets - length rest + found = elim same_or_large [
        | inl same ↦ omega (arith, same, one, over)
        | inr both ↦ omega (arith, both.0)
      ] in
      let is : nat_lt 65535 (length octets - length rest + found) ≡ true = grind (arith, nat_tests, large) in
      rw (e, is) refl
  long_again r e (headless long none) = absurd (none hs rest head)
