-- The headers of a URI are what their reader accepts.
use Rattle.std.proofs.Common.{◌≡◌, ℕ, ◌<◌, true, false, not, List, [], ◌∷◌, ◌++◌, length, Option, Some, None, Ok, Err, refl, sym, ap, ◌∙◌, inl, inr, arith, eqb}
use Rattle.std.specs.List.{AllByRecursion, list_all, join_with_byte}
use Rattle.std.specs.Char.{is_ascii_hexdigit}
use Rattle.std.proofs.lemmas.Bool.{cases_Bool}
use Rattle.std.proofs.lemmas.List.Splits.{join_with_byte-slice_split, length-slice_split}
use Rattle.ip_text.specs.Parts.{before, behind, parted}
use Rattle.sip_uri.specs.Classes.{is_header_octet}
use Rattle.sip_uri.specs.Readers.Runs.{is_some_run}
use Rattle.sip_uri.specs.Uris.{IsSomeRun, HeaderText, headers_text}
use Rattle.sip_uri.specs.Readers.Uris.{is_header_value, is_header, check_headers}
use Rattle.sip_uri.specs.declared.refusal.UriRefusal.TheVariants.{BadHeader}
use Rattle.ip_text.proofs.Cutting.{lacks, back, joined, at_first, parts-joined}
use Rattle.ip_text.proofs.Lists.{all-append}
use Rattle.sip_uri.proofs.RunTexts.{run_read, run_again, some_read, some_again, run_lacks}
use Rattle.sip_uri.proofs.DomainTexts.{both_of}

-- ---- headers

value_read : (name : List ℕ) (o : Option (List ℕ)) → IsSomeRun is_header_octet name → is_header_value o ≡ true
    → HeaderText (name ++ back 61 o)
value_read name None is e = absurd cc
value_read name (Some value) is e =
    record { name = name; value = value; joined = refl; is_name = is; is_value = run_read is_header_octet value e }

header_read : (text : List ℕ) → is_header text ≡ true → HeaderText text
header_read text e =
    let k = both_of (is_some_run is_header_octet (before 61 text)) (is_header_value (behind 61 text)) e in
    rw (joined 61 text) at (value_read (before 61 text) (behind 61 text) (some_read is_header_octet (before 61 text) k.0) k.1)

header_again : (text : List ℕ) → HeaderText text → is_header text ≡ true
header_again text is =
    let k = at_first 61 is.name is.value (run_lacks is_header_octet 61 refl refl refl is.name is.is_name.run) in
    rw is.joined (rw (k.0, k.1)
    (rw (some_again is_header_octet refl is.name is.is_name) (run_again is_header_octet refl is.value is.is_value)))

headers_read : (texts : List (List ℕ)) → list_all is_header texts ≡ true → AllByRecursion HeaderText texts
headers_read [] e = tt
headers_read (text ∷ texts) e =
    let k = both_of (is_header text) (list_all is_header texts) e in
    (header_read text k.0, headers_read texts k.1)

headers_again : (texts : List (List ℕ)) → AllByRecursion HeaderText texts → list_all is_header texts ≡ true
headers_again [] are = refl
headers_again (text ∷ texts) are = rw (header_again text are.0) (headers_again texts are.1)

header_lacks : (octet : ℕ) → is_header_octet octet ≡ false → is_ascii_hexdigit octet ≡ false → eqb 37 octet ≡ false → eqb 61 octet ≡ false
    → (text : List ℕ) → HeaderText text → lacks octet text ≡ true
header_lacks octet other no_digit no_percent no_equals text is =
    rw is.joined (all-append
    (λ (x : ℕ). not (eqb x octet)) is.name (61 ∷ is.value)
    (run_lacks is_header_octet octet other no_digit no_percent is.name is.is_name.run)
    (rw no_equals (run_lacks is_header_octet octet other no_digit no_percent is.value is.is_value)))

headers_lack : (octet : ℕ) → is_header_octet octet ≡ false → is_ascii_hexdigit octet ≡ false → eqb 37 octet ≡ false → eqb 61 octet ≡ false
    → (texts : List (List ℕ)) → AllByRecursion HeaderText texts
    → AllByRecursion (λ (text : List ℕ). lacks octet text ≡ true) texts
headers_lack octet other no_digit no_percent no_equals [] are = tt
headers_lack octet other no_digit no_percent no_equals (text ∷ texts) are =
    (header_lacks octet other no_digit no_percent no_equals text are.0, headers_lack octet other no_digit no_percent no_equals texts are.1)

joined_lacks : (octet separator : ℕ) → eqb separator octet ≡ false → (texts : List (List ℕ))
    → AllByRecursion (λ (text : List ℕ). lacks octet text ≡ true) texts → lacks octet (join_with_byte separator texts) ≡ true
joined_lacks octet separator other [] each = refl
joined_lacks octet separator other (text ∷ []) each = each.0
joined_lacks octet separator other (text ∷ next ∷ texts) each =
    all-append (λ (x : ℕ). not (eqb x octet)) text (separator ∷ join_with_byte separator (next ∷ texts)) each.0
    (rw other (joined_lacks octet separator other (next ∷ texts) each.1))

pub headers_no_at : (texts : List (List ℕ)) → AllByRecursion HeaderText texts → lacks 64 (headers_text texts) ≡ true
headers_no_at [] are = refl
headers_no_at (text ∷ texts) are = joined_lacks 64 38 refl (text ∷ texts) (headers_lack 64 refl refl refl refl (text ∷ texts) are)

-- what follows the first `?`
abbrev pub headers_of : List (List ℕ) → Option (List ℕ)
headers_of [] = None
headers_of (text ∷ texts) = Some (join_with_byte 38 (text ∷ texts))

pub headers_back : (texts : List (List ℕ)) → headers_text texts ≡ back 63 (headers_of texts)
headers_back [] = refl
headers_back (text ∷ texts) = refl

some_headers : (texts : List (List ℕ)) → 0 < length texts → headers_text texts ≡ 63 ∷ join_with_byte 38 texts
some_headers [] some = absurd (omega arith)
some_headers (text ∷ texts) some = refl

pub record HeadersRead (o : Option (List ℕ)) : Type 0 where
  pub headers : List (List ℕ)
  pub are : AllByRecursion HeaderText headers
  pub text_is : back 63 o ≡ headers_text headers

pub check_read : (o : Option (List ℕ)) → check_headers o ≡ Ok tt → HeadersRead o
unfolding check_headers
check_read None e = record { headers = []; are = tt; text_is = refl }
check_read (Some text) e =
    elim (cases_Bool (list_all is_header (parted 38 text))) [
      | inl good ↦ record {
        headers = parted 38 text;
        are = headers_read (parted 38 text) good;
        text_is = sym
            (some_headers (parted 38 text) (omega (arith, length-slice_split (λ (x : ℕ). eqb x 38) text)) ∙ ap
            (λ (t : List ℕ). 63 ∷ t) (join_with_byte-slice_split 38 text));
      }
      | inr bad ↦ (let no : Err BadHeader ≡ Ok tt = rw bad at e in absurd cc)
    ]

pub check_again : (texts : List (List ℕ)) → AllByRecursion HeaderText texts → check_headers (headers_of texts) ≡ Ok tt
unfolding check_headers
check_again [] are = refl
check_again (text ∷ texts) are =
    let cut : parted 38 (join_with_byte 38 (text ∷ texts)) ≡ text ∷ texts =
    parts-joined 38 (text ∷ texts) (omega arith) (headers_lack 38 refl refl refl refl (text ∷ texts) are) in
    rw (cut, headers_again (text ∷ texts) are) refl
