-- The first colon of a line.
use Rattle.std.proofs.Common.{◌≡◌, ℕ, suc, ◌+◌, ◌<◌, ◌==◌, Bool, true, false, not, List, [], ◌∷◌, ◌++◌, length, take, drop, get_or, codes, rules, refl, sym, ap, ◌∙◌, arith}
use Rattle.std.specs.List.{list_all, position_or_len, before_first, after_first}
use Rattle.std.specs.Char.{to_ascii_lowercase}
use Rattle.std.proofs.lemmas.Bool.{eqb-true}
use Rattle.std.proofs.lemmas.List.{length-append}
use Rattle.std.proofs.Math.Seq.{take-append_seam, drop-append-add}
use Rattle.dns_name.specs.Labels.{small_letters}
use Rattle.sip_uri.specs.Uris.{UriText}
use Rattle.sip_uri.specs.declared.uri.SipUri.{SipUri}
use Rattle.sip_selection.specs.RequestLines.{BeginsVia}

-- a letter of a word without a colon is none
no_colon : (x k : ℕ) (b : Bool) → (x == 58) ≡ b → to_ascii_lowercase x ≡ k → not (k == 58) ≡ true → (x == 58) ≡ false
no_colon x k false e l n = e
no_colon x k true e l n =
    let is : x ≡ 58 = eqb-true x 58 e in
    let lower : k ≡ 58 = sym l ∙ ap to_ascii_lowercase is in
    let same : (k == 58) ≡ true = rw lower refl in
    absurd cc

-- the first colon stands behind a word without one
place : (word rest key : List ℕ) → small_letters word ≡ key → list_all (λ (k : ℕ). not (k == 58)) key ≡ true
    → position_or_len (λ (b : ℕ). b == 58) (word ++ 58 ∷ rest) ≡ length word
place [] rest key e n = refl
place (x ∷ word) rest [] e n = absurd cc
place (x ∷ word) rest (k ∷ key) e n =
    let first = no_colon x k (x == 58) refl (cc) (search rules) in
    let more = place word rest key (cc) (search rules) in
    rw first (omega arith)

module _ (line word rest key : List ℕ) (joined : line ≡ word ++ 58 ∷ rest) (is : small_letters word ≡ key)
    (none : list_all (λ (k : ℕ). not (k == 58)) key ≡ true) where
  pub at_word : position_or_len (λ (b : ℕ). b == 58) line ≡ length word
  at_word = rw joined (place word rest key is none)

  pub has_colon : position_or_len (λ (b : ℕ). b == 58) line < length line
  has_colon =
      let long : length line ≡ length word + length (58 ∷ rest) = ap length joined ∙ length-append word (58 ∷ rest) in
      let at = at_word in
      omega arith

  pub before_is : before_first (λ (b : ℕ). b == 58) line ≡ word
  before_is = rw (at_word, joined) (take-append_seam word (58 ∷ rest))

  pub after_is : after_first (λ (b : ℕ). b == 58) line ≡ rest
  after_is = rw (at_word, joined) (drop-append-add word (58 ∷ rest) 1)

-- a list, one place on
shift : (n : ℕ) (x : ℕ) (xs : List ℕ) → take (1 + n) (x ∷ xs) ++ 58 ∷ drop (1 + n + 1) (x ∷ xs) ≡ x ∷ (take n xs ++ 58 ∷ drop (n + 1) xs)
shift n x xs =
    let behind : 1 + n + 1 ≡ suc (n + 1) = omega arith in
    let front : 1 + n ≡ suc n = omega arith in
    rw (behind, front) refl

-- a line with a colon is what stands before the first one, the colon, and what stands behind it
around_by : (x : ℕ) (xs : List ℕ) (b : Bool) → (x == 58) ≡ b
    → (position_or_len (λ (b : ℕ). b == 58) xs < length xs → xs ≡ before_first (λ (b : ℕ). b == 58) xs
    ++ 58 ∷ after_first (λ (b : ℕ). b == 58) xs)
    → position_or_len (λ (b : ℕ). b == 58) (x ∷ xs) < length (x ∷ xs)
    → x ∷ xs ≡ before_first (λ (b : ℕ). b == 58) (x ∷ xs) ++ 58 ∷ after_first (λ (b : ℕ). b == 58) (x ∷ xs)
around_by x xs true e h l = rw e (ap (λ (y : ℕ). y ∷ xs) (eqb-true x 58 e))
around_by x xs false e h l =
    let l' : 1 + position_or_len (λ (b : ℕ). b == 58) xs < length (x ∷ xs) = rw e at l in
    rw e (ap (λ (ys : List ℕ). x ∷ ys) (h (omega arith)) ∙ sym (shift (position_or_len (λ (b : ℕ). b == 58) xs) x xs))

pub around : (line : List ℕ) → position_or_len (λ (b : ℕ). b == 58) line < length line
    → line ≡ before_first (λ (b : ℕ). b == 58) line ++ 58 ∷ after_first (λ (b : ℕ). b == 58) line
around [] l = absurd (omega arith)
around (x ∷ xs) l = around_by x xs (x == 58) refl (around xs) l

pub begins : (line word rest : List ℕ) → word ≡ before_first (λ (b : ℕ). b == 58) line → rest ≡ after_first (λ (b : ℕ). b == 58) line
    → position_or_len (λ (b : ℕ). b == 58) line < length line → small_letters word ≡ codes "via" → BeginsVia line rest
begins line word rest e e' l is = record { word = word; joined = rw (e, e') (around line l); is = is }

-- lists differ where their first elements do
heads : (a b : ℕ) (xs ys : List ℕ) → a < b → a ∷ xs ≡ b ∷ ys → ⊥
heads a b xs ys l e =
    let head : a ≡ b = ap (λ (l : List ℕ). get_or l 0 0) e in
    absurd (omega arith)

-- the scheme of a URI is the word before the first colon
scheme_is : (line : List ℕ) (uri : SipUri) (secure : Bool) (text : UriText line uri) → uri.secure ≡ secure
    → small_letters (before_first (λ (b : ℕ). b == 58) line) ≡ codes "via" → ⊥
scheme_is line uri false text e v =
    let is : small_letters text.scheme ≡ codes "sip" = rw e at text.is_scheme in
    let b = before_is line text.scheme _ (codes "sip") text.joined is refl in
    heads 115 118 _ _ (omega arith) (sym is ∙ ap small_letters (sym b) ∙ v)
scheme_is line uri true text e v =
    let is : small_letters text.scheme ≡ codes "sips" = rw e at text.is_scheme in
    let b = before_is line text.scheme _ (codes "sips") text.joined is refl in
    heads 115 118 _ _ (omega arith) (sym is ∙ ap small_letters (sym b) ∙ v)

-- no URI begins with `Via:`
pub not_both : (line rest : List ℕ) (uri : SipUri) → UriText line uri → BeginsVia line rest → ⊥
not_both line rest uri text begins =
    scheme_is line uri uri.secure text refl (ap small_letters (before_is line begins.word rest (codes "via") begins.joined begins.is refl)
    ∙ begins.is)
