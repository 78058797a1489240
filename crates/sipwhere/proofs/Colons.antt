-- The first colon of a line, and what stands behind `Via:`.
use Rattle.std.proofs.Common.{◌≡◌, ℕ, ◌+◌, ◌<◌, ◌==◌, Bool, true, false, not, List, [], ◌∷◌, ◌++◌, length, get_or, codes, rules, refl, sym, ap, ◌∙◌, arith}
use Rattle.std.specs.List.{list_all, position_or_len, before_first, after_first}
use Rattle.std.specs.Char.{to_ascii_lowercase}
use Rattle.std.proofs.lemmas.Bool.{eqb-true}
use Rattle.std.proofs.lemmas.List.{length-append}
use Rattle.std.proofs.Math.Seq.{take-append_seam, drop-append-add}
use Rattle.dns_name.specs.Labels.{small_letters}
use Rattle.sip_uri.specs.Uris.{UriText}
use Rattle.sip_uri.specs.declared.uri.SipUri.{SipUri}
use Rattle.sip_selection.specs.RequestLines.{BeginsVia}

-- a letter of a word without a colon is none
no-colon : (x k : ℕ) (b : Bool) → (x == 58) ≡ b → to_ascii_lowercase x ≡ k → not (k == 58) ≡ true → (x == 58) ≡ false
no-colon x k false e l n = e
no-colon x k true e l n =
    let is : x ≡ 58 = eqb-true x 58 e in
    let lower : k ≡ 58 = sym l ∙ ap to_ascii_lowercase is in
    let same : (k == 58) ≡ true = rw lower refl in
    absurd cc

-- the first colon stands behind a word without one
place : (word rest key : List ℕ) → small_letters word ≡ key → list_all (λ (k : ℕ). not (k == 58)) key ≡ true
    → position_or_len (λ (b : ℕ). b == 58) (word ++ 58 ∷ rest) ≡ length word
place [] rest key e n = refl
place (x ∷ word) rest [] e n = absurd cc
place (x ∷ word) rest (k ∷ key) e n =
    let first = no-colon x k (x == 58) refl (cc) (search rules) in
    let more = place word rest key (cc) (search rules) in
    rw first (omega arith)

module _ (line word rest key : List ℕ) (joined : line ≡ word ++ 58 ∷ rest) (is : small_letters word ≡ key)
    (none : list_all (λ (k : ℕ). not (k == 58)) key ≡ true) where
  at-word : position_or_len (λ (b : ℕ). b == 58) line ≡ length word
  at-word = rw joined (place word rest key is none)

  pub before-is : before_first (λ (b : ℕ). b == 58) line ≡ word
  before-is = rw (at-word, joined) (take-append_seam word (58 ∷ rest))

-- ---- Vias

module _ (line rest : List ℕ) (begins : BeginsVia line rest) where
  colon-at : position_or_len (λ (b : ℕ). b == 58) line ≡ length begins.word
  colon-at = at-word line begins.word rest (codes "via") begins.joined begins.is refl

  -- a line has a colon
  pub has-colon : position_or_len (λ (b : ℕ). b == 58) line < length line
  has-colon =
      let long : length line ≡ length begins.word + length (58 ∷ rest) =
      ap length begins.joined ∙ length-append begins.word (58 ∷ rest) in
      let at = colon-at in
      omega arith

  -- what stands behind the first one
  pub behind-is : after_first (λ (b : ℕ). b == 58) line ≡ rest
  behind-is = rw (colon-at, begins.joined) (drop-append-add begins.word (58 ∷ rest) 1)

-- behind `Via:` there is one text
pub one-rest : (line rest other : List ℕ) → BeginsVia line rest → BeginsVia line other → rest ≡ other
one-rest line rest other begins also = sym (behind-is line rest begins) ∙ behind-is line other also

-- ---- URIs

-- lists differ where their first elements do
heads : (a b : ℕ) (xs ys : List ℕ) → a < b → a ∷ xs ≡ b ∷ ys → ⊥
heads a b xs ys l e =
    let head : a ≡ b = ap (λ (l : List ℕ). get_or l 0 0) e in
    absurd (omega (arith, head, l))

-- before the colon of a URI stands its scheme, which is not `via`
scheme-is : (line rest : List ℕ) (uri : SipUri) (secure : Bool) (text : UriText line uri) → uri.secure ≡ secure → BeginsVia line rest → ⊥
scheme-is line rest uri false text e begins =
    let is : small_letters text.scheme ≡ codes "sip" = rw e at text.is_scheme in
    let front = before-is line text.scheme _ (codes "sip") text.joined is refl in
    let word = before-is line begins.word rest (codes "via") begins.joined begins.is refl in
    heads 115 118 _ _ (omega arith) (sym is ∙ ap small_letters (sym front ∙ word) ∙ begins.is)
scheme-is line rest uri true text e begins =
    let is : small_letters text.scheme ≡ codes "sips" = rw e at text.is_scheme in
    let front = before-is line text.scheme _ (codes "sips") text.joined is refl in
    let word = before-is line begins.word rest (codes "via") begins.joined begins.is refl in
    heads 115 118 _ _ (omega arith) (sym is ∙ ap small_letters (sym front ∙ word) ∙ begins.is)

-- no URI begins with `Via:`
pub not-both : (line rest : List ℕ) (uri : SipUri) → UriText line uri → BeginsVia line rest → ⊥
not-both line rest uri text begins = scheme-is line rest uri uri.secure text refl begins
