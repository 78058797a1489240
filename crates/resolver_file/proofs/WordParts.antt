-- Words, and the blanks between them.
use Rattle.std.proofs.Common.{◌≡◌, ℕ, ◌+◌, ◌<◌, ◌≤◌, ◌⊎◌, Bool, true, false, List, [], ◌∷◌, ◌++◌, length, take, drop, get_or, refl, sym, ap, ◌∙◌, inl, inr, arith}
use Rattle.std.specs.List.{All, filter, slice_split}
use Rattle.std.proofs.lemmas.Bool.{cases_lt}
use Rattle.std.proofs.lemmas.List.{append-nil, drop_all, drop_more, length-take-le, take_more, take-append-drop}
use Rattle.std.proofs.lemmas.List.Elements.{All-append}
use Rattle.std.proofs.lemmas.List.Splits.{slice_split_at, slice_split_none}
use Rattle.resolver_file.specs.ResolverLines.{is_blank, is_indented, is_word, words_of}

abbrev pub NoBlank : ℕ → Type 0
NoBlank octet = is_blank octet ≡ false

-- a blank in front counts for nothing
pub words_of-blank : (blank : ℕ) (others : List ℕ) → is_blank blank ≡ true → words_of (blank ∷ others) ≡ words_of others
words_of-blank blank others is = rw is refl

kept : (word : List ℕ) (others : List (List ℕ)) → 0 < length word → filter is_word (word ∷ others) ≡ word ∷ filter is_word others
kept [] others some = absurd (omega arith)
kept (first ∷ word) others some = refl

-- a word in front of a blank, or of nothing
words_of-word-by : (word rest : List ℕ) → 0 < length word → All NoBlank word → (is_indented rest ≡ true) ⊎ (rest ≡ [])
    → words_of (word ++ rest) ≡ word ∷ words_of rest
words_of-word-by word [] some all ends =
    rw (append-nil word, slice_split_none is_blank word all) (kept word [] some)
words_of-word-by word (blank ∷ others) some all (inl is) =
    ap (filter is_word) (slice_split_at is_blank word blank others all is) ∙ kept word (slice_split is_blank others) some
    ∙ ap (λ (words : List (List ℕ)). word ∷ words) (sym (words_of-blank blank others is))
words_of-word-by word (blank ∷ others) some all (inr none) = absurd cc

one : (octet : ℕ) → NoBlank octet → All NoBlank (octet ∷ [])
one octet is k d small = let first : k ≡ 0 = omega (arith, small) in rw first is

module _ (text : List ℕ) (at : ℕ) where
  -- one blank more is passed
  pub passes : at < length text → words_of (drop at text) ≡ words_of text → is_blank (get_or text at 0) ≡ true
      → words_of (drop (at + 1) text) ≡ words_of text
  passes within same is =
      let here : words_of (get_or text at 0 ∷ drop (at + 1) text) ≡ words_of text = rw (drop_more text at 0 within) at same in
      sym (words_of-blank (get_or text at 0) (drop (at + 1) text) is) ∙ here

  -- what stands there
  pub stands : (is : Bool) → at < length text → is_blank (get_or text at 0) ≡ is → is_indented (drop at text) ≡ is
  stands is within here = rw (drop_more text at 0 within) here

  -- one octet more is no blank
  pub goes_on : at < length text → All NoBlank (take at text) → is_blank (get_or text at 0) ≡ false → All NoBlank (take (at + 1) text)
  goes_on within all is =
      rw (take_more text at 0 within)
      (All-append NoBlank (take at text) (get_or text at 0 ∷ []) all (one (get_or text at 0) is))

-- at the end nothing is left
pub nothing_left : (text : List ℕ) (at : ℕ) → length text ≤ at → drop at text ≡ []
nothing_left text at end = drop_all at text end

module _ (text : List ℕ) (at : ℕ) (some : 0 < length text) (within : at ≤ length text) (plain : is_indented text ≡ false)
    (stops : at < length text → is_indented (drop at text) ≡ true) where
  -- the word has an octet
  pub has_octets : 0 < at
  has_octets =
      elim (cases_lt 0 at) [
        | inl more ↦ more
        | inr none ↦ (
            let first : at ≡ 0 = omega (arith, none) in
            let stops' = rw first at stops in
            let yes : is_indented text ≡ true = stops' some in absurd cc)
      ]

  ends : (is_indented (drop at text) ≡ true) ⊎ (drop at text ≡ [])
  ends =
      elim (cases_lt at (length text)) [
        | inl more ↦ inl (stops more)
        | inr end ↦ inr (drop_all at text end)
      ]

  -- the first word, and the others
  pub words_of-word : All NoBlank (take at text) → words_of text ≡ take at text ∷ words_of (drop at text)
  words_of-word all =
      let long = length-take-le at text within in
      ap words_of (sym (take-append-drop at text))
      ∙ words_of-word-by (take at text) (drop at text) (let more = has_octets in omega (arith, long, more, within)) all ends
