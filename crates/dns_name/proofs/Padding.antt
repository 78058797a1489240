-- Octets that lie in a value: what is not in use is 0, and four numbers tell whether two are the same.
use Rattle.std.proofs.Common.{◌≡◌, ℕ, zero, suc, ◌+◌, ◌-◌, ◌<◌, ◌≤◌, ◌==◌, Bool, true, inl, inr, List, [], ◌∷◌, ◌++◌, length, take, drop, get_or, slice_range, refl, sym, ap, ◌∙◌, arith}
use Rattle.std.specs.Int.{w64, to_le_bytes}
use Rattle.std.specs.List.{list_all}
use Rattle.std.proofs.lemmas.Bool.Decides.{nat_tests}
use Rattle.std.proofs.lemmas.Bool.{cases_lt}
use Rattle.std.proofs.lemmas.List.{ext_get_or, get_or_past, get_or-take, get_or-drop, get_or-append-add, take_at, take_more, length-append, length-take, length-take-le, length-drop}
use Rattle.std.proofs.lemmas.Nat.{le_bytes_8}
use Rattle.dns_name.specs.Octets.{octets_in, IsPadded, word_from, words_of}

abbrev pub all_zero : List ℕ → Bool
all_zero octets = list_all (λ octet. octet == 0) octets

zero_at : (octets : List ℕ) → all_zero octets ≡ true → (i : ℕ) → get_or octets i 0 ≡ 0
zero_at [] e i = refl
zero_at (octet ∷ octets) e zero = grind (arith, nat_tests)
zero_at (octet ∷ octets) e (suc i) = zero_at octets (grind (arith, nat_tests)) i

-- octets in front of zeros
pub IsPadded-front : (front zeros : List ℕ) (n : ℕ) → length front ≡ n → n ≤ 31 → length zeros ≡ 31 → all_zero zeros ≡ true
    → IsPadded (front ++ drop n zeros) n
IsPadded-front front zeros n size few all-size all = record {
  size = omega (arith, size, few, all-size, length-append front (drop n zeros), length-drop n zeros);
  few = few;
  zeros = λ i le.
      let k : ℕ = i - n in
      let at : i ≡ length front + k = omega (arith, size) in
      rw at (get_or-append-add front (drop n zeros) k 0 ∙ get_or-drop n zeros k 0 ∙ zero_at zeros all (n + k));
}

pub IsPadded-zeros : (zeros : List ℕ) → length zeros ≡ 31 → all_zero zeros ≡ true → IsPadded zeros 0
IsPadded-zeros zeros size all = record { size = size; few = omega arith; zeros = λ i le. zero_at zeros all i }

-- more octets in front, over some of the zeros
pub IsPadded-more : (octets more : List ℕ) (n m : ℕ) → IsPadded octets n → n + length more ≡ m → m ≤ 31
    → IsPadded (take n octets ++ more ++ drop m octets) m
IsPadded-more octets more n m is sum few =
    let front : List ℕ = take n octets ++ more in
    let front-size : length front ≡ m = omega (arith, length-append (take n octets) more, length-take n octets, is.size, few, sum) in
    record {
      size = omega (arith, length-append front (drop m octets), front-size, length-drop m octets, is.size, few);
      few = few;
      zeros = λ i le.
          let k : ℕ = i - m in
          let at : i ≡ length front + k = omega (arith, le, front-size) in
          let out : n ≤ m + k = omega (arith, sum) in
          rw at (get_or-append-add front (drop m octets) k 0 ∙ get_or-drop m octets k 0 ∙ is.zeros (m + k) out);
    }

pub take-more : (octets more : List ℕ) (n m : ℕ) → IsPadded octets n → n + length more ≡ m → m ≤ 31
    → take m (take n octets ++ more ++ drop m octets) ≡ take n octets ++ more
take-more octets more n m is sum few =
    let front : List ℕ = take n octets ++ more in
    let front-size : length front ≡ m = omega (arith, length-append (take n octets) more, length-take n octets, is.size, few, sum) in
    take_at front (drop m octets) m front-size

-- one more of the zeros
pub IsPadded-next : (octets : List ℕ) (n : ℕ) → IsPadded octets n → n + 1 ≤ 31 → IsPadded octets (n + 1)
IsPadded-next octets n is few = record { size = is.size; few = few; zeros = λ i le. is.zeros i (omega arith) }

pub take-next : (octets : List ℕ) (n : ℕ) → IsPadded octets n → n + 1 ≤ 31 → take (n + 1) octets ≡ take n octets ++ 0 ∷ []
take-next octets n is few =
    take_more octets n 0 (omega (arith, is.size)) ∙ ap (λ (octet : ℕ). take n octets ++ octet ∷ []) (is.zeros n (omega arith))

pub used-length : (octets : List ℕ) (n : ℕ) → IsPadded octets n → length (take n octets) ≡ n
used-length octets n is = length-take-le n octets (omega (arith, is.few, is.size))

-- ---- two that have the same numbers

one_of : (l : List ℕ) (s k i : ℕ) → k < 8 → s + k ≡ i → get_or (slice_range l s (s + 8)) k 0 ≡ get_or l i 0
one_of l s k i lt at =
    let within : k < s + 8 - s = omega arith in
    get_or-take (s + 8 - s) (drop s l) k 0 within ∙ get_or-drop s l k 0 ∙ ap (λ (j : ℕ). get_or l j 0) at

module _ (l : List ℕ) (size : length l ≡ 31) (small : (i : ℕ) → get_or l i 0 < 256) (s : ℕ) (within : s + 8 ≤ 31) where
  length-word : length (slice_range l s (s + 8)) ≡ 8
  length-word = omega (arith, size, length-take (s + 8 - s) (drop s l), length-drop s l)

  small-word : (i : ℕ) → get_or (slice_range l s (s + 8)) i 0 < 256
  small-word i =
      elim (cases_lt i 8) [
        | inl lt ↦ rw (one_of l s i (s + i) lt refl) (small (s + i))
        | inr past ↦ (let out : length (slice_range l s (s + 8)) ≤ i = omega (arith, past, length-word) in
            rw (get_or_past (slice_range l s (s + 8)) i 0 out) (omega arith))
      ]

  word_octets : to_le_bytes w64 (word_from l s) ≡ slice_range l s (s + 8)
  word_octets = le_bytes_8 (slice_range l s (s + 8)) (word_from l s) length-word small-word refl

module _ (a b : List ℕ) (size : length a ≡ 31) (size' : length b ≡ 31) (small : (i : ℕ) → get_or a i 0 < 256)
    (small' : (i : ℕ) → get_or b i 0 < 256) where
  same_at : (s : ℕ) → s + 8 ≤ 31 → word_from a s ≡ word_from b s → (i : ℕ) → s ≤ i → i < s + 8 → get_or a i 0 ≡ get_or b i 0
  same_at s within same i low high =
      let parts : slice_range a s (s + 8) ≡ slice_range b s (s + 8) =
      sym (word_octets a size small s within) ∙ ap (to_le_bytes w64) same ∙ word_octets b size' small' s within in
      let k : ℕ = i - s in
      let lt : k < 8 = omega arith in
      let at : s + k ≡ i = omega arith in
      sym (one_of a s k i lt at) ∙ ap (λ (l : List ℕ). get_or l k 0) parts ∙ one_of b s k i lt at

  same_octet : word_from a 0 ≡ word_from b 0 → word_from a 8 ≡ word_from b 8 → word_from a 16 ≡ word_from b 16
      → word_from a 23 ≡ word_from b 23 → (i : ℕ) → i < 31 → get_or a i 0 ≡ get_or b i 0
  same_octet w0 w8 w16 w23 i within =
      elim (cases_lt i 8) [
        | inl lt ↦ same_at 0 (omega arith) w0 i (omega arith) lt
        | inr past ↦ elim (cases_lt i 16) [
          | inl lt ↦ same_at 8 (omega arith) w8 i past lt
          | inr past' ↦ elim (cases_lt i 23) [
            | inl lt ↦ same_at 16 (omega arith) w16 i past' (omega (arith, lt))
            | inr past'' ↦ same_at 23 (omega arith) w23 i past'' within
          ]
        ]
      ]

  pub same_words : words_of a ≡ words_of b → a ≡ b
  same_words same =
      ext_get_or 0 a b (size ∙ sym size') (λ i lt. same_octet (cc) (cc) (cc) (cc) i (omega (arith, lt, size)))

-- ---- two of the same length that are padded

pub same_padded : (a b : List ℕ) (n m : ℕ) → IsPadded a n → IsPadded b m → take n a ≡ take m b → (n ≡ m) × (a ≡ b)
same_padded a b n m is is' same =
    let e : n ≡ m = omega (arith, ap length same, length-take n a, length-take m b, is.few, is'.few, is.size, is'.size) in
    let at : (i : ℕ) → i < length a → get_or a i 0 ≡ get_or b i 0 =
    λ i lt. elim (cases_lt i n) [
      | inl here ↦ (let there : i < m = omega (arith, here, e) in
          sym (get_or-take n a i 0 here) ∙ ap (λ (l : List ℕ). get_or l i 0) same ∙ get_or-take m b i 0 there)
      | inr past ↦ is.zeros i past ∙ sym (is'.zeros i (omega (arith, past, e)))
    ] in
    (e, ext_get_or 0 a b (is.size ∙ sym is'.size) at)

pub octets_in-value : (heap inline : List ℕ) (n : ℕ) → length heap ≡ 0 → octets_in heap inline n ≡ take n inline
octets_in-value [] inline n none = refl
octets_in-value (octet ∷ heap) inline n none = absurd (omega arith)

-- one octet that is 0
pub IsPadded-one : (zeros : List ℕ) → length zeros ≡ 31 → all_zero zeros ≡ true → IsPadded zeros 1
IsPadded-one zeros size all = record { size = size; few = omega arith; zeros = λ i le. zero_at zeros all i }
