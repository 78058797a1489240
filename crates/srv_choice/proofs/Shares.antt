-- How many numbers pick each of the competing records.
use Rattle.std.proofs.Common.{◌≡◌, ◌≢◌, ℕ, ◌+◌, ◌≤◌, ◌<◌, ◌==◌, suc, zero, Bool, true, false, cond, List, [], ◌∷◌, ◌++◌, Contains, count_by, find, refl, sym, ◌∙◌, ap, subst, inl, inr, arith, nat_eq, nat_le, Some}
use Rattle.std.specs.List.{range_with_len, IsDistinct, AllByRecursion}
use Rattle.std.specs.Option.{option_map, option_map_or}
use Rattle.std.proofs.lemmas.Bool.{eq-eqb, ne_eqb, le-leb, lt-leb}
use Rattle.std.proofs.lemmas.List.Sums.{sum_by-append, sum_by-cons}
use Rattle.std.proofs.lemmas.Map.Keys.{IsDistinct-head, IsDistinct-tail}
use Rattle.dns_message.specs.declared.srv.SrvRecord.{SrvRecord}
use Rattle.srv_choice.specs.Chances.{chances, is_picked}
use Rattle.srv_choice.specs.SrvOrder as spec
use Rattle.srv_choice.proofs.Members.{Member, Apart}

-- ---- counts over numbers in a row

range_split : (a b m n : ℕ) → b ≡ a + m → range_with_len a (m + n) ≡ range_with_len a m ++ range_with_len b n
range_split a b zero n is =
    let e : a ≡ b = omega arith in let z : 0 + n ≡ n = omega arith in ap (range_with_len a) z ∙ ap (λ x. range_with_len x n) e
range_split a b (suc m) n is =
    let e : suc m + n ≡ suc (m + n) = omega arith in
    ap (range_with_len a) e ∙ ap (λ xs. a ∷ xs) (range_split (a + 1) b m n (omega arith))

count_constant : (p : ℕ → Bool) (b : Bool) (a n : ℕ) → ((k : ℕ) → a ≤ k → k < a + n → p k ≡ b)
    → count_by p (range_with_len a n) ≡ cond b n 0
count_constant p true a zero each = refl
count_constant p false a zero each = refl
count_constant p true a (suc n) each =
    let later = count_constant p true (a + 1) n (λ k low high. each k (omega arith) (omega arith)) in
    sum_by-cons (λ x. cond (p x) 1 0) a (range_with_len (a + 1) n) ∙ rw (each a (omega arith) (omega arith)) (omega (arith, later))
count_constant p false a (suc n) each =
    let later = count_constant p false (a + 1) n (λ k low high. each k (omega arith) (omega arith)) in
    sum_by-cons (λ x. cond (p x) 1 0) a (range_with_len (a + 1) n) ∙ rw (each a (omega arith) (omega arith)) (omega (arith, later))

count_agree : (p q : ℕ → Bool) (a n : ℕ) → ((k : ℕ) → a ≤ k → k < a + n → p k ≡ q k)
    → count_by p (range_with_len a n) ≡ count_by q (range_with_len a n)
count_agree p q a zero each = refl
count_agree p q a (suc n) each =
    let later = count_agree p q (a + 1) n (λ k low high. each k (omega arith) (omega arith)) in
    sum_by-cons (λ x. cond (p x) 1 0) a (range_with_len (a + 1) n)
    ∙ rw (each a (omega arith) (omega arith)) (omega (arith, later))
    ∙ sym (sum_by-cons (λ x. cond (q x) 1 0) a (range_with_len (a + 1) n))

-- ---- members of lists

pub Member-Contains : (x : ℕ) (xs : List ℕ) → Contains xs x → Member x xs
Member-Contains x [] at = absurd (omega (arith, at.1))
Member-Contains x (y ∷ ys) (zero, within, is) = inl is
Member-Contains x (y ∷ ys) (suc k, within, is) = inr (Member-Contains x ys (k, omega arith, is))

differs : (x y : ℕ) (ys : List ℕ) → AllByRecursion (λ z. nat_eq x z ≡ false) ys → Member y ys → x ≢ y
differs x y [] apart m = elim m [ ]
differs x y (z ∷ zs) apart (inl is) = λ same. let e : nat_eq x z ≡ true = eq-eqb x z (same ∙ sym is) in let f = apart.0 in cc
differs x y (z ∷ zs) apart (inr m) = differs x y zs apart.1 m

pub Apart-IsDistinct : (xs : List ℕ) → IsDistinct nat_eq xs → Apart xs
Apart-IsDistinct [] distinct = tt
Apart-IsDistinct (x ∷ xs) distinct =
    (λ m. differs x x xs (IsDistinct-head nat_eq x xs distinct) m refl, Apart-IsDistinct xs (IsDistinct-tail nat_eq x xs distinct))

module _ (records : List SrvRecord) where
  -- the same test where the weights in front are already this much
  abbrev picked_from : ℕ → List ℕ → ℕ → ℕ → Bool
  picked_from sum indexes index number =
      option_map_or
      (λ picked. picked == index)
      (option_map (λ entry. entry.0) (find (λ entry. nat_le number entry.1) (spec.running_sums records sum indexes))) false

  reached : (sum x : ℕ) (xs : List ℕ) (index k : ℕ) → k ≤ sum + spec.weight_at records x → picked_from sum (x ∷ xs) index k ≡ (x == index)
  reached sum x xs index k low = rw (le-leb k (sum + spec.weight_at records x) low) refl

  passed : (sum x : ℕ) (xs : List ℕ) (index k : ℕ) → sum + spec.weight_at records x < k
      → picked_from sum (x ∷ xs) index k ≡ picked_from (sum + spec.weight_at records x) xs index k
  passed sum x xs index k high =
      let not_yet : nat_le k (sum + spec.weight_at records x) ≡ false = lt-leb k (sum + spec.weight_at records x) high in
      rw not_yet refl

  absent : (sum : ℕ) (xs : List ℕ) (index k : ℕ) → (Member index xs → ⊥) → picked_from sum xs index k ≡ false
  absent sum [] index k none = refl
  absent sum (x ∷ xs) index k none =
      step (nat_le k (sum + spec.weight_at records x)) (absent (sum + spec.weight_at records x) xs index k (λ m. none (inr m)))
    where
      step : (b : Bool) → picked_from (sum + spec.weight_at records x) xs index k ≡ false
          → option_map_or (λ picked. picked == index) (option_map (λ entry. entry.0)
          (cond b (Some (x, sum + spec.weight_at records x))
          (find (λ entry. nat_le k entry.1) (spec.running_sums records (sum + spec.weight_at records x) xs)))) false ≡ false
      step true later = ne_eqb x index (λ is. none (inl is))
      step false later = later

  share_from : (sum start : ℕ) (xs : List ℕ) (index : ℕ) → start ≡ sum + 1 → Apart xs → Member index xs
      → count_by (picked_from sum xs index) (range_with_len start (spec.weight_sum records xs)) ≡ spec.weight_at records index
  share_from sum start [] index at apart m = elim m [ ]
  share_from sum start (x ∷ xs) index at apart m =
      rw (sum_by-cons (spec.weight_at records) x xs)
      (rw (range_split start (start + spec.weight_at records x) (spec.weight_at records x) (spec.weight_sum records xs) refl)
      (sum_by-append _ (range_with_len start (spec.weight_at records x))
      (range_with_len (start + spec.weight_at records x) (spec.weight_sum records xs))
      ∙ step (λ later. share_from (sum + spec.weight_at records x) (start + spec.weight_at records x) xs index
      (omega arith) apart.1 later) m))
    where
      own : (b : Bool) → (x == index) ≡ b
          → count_by (picked_from sum (x ∷ xs) index) (range_with_len start (spec.weight_at records x))
          ≡ cond b (spec.weight_at records x) 0
      own b is = count_constant (picked_from sum (x ∷ xs) index) b start (spec.weight_at records x)
          (λ k low high. reached sum x xs index k (omega arith) ∙ is)

      others : count_by (picked_from sum (x ∷ xs) index) (range_with_len (start + spec.weight_at records x) (spec.weight_sum records xs))
          ≡ count_by (picked_from (sum + spec.weight_at records x) xs index)
          (range_with_len (start + spec.weight_at records x) (spec.weight_sum records xs))
      others = count_agree _ _ (start + spec.weight_at records x) (spec.weight_sum records xs)
          (λ k low high. passed sum x xs index k (omega arith))

      step : (Member index xs → count_by (picked_from (sum + spec.weight_at records x) xs index)
          (range_with_len (start + spec.weight_at records x) (spec.weight_sum records xs)) ≡ spec.weight_at records index)
          → Member index (x ∷ xs)
          → count_by (picked_from sum (x ∷ xs) index) (range_with_len start (spec.weight_at records x))
          + count_by (picked_from sum (x ∷ xs) index) (range_with_len (start + spec.weight_at records x) (spec.weight_sum records xs))
          ≡ spec.weight_at records index
      step others_share (inl is) =
          let a = own true (eq-eqb x index is) in
          let none = count_constant (picked_from (sum + spec.weight_at records x) xs index) false (start + spec.weight_at records x)
          (spec.weight_sum records xs)
          (λ k low high. absent (sum + spec.weight_at records x) xs index k (subst (λ z. Member z xs → ⊥) is apart.0)) in
          let same : spec.weight_at records x ≡ spec.weight_at records index = ap (spec.weight_at records) is in
          omega (arith, a, others, none, same)
      step others_share (inr later) =
          let a = own false (ne_eqb x index (λ is. apart.0 (subst (λ z. Member z xs) (sym is) later))) in
          let rest = others_share later in
          omega (arith, a, others, rest)

  shares : (first : ℕ) (others : List ℕ) (index : ℕ) → IsDistinct nat_eq (first ∷ others) → Member index (first ∷ others)
      → chances records (first ∷ others) index ≡ cond (first == index) 1 0 + spec.weight_at records index
  shares first others index distinct m =
      let total = spec.weight_sum records (first ∷ others) in
      let more : total + 1 ≡ suc total = omega arith in
      let none : is_picked records (first ∷ others) index 0 ≡ (first == index) = reached 0 first others index 0 (omega arith) in
      rw more
      (sum_by-cons (λ k. cond (is_picked records (first ∷ others) index k) 1 0) 0 (range_with_len (0 + 1) total)
      ∙ rw none (ap
      (λ n. cond (first == index) 1 0 + n)
      (share_from 0 (0 + 1) (first ∷ others) index refl (Apart-IsDistinct (first ∷ others) distinct) m)))

  pub first_share : (first : ℕ) (others : List ℕ) → IsDistinct nat_eq (first ∷ others)
      → chances records (first ∷ others) first ≡ spec.weight_at records first + 1
  first_share first others distinct =
      shares first others first distinct (inl refl) ∙ rw (eq-eqb first first refl) (omega arith)

  pub other_share : (first : ℕ) (others : List ℕ) (index : ℕ) → IsDistinct nat_eq (first ∷ others) → Contains others index
      → chances records (first ∷ others) index ≡ spec.weight_at records index
  other_share first others index distinct at =
      let m = Member-Contains index others at in
      let other : (first == index) ≡ false =
      ne_eqb first index (differs first index others (IsDistinct-head nat_eq first others distinct) m) in
      shares first others index distinct (inr m) ∙ rw other (omega arith)
