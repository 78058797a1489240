-- How the counts of all seats move with the log.
use Rattle.std.proofs.Common.{◌≡◌, ◌≢◌, ℕ, zero, suc, ◌+◌, ◌<◌, ◌==◌, Bool, true, false}
use Rattle.std.proofs.Common.{List, [], ◌∷◌, ◌++◌, length, refl, ap, sym, ◌∙◌, arith, set}
use Rattle.std.proofs.lemmas.List.{append-nil}
use Rattle.std.proofs.lemmas.Bool.Decides.{nat_tests}
use Rattle.logbook.specs.Pages.{Cell, cell}
use Rattle.answer_log.specs.declared.event.Event.{Event}
use Rattle.answer_log.specs.declared.event.Counted.{Counted}
use Rattle.answer_log.specs.Logs.{seat_of}
use Rattle.answer_log.specs.Counts.{plus_if, count, counts, counts_from, Counts}
use Rattle.answer_log.proofs.Cells.{same-cell}
use Rattle.answer_log.proofs.Logs.{Quiet}

test-same : (m n : ℕ) (b : Bool) → (m == n) ≡ b → m ≡ n → b ≡ true
test-same m n true is e = refl
test-same m n false is e = absurd (grind (arith, nat_tests))

test-other : (m n : ℕ) (b : Bool) → (m == n) ≡ b → m ≢ n → b ≡ false
test-other m n true is ne = absurd (ne (grind (arith, nat_tests)))
test-other m n false is ne = refl

pub count-here : (s : ℕ) (log : List Event) (e : Event) → (seat_of e) ≡ s → count s (log ++ e ∷ []) ≡ suc (count s log)
count-here s [] e is = ap (λ (b : Bool). plus_if b 0) (test-same (seat_of e) s ((seat_of e) == s) refl is)
count-here s (x ∷ log) e is = ap (λ (n : ℕ). plus_if ((seat_of x) == s) n) (count-here s log e is) ∙ swap ((seat_of x) == s) (count s log)
  where
    swap : (b : Bool) (n : ℕ) → plus_if b (suc n) ≡ suc (plus_if b n)
    swap true n = refl
    swap false n = refl

pub count-else : (s : ℕ) (log : List Event) (e : Event) → (seat_of e) ≢ s → count s (log ++ e ∷ []) ≡ count s log
count-else s [] e ne = ap (λ (b : Bool). plus_if b 0) (test-other (seat_of e) s ((seat_of e) == s) refl ne)
count-else s (x ∷ log) e ne = ap (λ (n : ℕ). plus_if ((seat_of x) == s) n) (count-else s log e ne)

pub counts-length : (k n : ℕ) (log : List Event) → length (counts_from k n log) ≡ n
counts-length k zero log = refl
counts-length k (suc n) log = ap suc (counts-length (suc k) n log)

pub counts-cell : (k n i : ℕ) (log : List Event) → i < n → cell (counts_from k n log) i ≡ (count (k + i) log, true)
counts-cell k zero i log h = absurd (omega arith)
counts-cell k (suc n) zero log h = let z : k ≡ k + 0 = omega arith in ap (λ (m : ℕ). (count m log, true)) z
counts-cell k (suc n) (suc i) log h = let z : suc k + i ≡ k + suc i = omega arith in counts-cell (suc k) n i log (omega arith) ∙ ap
    (λ (m : ℕ). (count m log, true)) z

counts-below : (k n : ℕ) (log : List Event) (e : Event) → (seat_of e) < k → counts_from k n (log ++ e ∷ []) ≡ counts_from k n log
counts-below k zero log e h = refl
counts-below k (suc n) log e h = λ i.
    ((count-else k log e (λ q. absurd (omega arith)) i, true) ∷ counts-below (suc k) n log e (omega arith) i)

counts-add : (k n j : ℕ) (log : List Event) (e : Event) → (seat_of e) ≡ k + j → j < n
    → counts_from k n (log ++ e ∷ []) ≡ set (counts_from k n log) j (suc (count (seat_of e) log), true)
counts-add k zero j log e is h = absurd (omega arith)
counts-add k (suc n) zero log e is h = let z : (seat_of e) ≡ k = omega arith in λ i.
    (((count-here k log e z ∙ ap (λ (m : ℕ). suc (count m log)) (sym z)) i, true) ∷ counts-below (suc k) n log e (omega arith) i)
counts-add k (suc n) (suc j) log e is h = λ i.
    ((count-else k log e (λ q. absurd (omega arith)) i, true) ∷ counts-add (suc k) n j log e (omega arith) (omega arith) i)

abbrev pub kept_answer : ℕ → Counted
kept_answer n = record { before = n; after = n }

abbrev pub more_answer : ℕ → Counted
more_answer n = record { before = n; after = n + 1 }

pub counts-at : (s : ℕ) (log : List Event) → s < 64 → cell (counts log) s ≡ (count s log, true)
counts-at s log low = let z : 0 + s ≡ s = omega arith in counts-cell 0 64 s log low ∙ ap (λ (m : ℕ). (count m log, true)) z

pub counts_keep : (ask : Event) (log : List Event) → (seat_of ask) < 64 → Counts ask log (log ++ []) (kept_answer (count (seat_of ask) log))
counts_keep ask log low = let here = counts-at (seat_of ask) log low in record {
  seat = let l = counts-length 0 64 log in omega arith;
  here = here;
  moved = ap counts (append-nil log) ∙ sym
      (same-cell (counts log) (seat_of ask) (count (seat_of ask) log) (ap (λ (c : Cell). c.1) here) (ap (λ (c : Cell). c.0) (sym here)));
}

pub counts_add : (ask e : Event) (log : List Event) → seat_of e ≡ seat_of ask → seat_of ask < 64
    → Counts ask log (log ++ e ∷ []) (more_answer (count (seat_of ask) log))
counts_add ask e log same low =
    let z : suc (count (seat_of e) log) ≡ count (seat_of ask) log + 1 = ap (λ (s : ℕ). suc (count s log)) same ∙
    (let q : suc (count (seat_of ask) log) ≡ count (seat_of ask) log + 1 = omega arith in q) in record {
      seat = let l = counts-length 0 64 log in omega arith;
      here = counts-at (seat_of ask) log low;
      moved = counts-add 0 64 (seat_of ask) log e (omega (arith, same)) low ∙ ap (λ (m : ℕ). set (counts log) (seat_of ask) (m, true)) z;
    }

count-append : (s : ℕ) (xs ys : List Event) → count s (xs ++ ys) ≡ count s xs + count s ys
count-append s [] ys = omega arith
count-append s (x ∷ xs) ys = ap (λ (n : ℕ). plus_if (seat_of x == s) n) (count-append s xs ys) ∙ over (seat_of x == s) (count s xs)
    (count s ys)
  where
    over : (b : Bool) (m n : ℕ) → plus_if b (m + n) ≡ plus_if b m + n
    over true m n = omega arith
    over false m n = refl

quiet-when : (s : ℕ) (x : Event) (n : ℕ) (b : Bool) → (seat_of x == s) ≡ b → plus_if b n ≡ 0 → (seat_of x ≢ s) × (n ≡ 0)
quiet-when s x n true is none = absurd (omega arith)
quiet-when s x n false is none = ((λ p. absurd (grind (arith, nat_tests))), none)

count-quiet : (s : ℕ) (xs : List Event) → count s xs ≡ 0 → Quiet s xs
count-quiet s [] none = tt
count-quiet s (x ∷ xs) none = let r = quiet-when s x (count s xs) (seat_of x == s) refl none in (r.0, count-quiet s xs r.1)

-- where a seat's count is as it was, the seat was quiet
pub count-same : (s : ℕ) (v g w : List Event) → v ++ g ≡ w → count s w ≡ count s v → Quiet s g
count-same s v g w p same = let n : count s w ≡ count s v + count s g = ap (count s) (sym p) ∙ count-append s v g in count-quiet s g
    (omega arith)

-- what lies between two logs with as many events of a seat has as many
pub count-between : (s : ℕ) (v a b w : List Event) → (v ++ a) ++ b ≡ w → count s w ≡ count s v → count s (v ++ a) ≡ count s v
count-between s v a b w p same =
    let whole = ap (count s) (sym p) ∙ count-append s (v ++ a) b in
    let front = count-append s v a in
    omega arith
