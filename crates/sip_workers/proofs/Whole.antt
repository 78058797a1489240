-- Where every worker took an end, each job was worked on once.
use Rattle.std.proofs.Common.{◌≡◌, ℕ, zero, suc, ◌+◌, ◌*◌, ◌<◌, ◌≤◌, List, [], ◌∷◌, ◌++◌, drop, flat_map, get_or, length, replicate, take, refl, sym, ap, ◌∙◌, arith, length-append}
use Rattle.std.proofs.Math.ListN.{get_or-replicate, length-replicate}
use Rattle.std.proofs.Math.Seq.{get_or-append-add, take-add}
use Rattle.std.proofs.lemmas.Bool.Decides.{nat_tests}
use Rattle.std.proofs.lemmas.Grind.{flat_map-append}
use Rattle.std.proofs.lemmas.List.{append-nil}
use Rattle.std.proofs.lemmas.List.Elements.{All-head, All-push, All-tail}
use Rattle.std.proofs.lemmas.List.Folds.{sum_by-replicate}
use Rattle.std.proofs.lemmas.List.Sums.{get_or-le-sum_by, sum_by-append, sum_by-cons}
use Rattle.std.specs.List.{All, sum_by}
use Rattle.sip_workers.specs.Rules.{IsWhole}
use Rattle.sip_workers.specs.Deals.{IsCut, IsInside, IsSome, end_of, jobs_of, no_more}
use Rattle.sip_workers.specs.declared.batch.Batch.{Batch}
use Rattle.sip_worker.specs.declared.job.Job.{Job}

-- ---- batches that are cut

cut-more : (jobs : List Job) (batches : List Batch) (first count : ℕ) → flat_map (jobs_of jobs) batches ≡ take first jobs
    → flat_map (jobs_of jobs) (batches ++ record { first = first; count = count } ∷ []) ≡ take (first + count) jobs
cut-more jobs batches first count before =
    let batch : Batch = record { first = first; count = count } in
    flat_map-append (jobs_of jobs) batches (batch ∷ [])
    ∙ ap (λ l. l ++ (take count (drop first jobs) ++ [])) before
    ∙ ap (λ l. take first jobs ++ l) (append-nil (take count (drop first jobs)))
    ∙ sym (take-add first count jobs)

-- ---- weights

sum-flat : (h : Job → ℕ) (f : Batch → List Job) (xs : List Batch) → sum_by h (flat_map f xs) ≡ sum_by (λ b. sum_by h (f b)) xs
sum-flat h f [] = refl
sum-flat h f (x ∷ xs) =
    let later = sum-flat h f xs in
    omega (arith, later, sum_by-append h (f x) (flat_map f xs), sum_by-cons (λ b. sum_by h (f b)) x xs)

-- no batch that has jobs is an end
no-ends : (batches : List Batch) → All IsSome batches → sum_by end_of batches ≡ 0
no-ends [] some = refl
no-ends (x ∷ xs) some =
    let later = no-ends xs (All-tail IsSome x xs some) in
    let here : end_of x ≡ 0 = none x.count (All-head IsSome x xs some) in
    omega (arith, later, here, sum_by-cons end_of x xs)
  where
    none : (n : ℕ) → 0 < n → end_of (record { first = 0; count = n }) ≡ 0
    none n some = grind (arith, nat_tests)

-- what ends so has an end
last-end : (front gone items : List Batch) (more less : ℕ) → length items ≡ suc less
    → front ++ replicate (suc more) no_more ≡ gone ++ items → 1 ≤ sum_by end_of items
last-end front gone items more less long same =
    let lengths : length front + suc more ≡ length gone + suc less =
    omega (
      arith,
      ap length same,
      length-append front (replicate (suc more) no_more),
      length-append gone items,
      length-replicate
          (suc more) no_more,
      long,
    ) in
    let place : length front + more ≡ length gone + less = omega (arith, lengths) in
    let here : get_or items less no_more ≡ no_more =
    sym (get_or-append-add gone items less no_more)
    ∙ ap (λ l. get_or l (length gone + less) no_more) (sym same)
    ∙ ap (λ n. get_or (front ++ replicate (suc more) no_more) n no_more) (sym place)
    ∙ get_or-append-add front (replicate (suc more) no_more) more no_more
    ∙ get_or-replicate (suc more) more no_more no_more (omega arith) in
    let one : end_of (get_or items less no_more) ≡ 1 = ap end_of here in
    let least = get_or-le-sum_by end_of items less no_more (omega (arith, long)) in
    omega (arith, one, least)

-- nothing is left
none-left : (batches put taken items : List Batch) (more : ℕ) → put ≡ batches ++ replicate (suc more) no_more → All IsSome batches
    → suc more ≤ sum_by end_of taken → IsWhole put taken items → length items ≡ 0
none-left batches put taken [] more is some took it = refl
none-left batches put taken (y ∷ ys) more is some took it =
    let items = y ∷ ys in
    let none = no-ends batches some in
    let ends : sum_by end_of (replicate (suc more) no_more) ≡ suc more * 1 = sum_by-replicate end_of (suc more) no_more in
    let all = it.as_often end_of in
    let sum = ap (sum_by end_of) is in
    let last = last-end batches it.gone items more (length ys) refl (sym is ∙ it.last) in
    absurd (omega (arith, none, ends, all, sum, last, took, sum_by-append end_of batches (replicate (suc more) no_more)))

module _ (jobs : List Job) where
  pub cut-none : IsCut jobs 0 []
  cut-none = record { whole = refl; inside = λ k d lt. absurd (omega arith); some = λ k d lt. absurd (omega arith) }

  pub cut-next : (batches : List Batch) (first count : ℕ) → IsCut jobs first batches → first + count ≤ length jobs → 0 < count
      → IsCut jobs (first + count) (batches ++ record { first = first; count = count } ∷ [])
  cut-next batches first count it inside some = record {
    whole = cut-more jobs batches first count it.whole;
    inside = All-push (IsInside jobs) batches (record { first = first; count = count }) it.inside inside;
    some = All-push IsSome batches (record { first = first; count = count }) it.some some;
  }

  -- as often as it stands in the list
  pub each-once : (batches put taken items : List Batch) (workers : ℕ) (made : List Job) → put ≡ batches ++ replicate workers no_more
      → 0 < workers
      → All IsSome batches → flat_map (jobs_of jobs) batches ≡ jobs → workers ≤ sum_by end_of taken → IsWhole put taken items
      → made ≡ flat_map (jobs_of jobs) taken → (h : Job → ℕ) → sum_by h made ≡ sum_by h jobs
  each-once batches put taken items zero made is workers some whole took it made-is h = absurd (omega (arith, workers))
  each-once batches put taken items (suc more) made is workers some whole took it made-is h =
      let weight : Batch → ℕ = λ b. sum_by h (jobs_of jobs b) in
      let left : sum_by weight items ≡ 0 = nothing weight items (none-left batches put taken items more is some took it) in
      let ends : sum_by weight (replicate (suc more) no_more) ≡ suc more * 0 = sum_by-replicate weight (suc more) no_more in
      let all = it.as_often weight in
      let sum = ap (sum_by weight) is in
      let from = sum-flat h (jobs_of jobs) taken in
      let to = sum-flat h (jobs_of jobs) batches in
      let here = ap (sum_by h) made-is in
      let there = ap (sum_by h) whole in
      omega (arith, left, ends, all, sum, from, to, here, there, sum_by-append weight batches (replicate (suc more) no_more))
    where
      nothing : (f : Batch → ℕ) (items : List Batch) → length items ≡ 0 → sum_by f items ≡ 0
      nothing f [] none = refl
      nothing f (y ∷ ys) none = absurd (omega arith)
