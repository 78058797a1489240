-- What a gate was told of the jobs of a batch.
use Rattle.std.proofs.Common.{◌≡◌, ◌≢◌, ◌⊎◌, inl, inr, ℕ, zero, suc, ◌+◌, ◌<◌, ◌≤◌, eqb, true, false, List, [], ◌∷◌, get_or, length, refl, sym, ap, ◌∙◌, arith}
use Rattle.std.proofs.lemmas.Bool.{ne_eqb}
use Rattle.std.proofs.lemmas.Bool.Decides.{Decides-eqb, eqb_tells}
use Rattle.std.proofs.lemmas.List.Elements.{All-cons, All-nil}
use Rattle.std.specs.List.{All, sum_by}
use Rattle.sip_resolver.specs.Outcomes.{Sought}
use Rattle.sip_resolver.specs.Requests.{RequestsView, count_of, weight}
use Rattle.sip_resolver.specs.Tasks.{sought_of}
use Rattle.sip_worker.specs.Batches.{AreReported, BatchView, IsDone, IsReported, at_number, sought_at}
use Rattle.sip_worker.specs.Gates.{GateCall, IsToldOf, begins, is_answered}
use Rattle.sip_worker.specs.declared.job.Job.{Job}

-- ---- the job at a place

get-any : (jobs : List Job) (k : ℕ) (d e : Job) → k < length jobs → get_or jobs k d ≡ get_or jobs k e
get-any [] k d e inside = absurd (omega (arith, inside))
get-any (x ∷ jobs) zero d e inside = refl
get-any (x ∷ jobs) (suc k) d e inside = get-any jobs k d e (omega (arith, inside))

same-job : (jobs : List Job) (k : ℕ) (job its : Job) → k < length jobs → job ≡ get_or jobs k job → its ≡ get_or jobs k its → its ≡ job
same-job jobs k job its inside one two = two ∙ get-any jobs k its job inside ∙ sym one

all-by-place : (P : Job → Type 0) (jobs : List Job)
    → ((k : ℕ) (job : Job) → k < length jobs → job ≡ get_or jobs k job → P job) → All P jobs
all-by-place P [] each = All-nil P
all-by-place P (job ∷ jobs) each =
    All-cons P job jobs (each 0 job (omega arith) refl)
    (all-by-place P jobs (λ k its inside is. each (suc k) its (omega (arith, inside)) is))

-- ---- a request weighs at its own place alone

at-own : (place : ℕ) (sought : Sought) → sought.number ≡ place → at_number place sought ≡ 1
at-own place sought is = rw ((Decides-eqb sought.number place).1 is) refl

at-other : (place : ℕ) (sought : Sought) → (sought.number ≡ place → ⊥) → at_number place sought ≡ 0
at-other place sought other = rw (ne_eqb sought.number place other) refl

-- no requests weigh nothing
sum-none : {X : Type 0} (f : X → ℕ) (xs : List X) → length xs ≡ 0 → sum_by f xs ≡ 0
sum-none f [] none = refl
sum-none f (x ∷ xs) none = absurd cc

pub weighs-nothing : (requests : RequestsView) → count_of requests ≡ 0 → (h : Sought → ℕ) → weight h requests ≡ 0
weighs-nothing requests none h =
    let ready = sum-none (λ task. h (sought_of task)) requests.ready (omega (arith, none)) in
    let held = sum-none (λ task. h (sought_of task)) requests.held (omega (arith, none)) in
    let waiting = sum-none (λ waiting. h (sought_of waiting.task)) requests.waiting (omega (arith, none)) in
    let ended = sum-none (λ ended. h ended.sought) requests.ended (omega (arith, none)) in
    omega (arith, ready, held, waiting, ended)

pub is-inside : (place : ℕ) (job : Job) (before after : ℕ) → after ≡ before + at_number place (sought_at place job) → 0 < after
is-inside place job before after is =
    let one = at-own place (sought_at place job) refl in
    omega (arith, is, one)

module _ (told : GateCall → Type 0) where
  -- ---- a job begins

  module _ (jobs : List Job) (begun : ℕ) (old new : RequestsView) (job : Job) where
    begun-at : (place : ℕ) (its : Job) → begun < length jobs → job ≡ get_or jobs begun job → told (begins job.number)
        → (told (is_answered job.number) ⊎ (0 < weight (at_number begun) new))
        → ((h : Sought → ℕ) → h (sought_at begun job) ≡ 0 → weight h new ≡ weight h old)
        → AreReported told jobs begun old → place < begun + 1 → its ≡ get_or jobs place its
        → ((eqb place begun ≡ true) × (place ≡ begun)) ⊎ ((eqb place begun ≡ false) × (place ≢ begun))
        → IsReported told place its new
    begun-at place its more is began ended weighs reported inside its-is (inl same) =
        let here : its ≡ get_or jobs begun its = its-is ∙ ap (λ k. get_or jobs k its) same.1 in
        let own = same-job jobs begun job its more is here in
        rw (own, same.1) (record { began = began; ended = ended })
    begun-at place its more is began ended weighs reported inside its-is (inr other) =
        let different = other.1 in
        let before = reported place its (omega (arith, inside, different)) its-is in
        let same = weighs (at_number place) (at-other place (sought_at begun job) (λ e. different (sym e))) in
        record { began = before.began; ended = rw same before.ended }

    -- one more job was begun: its request is inside, or it was answered
    pub begun-more : begun < length jobs → job ≡ get_or jobs begun job → told (begins job.number)
        → (told (is_answered job.number) ⊎ (0 < weight (at_number begun) new))
        → ((h : Sought → ℕ) → h (sought_at begun job) ≡ 0 → weight h new ≡ weight h old)
        → AreReported told jobs begun old → AreReported told jobs (begun + 1) new
    begun-more more is began ended weighs reported = λ place its inside its-is.
        begun-at place its more is began ended weighs reported inside its-is (eqb_tells place begun)

  -- ---- a job is answered

  module _ (jobs : List Job) (begun : ℕ) (old new : RequestsView) (job : Job) (sought : Sought) where
    ended-at : (place : ℕ) (its : Job) → begun ≤ length jobs → job ≡ get_or jobs sought.number job → told (is_answered job.number)
        → ((h : Sought → ℕ) → weight h old ≡ weight h new + h sought)
        → AreReported told jobs begun old → place < begun → its ≡ get_or jobs place its
        → ((eqb place sought.number ≡ true) × (place ≡ sought.number)) ⊎ ((eqb place sought.number ≡ false) × (place ≢ sought.number))
        → IsReported told place its new
    ended-at place its few is answered weighs reported inside its-is (inl same) =
        let before = reported place its inside its-is in
        let here : its ≡ get_or jobs sought.number its = its-is ∙ ap (λ k. get_or jobs k its) same.1 in
        let at = same.1 in
        let own = same-job jobs sought.number job its (omega (arith, inside, few, at)) is here in
        record { began = before.began; ended = inl (rw own answered) }
    ended-at place its few is answered weighs reported inside its-is (inr other) =
        let different = other.1 in
        let before = reported place its inside its-is in
        let less = weighs (at_number place) in
        let nothing = at-other place sought (λ e. different (sym e)) in
        let same : weight (at_number place) old ≡ weight (at_number place) new = omega (arith, less, nothing) in
        record { began = before.began; ended = rw same at before.ended }

    -- the request of a job was taken out, and the gate was told
    pub ended-more : begun ≤ length jobs → job ≡ get_or jobs sought.number job → told (is_answered job.number)
        → ((h : Sought → ℕ) → weight h old ≡ weight h new + h sought)
        → AreReported told jobs begun old → AreReported told jobs begun new
    ended-more few is answered weighs reported = λ place its inside its-is.
        ended-at place its few is answered weighs reported inside its-is (eqb_tells place sought.number)

  -- ---- nothing begins, and nothing is answered

  pub reported-same : (jobs : List Job) (begun : ℕ) (old new : RequestsView)
      → ((h : Sought → ℕ) → weight h new ≡ weight h old) → AreReported told jobs begun old → AreReported told jobs begun new
  reported-same jobs begun old new weighs reported = λ place its inside its-is.
      (let before = reported place its inside its-is in
      record { began = before.began; ended = rw (weighs (at_number place)) before.ended })

  pub reported-none : (jobs : List Job) (begun : ℕ) (requests : RequestsView) → begun ≡ 0 → AreReported told jobs begun requests
  reported-none jobs begun requests none = λ place its inside its-is. absurd (omega (arith, inside, none))

  told-at : (place : ℕ) (job : Job) (requests : RequestsView) → ((h : Sought → ℕ) → weight h requests ≡ 0)
      → (told (is_answered job.number) ⊎ (0 < weight (at_number place) requests)) → told (is_answered job.number)
  told-at place job requests none (inl it) = it
  told-at place job requests none (inr some) =
      let nothing = none (at_number place) in
      absurd (omega (arith, some, nothing))

  -- each job was begun and none is inside: the gate was told of all
  pub all-told : (batch : BatchView) → IsDone batch → AreReported told batch.jobs batch.begun batch.requests
      → All (IsToldOf told) batch.jobs
  all-told batch done reported =
      all-by-place (IsToldOf told) batch.jobs (λ place job inside is.
      (let all = done.all in
      let it = reported place job (omega (arith, inside, all)) is in
      record { began = it.began; ended = told-at place job batch.requests done.none it.ended }))
