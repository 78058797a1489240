-- Whose requests are inside a resolver.
use Rattle.std.proofs.Common.{◌≡◌, ℕ, zero, suc, ◌+◌, ◌<◌, ◌&&◌, Bool, true, false, Option, Some, None, if◌then◌else◌, List, [], ◌∷◌, get_or, length, refl, sym, ap, subst, ◌∙◌, arith}
use Rattle.std.proofs.lemmas.List.Sums.{sum_by-cons, sum_by_push}
use Rattle.std.specs.List.{sum_by}
use Rattle.std.specs.Option.{is_none}
use Rattle.sip_resolver.specs.Outcomes.{Ended, Sought}
use Rattle.sip_resolver.specs.Requests.{RequestsView, weight}
use Rattle.sip_resolver.specs.Resolvers.{IsTaken, ResolverView, with_request}
use Rattle.sip_resolver.specs.Tasks.{TaskView, sought_of}
use Rattle.sip_selection.specs.Selections.{begun}
use Rattle.sip_worker.specs.Batches.{at_place, is_of, job_of, sought_at, strange, strange_from}
use Rattle.sip_worker.specs.SameJobs.{same_job}
use Rattle.sip_worker.specs.SameJobs.Decided.{job_decides}
use Rattle.sip_worker.specs.declared.job.Job.{Job}

-- ---- what is submitted of a job

own-is : (place : ℕ) (job : Job) → is_of place job (sought_at place job) ≡ true
own-is place job =
    let same : same_job (at_place place job) (job_of (sought_at place job)) ≡ true =
    (job_decides (at_place place job) (job_of (sought_at place job))).1 refl in
    rw same refl

own-by : (place : ℕ) (job : Job) (sought : Sought) (same : Bool) (until : Option ℕ)
    → same_job (at_place place job) (job_of sought) ≡ same → sought.until ≡ until → (same && is_none until) ≡ true
    → sought ≡ sought_at place job
own-by place job sought true None same until is =
    let job-is = (job_decides (at_place place job) (job_of sought)).0 same in
    let for-ever : sought ≡ record sought { until = None } =
    λ i. record {
      number = sought.number;
      request = sought.request;
      caps = sought.caps;
      words = sought.words;
      until = until i;
    } in
    for-ever ∙ sym (ap (λ (it : Job). sought_at it.number it) job-is)
own-by place job sought true (Some moment) same until is = absurd cc
own-by place job sought false until same until-is is = absurd cc

is-own : (place : ℕ) (job : Job) (sought : Sought) → is_of place job sought ≡ true → sought ≡ sought_at place job
is-own place job sought is =
    own-by place job sought (same_job (at_place place job) (job_of sought)) sought.until refl refl is

first-weighs : (b : Bool) (n : ℕ) → b ≡ true → (if b then 0 else n) ≡ 0
first-weighs true n is = refl
first-weighs false n is = absurd cc

later-weighs : (b : Bool) (n : ℕ) → n ≡ 0 → (if b then 0 else n) ≡ 0
later-weighs true n is = refl
later-weighs false n is = is

own-from : (place : ℕ) (jobs : List Job) (k : ℕ) (job : Job) → k < length jobs → job ≡ get_or jobs k job
    → strange_from place jobs (sought_at (place + k) job) ≡ 0
own-from place [] k job inside is = absurd (omega (arith, inside))
own-from place (x ∷ xs) zero job inside is =
    let e : place + 0 ≡ place = omega arith in
    rw (e, is) (first-weighs (is_of place x (sought_at place x)) (strange_from (place + 1) xs (sought_at place x)) (own-is place x))
own-from place (x ∷ xs) (suc k) job inside is =
    let e : place + suc k ≡ place + 1 + k = omega arith in
    rw e
    (later-weighs (is_of place x (sought_at (place + 1 + k) job)) (strange_from (place + 1) xs (sought_at (place + 1 + k) job))
    (own-from (place + 1) xs k job (omega (arith, inside)) is))

pub own-weighs : (jobs : List Job) (k : ℕ) (job : Job) → k < length jobs → job ≡ get_or jobs k job → strange jobs (sought_at k job) ≡ 0
own-weighs jobs k job inside is =
    let e : 0 + k ≡ k = omega arith in
    subst (λ n. strange jobs (sought_at n job) ≡ 0) e (own-from 0 jobs k job inside is)

-- the job whose request it is
record IsOwn (place : ℕ) (jobs : List Job) (sought : Sought) : Type 0 where
  at : ℕ
  inside : at < length jobs
  number : sought.number ≡ place + at
  is : (d : Job) → sought ≡ sought_at (place + at) (get_or jobs at d)

own-first : (place : ℕ) (job : Job) (jobs : List Job) (sought : Sought) → sought ≡ sought_at place job → IsOwn place (job ∷ jobs) sought
own-first place job jobs sought is =
    let e : place + 0 ≡ place = omega arith in
    record { at = 0; inside = omega arith; number = ap (λ (it : Sought). it.number) is ∙ sym e; is = λ d. rw e is }

own-later : (place : ℕ) (job : Job) (jobs : List Job) (sought : Sought) → IsOwn (place + 1) jobs sought → IsOwn place (job ∷ jobs) sought
own-later place job jobs sought it =
    let e : place + suc it.at ≡ place + 1 + it.at = omega arith in
    let inside = it.inside in
    record { at = suc it.at; inside = omega (arith, inside); number = it.number ∙ sym e; is = λ d. rw e (it.is d) }

owned-cases : (place : ℕ) (job : Job) (jobs : List Job) (sought : Sought) (b : Bool) → is_of place job sought ≡ b
    → (if b then 0 else strange_from (place + 1) jobs sought) ≡ 0
    → (strange_from (place + 1) jobs sought ≡ 0 → IsOwn (place + 1) jobs sought) → IsOwn place (job ∷ jobs) sought
owned-cases place job jobs sought true is none later = own-first place job jobs sought (is-own place job sought is)
owned-cases place job jobs sought false is none later = own-later place job jobs sought (later none)

owned-from : (place : ℕ) (jobs : List Job) (sought : Sought) → strange_from place jobs sought ≡ 0 → IsOwn place jobs sought
owned-from place [] sought none = absurd (omega (arith, none))
owned-from place (job ∷ jobs) sought none =
    owned-cases place job jobs sought (is_of place job sought) refl none (λ no. owned-from (place + 1) jobs sought no)

-- a request is that of a job, under the place of the job
pub record IsOwned (jobs : List Job) (sought : Sought) : Type 0 where
  pub inside : sought.number < length jobs
  pub is : (d : Job) → sought ≡ sought_at sought.number (get_or jobs sought.number d)

owned : (jobs : List Job) (sought : Sought) → strange jobs sought ≡ 0 → IsOwned jobs sought
owned jobs sought none =
    let it = owned-from 0 jobs sought none in
    let number = it.number in
    let inside = it.inside in
    let e : 0 + it.at ≡ it.at = omega arith in
    let same : it.at ≡ sought.number = omega (arith, number) in
    record {
      inside = omega (arith, same, inside);
      is = λ d. subst (λ n. sought ≡ sought_at n (get_or jobs n d)) same
          (subst (λ n. sought ≡ sought_at n (get_or jobs it.at d)) e (it.is d));
    }

-- ---- what requests weigh

-- one request more
pub weighs-more : (h : Sought → ℕ) (old new : ResolverView) (place : ℕ) (job : Job)
    → new ≡ with_request place job.request job.caps job.words.0 None old
    → weight h new.requests ≡ weight h old.requests + h (sought_at place job)
weighs-more h old new place job is =
    let task : TaskView = record { number = place; selection = begun job.request job.caps job.words.0; cut = false; until = None } in
    let more = sum_by_push (λ (it : TaskView). h (sought_of it)) old.requests.ready task in
    rw is (omega (arith, more))

-- one that ended is taken out
pub weighs-less : (h : Sought → ℕ) (ended : Ended) (old new : ResolverView) → IsTaken ended old new
    → weight h old.requests ≡ weight h new.requests + h ended.sought
weighs-less h ended old new it =
    let first = sum_by-cons (λ (each : Ended). h each.sought) ended new.requests.ended in
    let here : sum_by (λ (each : Ended). h each.sought) old.requests.ended
    ≡ h ended.sought + sum_by (λ (each : Ended). h each.sought) new.requests.ended = rw it.first first in
    let same : new.requests ≡ record old.requests { ended = new.requests.ended } =
    ap (λ (each : ResolverView). each.requests) it.others in
    let ready = ap (λ (each : RequestsView). each.ready) same in
    let held = ap (λ (each : RequestsView). each.held) same in
    let waiting = ap (λ (each : RequestsView). each.waiting) same in
    rw (ready, held, waiting) (omega (arith, here))

-- what was taken out is of a job, and so is what is left
pub record AreOwned (jobs : List Job) (ended : Ended) (left : RequestsView) : Type 0 where
  pub one : IsOwned jobs ended.sought
  pub others : weight (strange jobs) left ≡ 0

pub taken-owned : (jobs : List Job) (ended : Ended) (old new : ResolverView) → IsTaken ended old new
    → weight (strange jobs) old.requests ≡ 0 → AreOwned jobs ended new.requests
taken-owned jobs ended old new it own =
    let weighs = weighs-less (strange jobs) ended old new it in
    record { one = owned jobs ended.sought (omega (arith, weighs, own)); others = omega (arith, weighs, own) }
