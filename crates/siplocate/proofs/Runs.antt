-- The requests of a text, and what becomes of them.
use Rattle.std.proofs.Common.{◌≡◌, ◌≢◌, ℕ, zero, suc, ◌+◌, ◌<◌, ◌≤◌, List, [], ◌∷◌, ◌++◌, length, drop, get_or, slice_index_or, inl, inr, refl, sym, ap, ◌∙◌, arith}
use Rattle.std.specs.List.{All, AllZip, enumerate_from}
use mathlib.Core.List.{IsPrefix}
use Rattle.std.proofs.lemmas.List.Elements.{All-head, All-tail}
use Rattle.std.proofs.lemmas.List.FromFn.{length-enumerate_from, get_or-enumerate_from}
use Rattle.std.proofs.lemmas.List.{append_assoc, append-nil, drop_more, length-append}
use Rattle.std.proofs.Math.Seq.{drop-length}
use Rattle.answer_log.specs.declared.store.Store.{Store}
use Rattle.answer_cache.specs.Shared.{CacheView, NoticeView}
use Rattle.sip_worker.specs.declared.job.Job.{Job}
use Rattle.sip_resolver.specs.declared.outcome.Outcome.{Outcome}
use Rattle.sip_workers.specs.declared.refusal.RunRefusal.{RunRefusal}
use Rattle.sip_workers.specs.declared.refusal.RunRefusal.TheVariants.{BadCount, NoThread, Memory, Gathering}
use Rattle.std.specs.Str.Lines.{lines}
use Rattle.sip_workers.specs.Runs.{IsMade, MayRun, RefusesRun, Rises}
use Rattle.siplocate.specs.Runs.{AreRequestLines, AreLineOutcomes, FitsSeats, HasRequests, HasTooMany, IsRequestLine, IsRequest, RefusesText, line_outcomes_of}
use Rattle.siplocate.specs.Jobs.{IsRunOutput, faulted}
use Rattle.siplocate.proofs.Onward.{outcome-on}
use Rattle.siplocate.specs.Served.{Faults, IsCountOfWorkers, IsOverfull, of_run}
use Rattle.siplocate.specs.declared.server.RunFault.{RunFault}
use Rattle.siplocate.specs.declared.server.RunFault.TheVariants as fault
use Rattle.siplocate.specs.declared.requests.RequestLine.{RequestLine}
use Rattle.siplocate.specs.declared.requests.RequestLine.TheVariants as entry

-- ---- reading

-- so many lines have been read: with what stands in the others it is what stands in all
abbrev pub HasRead : List (List ℕ) → ℕ → List RequestLine → List Job → Type 0
HasRead lines count entries jobs = (more : List RequestLine) (others : List Job)
    → AreRequestLines (count + 1) (drop count lines) more others → AreRequestLines 1 lines (entries ++ more) (jobs ++ others)

pub nothing_read : (lines : List (List ℕ)) → HasRead lines 0 [] []
nothing_read lines = λ more others are. are

pub all_read : (lines : List (List ℕ)) (count : ℕ) (entries : List RequestLine) (jobs : List Job)
    → count ≡ length lines → HasRead lines count entries jobs → AreRequestLines 1 lines entries jobs
all_read lines count entries jobs all has =
    let none : drop count lines ≡ [] = rw all (drop-length lines) in
    let are = has [] [] (rw none tt) in
    rw (append-nil entries, append-nil jobs) at are

pub one_more : (lines : List (List ℕ)) (count : ℕ) (line : List ℕ) (entries : List RequestLine) (jobs after : List Job) (one : RequestLine)
    → count < length lines → line ≡ get_or lines count line → HasRead lines count entries jobs
    → IsRequestLine (count + 1) line jobs after one → HasRead lines (count + 1) (entries ++ one ∷ []) after
one_more lines count line entries jobs after entry.Request l is has (job, job_is, after_is) = λ more others are.
    let rest : drop count lines ≡ line ∷ drop (count + 1) lines =
    drop_more lines count line l ∙ ap (λ (x : List ℕ). x ∷ drop (count + 1) lines) (sym is) in
    let all = has (entry.Request ∷ more) (job ∷ others) (rw rest (job_is, are)) in
    rw (append_assoc entries (entry.Request ∷ []) more, after_is, append_assoc jobs (job ∷ []) others) all
one_more lines count line entries jobs after (entry.Bad refusal) l is has (no_request, after_is) = λ more others are.
    let rest : drop count lines ≡ line ∷ drop (count + 1) lines =
    drop_more lines count line l ∙ ap (λ (x : List ℕ). x ∷ drop (count + 1) lines) (sym is) in
    let all = has (entry.Bad refusal ∷ more) others (rw rest (no_request, are)) in
    rw (append_assoc entries (entry.Bad refusal ∷ []) more, after_is) all

-- ---- how many requests there are

no_successor : (n : ℕ) → suc n ≤ 0 → ⊥
no_successor n l = omega (arith, l)

none_of_none : 0 < 0 → ⊥
none_of_none l = omega (arith, l)

pub fewer : (lines : List (List ℕ)) (count less : ℕ) → less ≤ count → HasRequests count lines → HasRequests less lines
fewer lines count zero l has = tt
fewer lines zero (suc less) l has = elim (no_successor less l) [ ]
fewer [] (suc count) (suc less) l has = elim has [ ]
fewer (line ∷ lines) (suc count) (suc less) l (inl (is, others)) = inl (is, fewer lines count less (omega (arith, l)) others)
fewer (line ∷ lines) (suc count) (suc less) l (inr others) = inr (fewer lines (suc count) (suc less) l others)

-- a line more holds no fewer
pub passed : (line : List ℕ) (lines : List (List ℕ)) (count : ℕ) → HasRequests count lines → HasRequests count (line ∷ lines)
passed line lines zero has = tt
passed line lines (suc count) has = inr has

-- the jobs of lines are as many as their requests
pub no_more : (number : ℕ) (lines : List (List ℕ)) (entries : List RequestLine) (jobs : List Job) (count : ℕ)
    → AreRequestLines number lines entries jobs → HasRequests count lines → count ≤ length jobs
no_more number lines entries jobs zero are has = omega (arith)
no_more number [] entries jobs (suc count) are has = elim has [ ]
no_more number (line ∷ lines) [] jobs (suc count) are has = elim are [ ]
no_more number (line ∷ lines) (entry.Request ∷ entries) [] (suc count) are has = elim are [ ]
no_more number (line ∷ lines) (entry.Request ∷ entries) (job ∷ jobs) (suc count) are (inl (is, others)) =
    let less = no_more (number + 1) lines entries jobs count are.1 others in
    omega (arith, less)
no_more number (line ∷ lines) (entry.Request ∷ entries) (job ∷ jobs) (suc count) are (inr others) =
    let less = no_more (number + 1) lines entries jobs (suc count) are.1 others in
    omega (arith, less)
no_more number (line ∷ lines) (entry.Bad refusal ∷ entries) jobs (suc count) are (inl (is, others)) =
    elim (are.0.none is.0 is.1) [ ]
no_more number (line ∷ lines) (entry.Bad refusal ∷ entries) jobs (suc count) are (inr others) =
    no_more (number + 1) lines entries jobs (suc count) are.1 others

pub not_too_many : (text : List ℕ) (entries : List RequestLine) (jobs : List Job)
    → AreRequestLines 1 (lines text) entries jobs → length jobs ≤ 10000 → HasTooMany text → ⊥
not_too_many text entries jobs are few many =
    let less = no_more 1 (lines text) entries jobs 10001 are many in
    omega (arith, few, less)

-- so many lines have been read: the jobs so far and the requests in the others are requests of all
abbrev pub HasCounted : List (List ℕ) → ℕ → List Job → Type 0
HasCounted lines count jobs = (more : ℕ) → HasRequests more (drop count lines) → HasRequests (length jobs + more) lines

add_zero_left : (n : ℕ) → 0 + n ≡ n
add_zero_left n = omega (arith)

pub nothing_counted : (lines : List (List ℕ)) → HasCounted lines 0 []
nothing_counted lines = λ more has. rw (add_zero_left more) has

pub one_more_counted : (lines : List (List ℕ)) (count number : ℕ) (line : List ℕ) (jobs after : List Job) (one : RequestLine)
    → count < length lines → line ≡ get_or lines count line → HasCounted lines count jobs
    → IsRequestLine number line jobs after one → HasCounted lines (count + 1) after
one_more_counted lines count number line jobs after entry.Request l is has (job, job_is, after_is) = λ more others.
    let rest : drop count lines ≡ line ∷ drop (count + 1) lines =
    drop_more lines count line l ∙ ap (λ (x : List ℕ). x ∷ drop (count + 1) lines) (sym is) in
    let all = has (suc more) (rw rest (inl ((job.request, job_is.spelled), others))) in
    let sum : length after + more ≡ length jobs + suc more =
    omega (arith, ap length after_is, length-append jobs (job ∷ [])) in
    rw sum all
one_more_counted lines count number line jobs after (entry.Bad refusal) l is has (no_request, after_is) = λ more others.
    let rest : drop count lines ≡ line ∷ drop (count + 1) lines =
    drop_more lines count line l ∙ ap (λ (x : List ℕ). x ∷ drop (count + 1) lines) (sym is) in
    rw after_is (has more (rw rest (passed line (drop (count + 1) lines) more others)))

-- a request where there are as many jobs as there may be
pub one_too_many : (lines : List (List ℕ)) (count : ℕ) (line : List ℕ) (jobs : List Job)
    → count < length lines → line ≡ get_or lines count line → HasCounted lines count jobs → IsRequest line
    → HasRequests (length jobs + 1) lines
one_too_many lines count line jobs l is has request =
    let rest : drop count lines ≡ line ∷ drop (count + 1) lines =
    drop_more lines count line l ∙ ap (λ (x : List ℕ). x ∷ drop (count + 1) lines) (sym is) in
    has 1 (rw rest (inl (request, tt)))

-- ---- the numbers of the jobs

-- they are no less than that of the first line
pub begins : (number : ℕ) (lines : List (List ℕ)) (entries : List RequestLine) (jobs : List Job) (other : Job)
    → AreRequestLines number lines entries jobs → 0 < length jobs → number ≤ (slice_index_or jobs 0 other).number
begins number [] [] [] other are l = elim (none_of_none l) [ ]
begins number [] [] (job ∷ jobs) other are l = elim are [ ]
begins number [] (one ∷ entries) jobs other are l = elim are [ ]
begins number (line ∷ lines) [] jobs other are l = elim are [ ]
begins number (line ∷ lines) (entry.Request ∷ entries) [] other are l = elim are [ ]
begins number (line ∷ lines) (entry.Request ∷ entries) (job ∷ jobs) other are l = omega (arith, are.0.numbered)
begins number (line ∷ lines) (entry.Bad refusal ∷ entries) jobs other are l =
    let later = begins (number + 1) lines entries jobs other are.1 l in
    omega (arith, later)

not_below : (k : ℕ) → k + 1 < 0 → ⊥
not_below k l = omega (arith, l)

-- they rise
pub rise : (number : ℕ) (lines : List (List ℕ)) (entries : List RequestLine) (jobs : List Job)
    → AreRequestLines number lines entries jobs → Rises jobs
rise number [] [] [] are k other l = elim (not_below k l) [ ]
rise number [] [] (job ∷ jobs) are k other l = elim are [ ]
rise number [] (one ∷ entries) jobs are k other l = elim are [ ]
rise number (line ∷ lines) [] jobs are k other l = elim are [ ]
rise number (line ∷ lines) (entry.Request ∷ entries) [] are k other l = elim are [ ]
rise number (line ∷ lines) (entry.Request ∷ entries) (job ∷ jobs) are zero other l =
    let later = begins (number + 1) lines entries jobs other are.1 (omega (arith, l)) in
    omega (arith, later, are.0.numbered)
rise number (line ∷ lines) (entry.Request ∷ entries) (job ∷ jobs) are (suc k) other l =
    let next : suc k + 1 ≡ suc (k + 1) = omega (arith) in
    rw next (rise (number + 1) lines entries jobs are.1 k other (omega (arith, l)))
rise number (line ∷ lines) (entry.Bad refusal ∷ entries) jobs are k other l =
    rise (number + 1) lines entries jobs are.1 k other l

-- ---- why nothing becomes of them

pub refuses_reading : (text : List ℕ) (seats wires : ℕ) (refusal : RunRefusal)
    → (refusal ≡ BadCount → HasTooMany text) → refusal ≢ NoThread → RefusesText text seats wires refusal
refuses_reading text seats wires BadCount full never = inl (full refl)
refuses_reading text seats wires NoThread full never = elim (never refl) [ ]
refuses_reading text seats wires Memory full never = tt
refuses_reading text seats wires (Gathering refusal) full never = tt

pub refuses_running : (text : List ℕ) (seats wires : ℕ) (entries : List RequestLine) (jobs : List Job)
    → AreRequestLines 1 (lines text) entries jobs → length jobs ≤ 10000
    → (refusal : RunRefusal) → RefusesRun (MayRun seats wires jobs 8) refusal → RefusesText text seats wires refusal
refuses_running text seats wires entries jobs are few BadCount refused = inr (λ fits. refused (record {
  some = fits.0;
  alike = fits.1;
  full = omega (arith);
  small = omega (arith);
  rises = rise 1 (lines text) entries jobs are;
  few = few;
}))
refuses_running text seats wires entries jobs are few NoThread may =
    ((may.some, may.alike), not_too_many text entries jobs are few)
refuses_running text seats wires entries jobs are few Memory may = tt
refuses_running text seats wires entries jobs are few (Gathering refusal) may = tt

-- where there is a wire for each of so many workers, only too many requests are refused as that
pub faults_of : (workers : ℕ) (text : List ℕ) (seats wires : ℕ) (refusal : RunRefusal)
    → FitsSeats seats wires → RefusesText text seats wires refusal → Faults workers text (of_run refusal)
faults_of workers text seats wires BadCount fits (inl many) = many
faults_of workers text seats wires BadCount fits (inr unfit) = elim (unfit fits) [ ]
faults_of workers text seats wires NoThread fits refused = tt
faults_of workers text seats wires Memory fits refused = tt
faults_of workers text seats wires (Gathering refusal) fits refused = tt

-- what is told of a fault
pub tells_fault : (workers : ℕ) (text : List ℕ) (it : RunFault)
    → (it ≡ fault.Workers → IsCountOfWorkers workers → ⊥) → (it ≡ fault.Requests → IsOverfull text)
    → IsRunOutput workers text (faulted it)
tells_fault workers text fault.Workers unfit many = unfit refl
tells_fault workers text fault.Requests unfit many = many refl
tells_fault workers text fault.Memory unfit many = tt
tells_fault workers text fault.Thread unfit many = tt
tells_fault workers text fault.Gathering unfit many = tt
tells_fault workers text fault.Net unfit many = tt

-- ---- what becomes of them

-- by one history, of which what each notice tells is a beginning
module _ (gives : List ℕ → Type 0) (shows : ℕ → Type 0) (cache : CacheView) (history : List Store) where
  abbrev pub BeginsIt : Outcome × NoticeView → Type 0
  BeginsIt made = IsPrefix made.1.seen history

  pub line_outcomes_are : (number : ℕ) (lines : List (List ℕ)) (entries : List RequestLine) (jobs : List Job)
      (made : List (Outcome × NoticeView))
      → AreRequestLines number lines entries jobs → AllZip (IsMade gives shows cache) jobs made → All BeginsIt made
      → AreLineOutcomes gives shows history number lines (line_outcomes_of entries made)
  line_outcomes_are number [] [] [] made are all begin = tt
  line_outcomes_are number [] [] (job ∷ jobs) made are all begin = elim are [ ]
  line_outcomes_are number [] (one ∷ entries) jobs made are all begin = elim are [ ]
  line_outcomes_are number (line ∷ lines) [] jobs made are all begin = elim are [ ]
  line_outcomes_are number (line ∷ lines) (entry.Request ∷ entries) [] made are all begin = elim are [ ]
  line_outcomes_are number (line ∷ lines) (entry.Request ∷ entries) (job ∷ jobs) [] are all begin = elim all [ ]
  line_outcomes_are number (line ∷ lines) (entry.Request ∷ entries) (job ∷ jobs) (first ∷ made) are all begin =
      let on : IsPrefix first.1.seen history = All-head BeginsIt first made begin in
      let told = outcome-on gives shows first.1.seen history on job first.0 all.0.0 in (
        record { job = job; is = are.0; told = told },
        line_outcomes_are (number + 1) lines entries jobs made are.1 all.1 (All-tail BeginsIt first made begin),
      )
  line_outcomes_are number (line ∷ lines) (entry.Bad refusal ∷ entries) jobs made are all begin =
      (are.0, line_outcomes_are (number + 1) lines entries jobs made are.1 all begin)

-- ---- lines and their numbers

pub numbered : (all : List (List ℕ)) (count at : ℕ) (line : List ℕ) → count < length (enumerate_from 0 all)
    → ◌≡◌ {A = ℕ × List ℕ} (at, line) (get_or (enumerate_from 0 all) count (at, line))
    → (at ≡ count) × (count < length all) × (line ≡ get_or all count line)
numbered all count at line within is =
    let within' : count < length all = omega (arith, within, length-enumerate_from 0 all) in
    let there : ◌≡◌ {A = ℕ × List ℕ} (at, line) (0 + count, get_or all count line) =
    is ∙ get_or-enumerate_from 0 all count (at, line) within' in
    (omega (arith, ap (λ (p : ℕ × List ℕ). p.0) there), within', ap (λ (p : ℕ × List ℕ). p.1) there)
