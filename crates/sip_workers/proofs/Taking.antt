-- What a worker made, once it took one batch more.
use Rattle.std.proofs.Common.{◌≡◌, ℕ, List, [], ◌∷◌, ◌++◌, Result, Ok, Err, IfOk, IsOkAnd, drop, flat_map, map, take, sym, ap, ◌∙◌}
use Rattle.std.proofs.lemmas.List.{append-nil}
use Rattle.std.proofs.lemmas.List.Concat.{flat_map-append}
use Rattle.std.proofs.lemmas.List.Elements.{All-cons, All-head, All-nil, All-tail}
use Rattle.std.specs.List.{All}
use Rattle.answer_log.specs.declared.store.Store.{Store}
use Rattle.answer_cache.specs.Shared.{CacheView}
use Rattle.sip_workers.specs.Deals.{AreTaken, IsReport, IsTold, jobs_of}
use Rattle.sip_workers.specs.Gathers.{job_in}
use Rattle.sip_worker.specs.Gates.{GateCall, IsToldOf}
use Rattle.sip_worker.specs.Outcomes.{ResultView}
use Rattle.sip_workers.specs.declared.batch.Batch.{Batch}
use Rattle.sip_worker.specs.declared.job.Job.{Job}
use Rattle.sip_workers.specs.declared.queue.PassView.{PassView}

flat-more : (jobs : List Job) (taken : List Batch) (batch : Batch)
    → flat_map (jobs_of jobs) (taken ++ batch ∷ []) ≡ flat_map (jobs_of jobs) taken ++ jobs_of jobs batch
flat-more jobs taken batch =
    flat_map-append (jobs_of jobs) taken (batch ∷ [])
    ∙ ap (λ l. flat_map (jobs_of jobs) taken ++ l) (append-nil (jobs_of jobs batch))

-- what was told of a result's notice
abbrev pub IsNoted : CacheView → List Store → ResultView → Type 0
IsNoted cache seen it = (it.notice.cache ≡ cache) × (it.notice.seen ≡ seen)

-- what results tell of their jobs, of which the gate was told, are reports
pub reports-new : (gives : List ℕ → Type 0) (shows : ℕ → Type 0) (cache : CacheView) (seen : List Store) (told : GateCall → Type 0)
    (made : List ResultView) → All (IsTold gives shows) made → All (IsNoted cache seen) made
    → All (IsToldOf told) (map job_in made) → All (IsReport gives shows cache told) made
reports-new gives shows cache seen told [] says noted gate = All-nil (IsReport gives shows cache told)
reports-new gives shows cache seen told (it ∷ made) says noted gate =
    All-cons (IsReport gives shows cache told) it made
    (record {
      says = All-head (IsTold gives shows) it made says;
      here = (All-head (IsNoted cache seen) it made noted).0;
      gate = All-head (IsToldOf told) it.job (map job_in made) gate;
    })
    (reports-new gives shows cache seen told made (All-tail (IsTold gives shows) it made says)
    (All-tail (IsNoted cache seen) it made noted) (All-tail (IsToldOf told) it.job (map job_in made) gate))

module _ (gives : List ℕ → Type 0) (shows : ℕ → Type 0) (cache : CacheView) (told : GateCall → Type 0) (jobs : List Job) where
  pub taken-more : {V E : Type 0} (items : V → List ResultView) (known now : PassView) (batch : Batch)
      → now.taken ≡ known.taken ++ batch ∷ [] → (new : List Job) → new ≡ jobs_of jobs batch → (before after : Result V E)
      → IfOk before (λ all. AreTaken gives shows cache told jobs known (items all))
      → IfOk after (λ all. IsOkAnd before (λ old. map job_in (items all) ≡ map job_in (items old) ++ new))
      → IfOk after (λ all. All (IsReport gives shows cache told) (items all))
      → IfOk after (λ all. AreTaken gives shows cache told jobs now (items all))
  taken-more items known now batch took new is before (Err e) taken adds reports = tt
  taken-more items known now batch took new is (Err e) (Ok all) taken adds reports = absurd adds
  taken-more items known now batch took new is (Ok old) (Ok all) taken adds reports = record {
    made_of = adds ∙ ap (λ l. l ++ new) taken.made_of ∙ ap (λ l. flat_map (jobs_of jobs) known.taken ++ l) is
        ∙ sym (flat-more jobs known.taken batch) ∙ ap (flat_map (jobs_of jobs)) (sym took);
    told_of = reports;
  }

  -- an end has no jobs
  pub taken-end : {V E : Type 0} (items : V → List ResultView) (known now : PassView) (batch : Batch)
      → now.taken ≡ known.taken ++ batch ∷ [] → batch.count ≡ 0 → (made : Result V E)
      → IfOk made (λ all. AreTaken gives shows cache told jobs known (items all))
      → IfOk made (λ all. AreTaken gives shows cache told jobs now (items all))
  taken-end items known now batch took none (Err e) taken = tt
  taken-end items known now batch took none (Ok all) taken =
      let nothing : [] ≡ jobs_of jobs batch = ap (λ (n : ℕ). take n (drop batch.first jobs)) (sym none) in
      record {
        made_of = taken.made_of ∙ sym (append-nil (flat_map (jobs_of jobs) known.taken))
            ∙ ap (λ l. flat_map (jobs_of jobs) known.taken ++ l) nothing
            ∙ sym (flat-more jobs known.taken batch) ∙ ap (flat_map (jobs_of jobs)) (sym took);
        told_of = taken.told_of;
      }
