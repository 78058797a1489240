-- The results of the jobs of a batch, one after the other.
use Rattle.std.proofs.Common.{◌≡◌, ℕ, zero, suc, ◌<◌, List, [], ◌∷◌, ◌++◌, drop, get_or, length, map, length-append, refl, sym, ap, ◌∙◌, append_assoc, arith}
use Rattle.std.proofs.lemmas.List.{append-nil, map-append}
use Rattle.std.proofs.lemmas.List.Elements.{All-nil, All-push}
use Rattle.std.specs.List.{All, AllZip}
use Rattle.answer_cache.specs.Shared.{SharedView}
use Rattle.sip_resolver.specs.declared.outcome.Outcome.{Outcome}
use Rattle.sip_worker.specs.Batches.{AreTold}
use Rattle.sip_worker.specs.Outcomes.{IsOutcomeAt, ResultView}
use Rattle.sip_worker.specs.declared.job.Job.{Job}

-- the job that a result is of
abbrev job_in : ResultView → Job
job_in it = it.job

abbrev pub Notes : SharedView → ResultView → Type 0
Notes seat it = (it.notice.cache ≡ seat.cache) × (it.notice.seen ≡ seat.seat.seen)

abbrev pub Became : (List ℕ → Type 0) → (ℕ → Type 0) → SharedView → ResultView → Type 0
Became gives shows seat it = IsOutcomeAt gives shows seat.seat it.job it.outcome

-- the first of the items that are left
record IsFirst {A B : Type 0} (R : A → B → Type 0) (xs : List A) (k : ℕ) (d : A) (y : B) (ys : List B) : Type 0 where
  inside : k < length xs
  fits : R (get_or xs k d) y
  others : AllZip R (drop (suc k) xs) ys
  is : drop k xs ≡ get_or xs k d ∷ drop (suc k) xs

zip-first : {A B : Type 0} (R : A → B → Type 0) (xs : List A) (k : ℕ) (d : A) (y : B) (ys : List B) → AllZip R (drop k xs) (y ∷ ys)
    → IsFirst R xs k d y ys
zip-first R [] zero d y ys all = absurd all
zip-first R [] (suc k) d y ys all = absurd all
zip-first R (x ∷ xs) zero d y ys all = record { inside = omega arith; fits = all.0; others = all.1; is = refl }
zip-first R (x ∷ xs) (suc k) d y ys all =
    let it = zip-first R xs k d y ys all in
    let inside = it.inside in
    record { inside = omega (arith, inside); fits = it.fits; others = it.others; is = it.is }

zip-none : {A B : Type 0} (R : A → B → Type 0) (xs : List A) (ys : List B) → length ys ≡ 0 → AllZip R xs ys → xs ≡ []
zip-none R [] ys none all = refl
zip-none R (x ∷ xs) [] none all = absurd all
zip-none R (x ∷ xs) (y ∷ ys) none all = absurd (omega (arith, none))

-- results of the first jobs, and what became of the others
pub record Collected (gives : List ℕ → Type 0) (shows : ℕ → Type 0) (seat : SharedView) (jobs : List Job) (others : List Outcome)
    (made : List ResultView) : Type 0 where
  pub told : AreTold gives shows seat.seat (drop (length made) jobs) others
  pub jobs_are : map job_in made ++ drop (length made) jobs ≡ jobs
  pub notices : All (Notes seat) made
  pub outcomes : All (Became gives shows seat) made

module _ (gives : List ℕ → Type 0) (shows : ℕ → Type 0) (seat : SharedView) (jobs : List Job) where
  pub collected-not : (all : List Outcome) → AreTold gives shows seat.seat jobs all → Collected gives shows seat jobs all []
  collected-not all told =
      record { told = told; jobs_are = refl; notices = All-nil (Notes seat); outcomes = All-nil (Became gives shows seat) }

  module _ (others rest : List Outcome) (made : List ResultView) (outcome : Outcome) (is : others ≡ outcome ∷ rest)
      (so-far : Collected gives shows seat jobs others made) (d : Job) where
    first : IsFirst (IsOutcomeAt gives shows seat.seat) jobs (length made) d outcome rest
    first = zip-first (IsOutcomeAt gives shows seat.seat) jobs (length made) d outcome rest (rw is at so-far.told)

    pub first-inside : length made < length jobs
    first-inside = first.inside

    pub first-told : IsOutcomeAt gives shows seat.seat (get_or jobs (length made) d) outcome
    first-told = first.fits

    pub collected-more : (it : ResultView) → it.job ≡ get_or jobs (length made) d → it.outcome ≡ outcome → Notes seat it
        → Collected gives shows seat jobs rest (made ++ it ∷ [])
    collected-more it job became noted =
        let long : length (made ++ it ∷ []) ≡ suc (length made) = length-append made (it ∷ []) ∙ omega arith in
        record {
          told = rw long first.others;
          jobs_are = rw (
            long,
            map-append job_in made (it ∷ []),
            append_assoc (map job_in made) (it.job ∷ []) (drop (suc (length made)) jobs),
          )
              (ap (λ one. map job_in made ++ one ∷ drop (suc (length made)) jobs) job
              ∙ ap (λ l. map job_in made ++ l) (sym first.is)
              ∙ so-far.jobs_are);
          notices = All-push (Notes seat) made it so-far.notices noted;
          outcomes = All-push (Became gives shows seat) made it so-far.outcomes (rw (job, became) first.fits);
        }

  pub collected-all : (others : List Outcome) (made : List ResultView) → length others ≡ 0
      → Collected gives shows seat jobs others made → map job_in made ≡ jobs
  collected-all others made empty it =
      let none = zip-none (IsOutcomeAt gives shows seat.seat) (drop (length made) jobs) others empty it.told in
      sym (append-nil (map job_in made)) ∙ ap (λ l. map job_in made ++ l) (sym none) ∙ it.jobs_are
