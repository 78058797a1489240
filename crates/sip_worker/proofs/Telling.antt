-- What became of the jobs of a batch.
use Rattle.std.proofs.Common.{◌≡◌, ℕ, zero, suc, ◌<◌, List, [], ◌∷◌, get_or, length, replicate, set, refl, ap, ◌∙◌, arith}
use Rattle.std.specs.List.{AllZip}
use Rattle.answer_cache.specs.Seats.{SeatView}
use Rattle.sip_selection.specs.Choice.{Resolution, need, refused, targets}
use Rattle.sip_selection.specs.Requests.{target_of}
use Rattle.sip_resolver.specs.Outcomes.{Counts, Sought}
use Rattle.sip_resolver.specs.Outcomes.{IsChosen as WasChosen, IsOutcome as WasOutcome}
use Rattle.sip_resolver.specs.Works.{Works}
use Rattle.sip_resolver.specs.declared.outcome.Outcome.{Outcome}
use Rattle.sip_resolver.specs.declared.outcome.Outcome.TheVariants.{Targets, Refused, NoAnswer, NoServer, BadReply, Memory}
use Rattle.sip_worker.proofs.Standing.{outcome-later}
use Rattle.sip_worker.specs.Batches.{AreTold, sought_at}
use Rattle.sip_worker.specs.Outcomes.{IsChosen, IsOutcomeAt}
use Rattle.sip_worker.specs.declared.job.Job.{Job}

-- ---- lists of which the items fit place by place

zip-set : {A B : Type 0} (R : A → B → Type 0) (xs : List A) (ys : List B) (k : ℕ) (y : B) → k < length xs → AllZip R xs ys
    → ((d : A) → R (get_or xs k d) y) → AllZip R xs (set ys k y)
zip-set R [] ys k y inside all one = absurd (omega (arith, inside))
zip-set R (x ∷ xs) [] k y inside all one = absurd all
zip-set R (x ∷ xs) (z ∷ zs) zero y inside all one = (one x, all.1)
zip-set R (x ∷ xs) (z ∷ zs) (suc k) y inside all one = (all.0, zip-set R xs zs k y (omega (arith, inside)) all.1 one)

zip-weaker : {A B : Type 0} (R S : A → B → Type 0) → ((x : A) (y : B) → R x y → S x y) → (xs : List A) (ys : List B)
    → AllZip R xs ys → AllZip S xs ys
zip-weaker R S weaker [] [] all = all
zip-weaker R S weaker [] (y ∷ ys) all = absurd all
zip-weaker R S weaker (x ∷ xs) [] all = absurd all
zip-weaker R S weaker (x ∷ xs) (y ∷ ys) all = (weaker x y all.0, zip-weaker R S weaker xs ys all.1)

pub zip-long : {A B : Type 0} (R : A → B → Type 0) (xs : List A) (ys : List B) → AllZip R xs ys → length ys ≡ length xs
zip-long R [] [] all = refl
zip-long R [] (y ∷ ys) all = absurd all
zip-long R (x ∷ xs) [] all = absurd all
zip-long R (x ∷ xs) (y ∷ ys) all = ap suc (zip-long R xs ys all.1)

module _ (gives : List ℕ → Type 0) (shows : ℕ → Type 0) where
  module _ (seat : SeatView) where
    -- ---- the outcome of a request is that of its job

    chosen-for : (sought : Sought) (place : ℕ) (job : Job) (resolution : Resolution) → sought ≡ sought_at place job
        → WasChosen (Counts gives shows seat) sought resolution → IsChosen (Counts gives shows seat) job resolution
    chosen-for sought place job resolution is it =
        let own : WasChosen (Counts gives shows seat) (sought_at place job) resolution = rw is at it in
        record { given = own.given; counted = own.counted; is = own.is }

    pub outcome-for : (sought : Sought) (place : ℕ) (job : Job) (outcome : Outcome) → sought ≡ sought_at place job
        → WasOutcome gives shows seat sought outcome → IsOutcomeAt gives shows seat job outcome
    outcome-for sought place job (Targets list) is it =
        (chosen-for sought place job (targets list.targets) is it.0, it.1 ∙ ap (λ (s : Sought). target_of s.request) is)
    outcome-for sought place job (Refused reason) is it = chosen-for sought place job (refused reason) is it
    outcome-for sought place job (NoAnswer question) is it = (chosen-for sought place job (need question) is it.0, it.1)
    outcome-for sought place job (NoServer question) is it = (chosen-for sought place job (need question) is it.0, it.1)
    outcome-for sought place job (BadReply question refusal) is it = (chosen-for sought place job (need question) is it.0, it.1)
    outcome-for sought place job Memory is it = tt

    -- ---- what became of all of them

    pub told-not : (jobs : List Job) → AreTold gives shows seat jobs (replicate (length jobs) Memory)
    told-not [] = tt
    told-not (job ∷ jobs) = (tt, told-not jobs)

    pub told-one : (jobs : List Job) (outcomes : List Outcome) (place : ℕ) (outcome : Outcome) → place < length jobs
        → AreTold gives shows seat jobs outcomes → ((d : Job) → IsOutcomeAt gives shows seat (get_or jobs place d) outcome)
        → AreTold gives shows seat jobs (set outcomes place outcome)
    told-one jobs outcomes place outcome inside all one =
        zip-set (IsOutcomeAt gives shows seat) jobs outcomes place outcome inside all one

  pub told-later : (old new : SeatView) → Works gives shows old new → (jobs : List Job) (outcomes : List Outcome)
      → AreTold gives shows old jobs outcomes → AreTold gives shows new jobs outcomes
  told-later old new works jobs outcomes all =
      zip-weaker (IsOutcomeAt gives shows old) (IsOutcomeAt gives shows new)
      (λ job outcome. outcome-later gives shows old new works job outcome) jobs outcomes all
