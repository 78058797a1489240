use Rattle.std.proofs.Common.{◌≡◌, List, [], ◌∷◌, Bool, true, false, nat_lt, refl, sym, arith, rules}
use Rattle.std.proofs.lemmas.Bool.{ltb-true, ltb-false}
use Rattle.std.proofs.lemmas.List.Sorted.{answers_always}
use Rattle.std.specs.List.{IsAllAdjacentAnswer}
use Rattle.sip_workers.specs.Runs.{Rises}
use Rattle.sip_worker.specs.declared.job.Job.{Job}
use Rattle.try_states.proofs.worker_jobs.rises.Goals as goal

answer : (jobs : List Job) (r : Bool) → IsAllAdjacentAnswer (λ x y b. b ≡ nat_lt x.number y.number) jobs r
    → (r ≡ true → Rises jobs) × (Rises jobs → r ≡ true)
answer jobs true says = ((λ _ k job inside. ltb-true _ _ (sym (says k job inside))), (λ _. refl))
answer [] false says = absurd (omega (arith, says.1))
answer (job ∷ jobs) false says =
    ((λ wrong. absurd (cc wrong)), (λ rises. absurd (omega (arith, rises says.0 job says.1, ltb-false _ _ (sym (says.2 job))))))

pub returns : goal.returns
returns c =
    let computes = answers_always _ (λ a r. r ≡ nat_lt a.0.now.number a.1.0.now.number) _ (λ f a r f' called. search rules) in
    answer c.args.jobs.now c.is_sorted_by.result (c.is_sorted_by.ensures.cases (λ x y. nat_lt x.number y.number) computes)
