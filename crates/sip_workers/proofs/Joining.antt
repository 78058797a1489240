-- What is so once one more worker was joined.
use Rattle.std.proofs.Common.{◌≡◌, ℕ, ◌+◌, ◌-◌, ◌≤◌, Bool, true, List, ◌++◌, flat_map, map, sym, ap, ◌∙◌, arith}
use Rattle.std.proofs.lemmas.List.{map-append}
use Rattle.std.proofs.lemmas.List.Concat.{flat_map-append}
use Rattle.std.proofs.lemmas.List.Elements.{All-append}
use Rattle.std.proofs.lemmas.List.Sums.{sum_by-append}
use Rattle.std.specs.List.{sum_by}
use Rattle.answer_cache.specs.Shared.{CacheView}
use Rattle.sip_workers.specs.Deals.{AreTaken, IsReport, IsTaken, end_of, jobs_of}
use Rattle.sip_workers.specs.Gathers.{job_in}
use Rattle.sip_worker.specs.Gates.{GateCall}
use Rattle.sip_worker.specs.Outcomes.{ResultView}
use Rattle.sip_workers.specs.Rules.{pass_view}
use Rattle.sip_worker.specs.declared.job.Job.{Job}
use Rattle.sip_workers.specs.declared.queue.PassView.{PassView}

-- who took in what another knows
abbrev pub both_of : PassView → PassView → PassView
both_of known part = pass_view known.deals (known.parts + part.parts) known.put (known.taken ++ part.taken)

module _ (gives : List ℕ → Type 0) (shows : ℕ → Type 0) where
  pub made-more : (jobs its_jobs : List Job) (cache its_cache : CacheView) (told its_told : GateCall → Type 0)
      (known part now : PassView) (made new : List ResultView)
      → now ≡ both_of known part → its_jobs ≡ jobs → its_cache ≡ cache → its_told ≡ told
      → AreTaken gives shows cache told jobs known made → AreTaken gives shows its_cache its_told its_jobs part new
      → AreTaken gives shows cache told jobs now (made ++ new)
  made-more jobs its_jobs cache its_cache told its_told known part now made new is one two three before after =
      let more : AreTaken gives shows cache told jobs part new = rw (sym one, sym two, sym three) after in
      record {
        made_of = rw is
            (rw (map-append job_in made new, flat_map-append (jobs_of jobs) known.taken part.taken)
            (ap (λ l. l ++ map job_in new) before.made_of ∙ ap (λ l. flat_map (jobs_of jobs) known.taken ++ l) more.made_of));
        told_of = All-append (IsReport gives shows cache told) made new before.told_of more.told_of;
      }

pub took-more : (known part now : PassView) (ended : Bool) → now ≡ both_of known part → IsTaken part ended → ended ≡ true
    → sum_by end_of known.taken + 1 ≤ sum_by end_of now.taken
took-more known part now ended is taken end =
    rw is
    (let sum = sum_by-append end_of known.taken part.taken in
    let least = taken.took_end end in
    omega (arith, sum, least))

-- a part was cut off, and nothing else is another
pub stays-cut : (first known now : PassView) → pass_view first.deals known.parts first.put first.taken ≡ known
    → now ≡ pass_view known.deals (known.parts - 1) known.put known.taken
    → pass_view first.deals now.parts first.put first.taken ≡ now
stays-cut first known now stays is =
    ap (λ (v : PassView). pass_view first.deals v.parts first.put first.taken) is
    ∙ ap (λ (v : PassView). pass_view v.deals (known.parts - 1) v.put v.taken) stays
    ∙ sym is
