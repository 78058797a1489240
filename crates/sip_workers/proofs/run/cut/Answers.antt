use Rattle.std.proofs.Common.{◌+◌, ◌<◌, ◌≤◌, [], ◌∷◌, append_assoc, length, refl, rules, sym}
use Rattle.sip_workers.proofs.Whole.{cut-next}
use Rattle.std.proofs.lemmas.List.{append-nil}
use Rattle.sip_workers.specs.declared.batch.Batch.{Batch}
use Rattle.sip_workers.proofs.run.cut.Goals as goal

pub cuts-preserved : goal.cuts-preserved
cuts-preserved c =
    let l = c.cuts in
    let jobs = c.args.jobs.now in
    let count = c.min-count.result in
    let inside : l.first + count ≤ length jobs = search rules in
    let some : 0 < count = search rules in
    let small : count ≤ c.args.size = search rules in
    let last : (count < c.args.size → length jobs ≤ l.first + count) = search rules in
    let batch : Batch = record { first = l.first; count = count } in
    record {
      size = l.invariant.size;
      inside = inside;
      sized = λ later given. rw (c.in_ok-push.ensures.items, append_assoc l.batches.items (batch ∷ []) later)
          (l.invariant.sized (batch ∷ later) (refl, small, last, given));
      cut = rw c.in_ok-push.ensures.items (cut-next jobs l.batches.items l.first count l.invariant.cut inside some);
    }

pub returns-clause-sized : goal.returns-clause-sized
returns-clause-sized c =
    let l = c.cuts in
    rw (sym (append-nil l.batches.items)) (l.invariant.sized [] c.cuts-test.false)
