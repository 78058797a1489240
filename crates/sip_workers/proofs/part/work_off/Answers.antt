use Rattle.std.proofs.Common.{◌≡◌, [], ◌∷◌, ◌++◌, ◌∙◌, ap, refl, rules}
use Rattle.crossbeam_channel.specs.Claims.{view}
use Rattle.sip_workers.proofs.Storing.{stores-more, stores-none}
use Rattle.sip_workers.proofs.Taking.{taken-end, taken-more}
use Rattle.sip_workers.specs.declared.queue.PassView.{PassView}
use Rattle.sip_workers.proofs.part.work_off.Goals.{in-None, in-Some+in_default, in-Some+in-Some-take+then-batch-eq0}
use Rattle.sip_workers.proofs.part.work_off.Goals as goal

pub batches-init : goal.batches-init
batches-init g c = record {
  queue = c.requires.queue;
  one = ap (λ (v : PassView). v.parts) c.requires.fresh;
  made_here = c.requires.made_here;
  stored = stores-none g.W.Wire.gives g.C.Clock.shows c.args.worker.seat;
  made = search rules;
  none = refl;
}

pub batches-preserved : goal.batches-preserved
batches-preserved g c =
    let plan = c.args.plan.now in
    let l = c.batches in
    let batch = c.in-Some-take.batch in
    let known = view l.right in
    let now = view c.take.new.right in
    let took : now.taken ≡ known.taken ++ batch ∷ [] = ap (λ (v : PassView). v.taken) c.in-Some-take.ensures.taken.0 in
    let parts : now.parts ≡ known.parts = ap (λ (v : PassView). v.parts) c.in-Some-take.ensures.taken.0 in
    record {
      queue = c.take.ensures.queue;
      one = parts ∙ l.invariant.one;
      made_here = c.more-made.ensures.made_here;
      stored = stores-more g.W.Wire.gives g.C.Clock.shows c.args.worker.seat l.worker.seat c.more-made.new.worker.seat
          l.invariant.stored c.more-made.ensures.stored;
      made = taken-more g.W.Wire.gives g.C.Clock.shows plan.cache.now (g.G.Gate.told plan.gate.now) plan.jobs.now
          (λ all. all.items) known now batch took
          c.jobs_at.result.now c.jobs_at.ensures l.made c.more-made.result l.invariant.made c.more-made.ensures.jobs
          c.more-made.ensures.here;
      none = l.invariant.none;
    }

pub returns-clause-made : goal.returns-clause-made
returns-clause-made g c =
    let plan = c.args.plan.now in
    let l = c.batches in
    elim c.match-next.branch [
      | in-None w ↦ rw w.right-is l.invariant.made
      | in-Some+in_default w ↦ rw (w.right-is, w.in_default.ensures.taken) l.invariant.made
      | in-Some+in-Some-take+then-batch-eq0 w ↦
          let took = ap (λ (v : PassView). v.taken) w.in-Some-take.ensures.taken.0 in
          rw w.right-is
          (taken-end g.W.Wire.gives g.C.Clock.shows plan.cache.now (g.G.Gate.told plan.gate.now) plan.jobs.now (λ all. all.items) (view l.right)
          (view w.take.new.right) w.in-Some-take.batch took w.if-batch-eq0.true l.made l.invariant.made)
    ]
