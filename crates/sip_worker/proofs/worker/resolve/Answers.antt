use Rattle.std.proofs.Common.{refl, ◌∙◌}
use Rattle.sip_worker.proofs.Reporting.{all-told, reported-none, reported-same}
use Rattle.sip_worker.proofs.Standing.{works-not, works-through}
use Rattle.sip_worker.proofs.worker.resolve.Goals as goal

pub rounds-init : goal.rounds-init
rounds-init g c = record {
  stays = c.requires.made_here;
  works = works-not _ _ c.args.seat.now.seat;
  jobs = refl;
  stands = c.requires.stands;
  reported = reported-none _ _ _ _ c.requires.none;
}

pub rounds-preserved : goal.rounds-preserved
rounds-preserved g c =
    let so-far = c.rounds.invariant in
    record {
      stays = c.listen.ensures.stays;
      works = works-through _ _ _ _ _ so-far.works (works-through _ _ _ _ _ c.advance.ensures.works c.listen.ensures.works);
      jobs = c.listen.ensures.jobs ∙ c.advance.ensures.jobs ∙ so-far.jobs;
      stands = c.listen.ensures.stands;
      reported = rw (c.listen.ensures.jobs, c.listen.ensures.begun)
          (reported-same _ _ _ _ _ c.listen.ensures.same.1 (c.advance.ensures.reported so-far.reported));
    }

pub returns-then-is_done-clause-works : goal.returns-then-is_done-clause-works
returns-then-is_done-clause-works g c = works-through _ _ _ _ _ c.rounds.invariant.works c.advance.ensures.works

pub returns-then-is_done-clause-told : goal.returns-then-is_done-clause-told
returns-then-is_done-clause-told g c =
    all-told _ _ (c.is_done.ensures c.if-is_done.true) (c.advance.ensures.reported c.rounds.invariant.reported)
