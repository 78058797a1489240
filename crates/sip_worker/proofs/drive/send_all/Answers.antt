use Rattle.std.proofs.Common.{refl, ◌∙◌}
use Rattle.sip_worker.proofs.Standing.{works-not, works-through}
use Rattle.sip_worker.specs.Drives.{all, begun, further}
use Rattle.sip_worker.proofs.drive.send_all.Goals as goal

pub sends-init : goal.sends-init
sends-init g c = record {
  stays = c.requires.made_here;
  works = works-not _ _ (g.B.AnswerBook.shown c.args.seat.now);
  stand = c.requires.stand;
  same = (refl, (λ h. refl));
  many = begun;
}

pub sends-preserved : goal.sends-preserved
sends-preserved g c =
    let so-far = c.sends.invariant in
    let sent = c.send_next.ensures in
    record {
      stays = sent.stays;
      works = works-through _ _ _ _ _ so-far.works sent.works;
      stand = sent.stand;
      same = (sent.same.0 ∙ so-far.same.0, (λ h. sent.same.1 h ∙ so-far.same.1 h));
      many = further so-far.many (rw c.if-not-send_next.false at sent.sends);
    }

pub returns-then-not-send_next-clause-works : goal.returns-then-not-send_next-clause-works
returns-then-not-send_next-clause-works g c = works-through _ _ _ _ _ c.sends.invariant.works c.send_next.ensures.works

pub returns-then-not-send_next-clause-sends : goal.returns-then-not-send_next-clause-sends
returns-then-not-send_next-clause-sends g c = all c.sends.invariant.many (rw c.if-not-send_next.true at c.send_next.ensures.sends)
