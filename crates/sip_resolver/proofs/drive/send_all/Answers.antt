use Rattle.std.proofs.Common.{refl, ◌∙◌}
use Rattle.sip_resolver.specs.Driven.{begun}
use Rattle.sip_resolver.proofs.Drives.{drives-sent, drives-still}
use Rattle.sip_resolver.proofs.Standing.{works-not}
use Rattle.sip_resolver.proofs.Working.{works-through}
use Rattle.sip_resolver.proofs.drive.send_all.Goals as goal

pub sends-init : goal.sends-init
sends-init g c = record {
  stays = c.requires.made_here;
  works = works-not _ _ (g.B.AnswerBook.shown c.args.seat.now);
  stand = c.requires.stand;
  same = (refl, (λ h. refl));
  drives = begun;
}

pub sends-preserved : goal.sends-preserved
sends-preserved g c =
    let so-far = c.sends.invariant in
    let sent = c.send_next.ensures in
    record {
      stays = sent.stays;
      works = works-through _ _ _ _ _ so-far.works sent.works;
      stand = sent.stand;
      same = (sent.same.0 ∙ so-far.same.0, (λ h. sent.same.1 h ∙ so-far.same.1 h));
      drives = drives-sent _ _ _ _ _ _ _ _ _ so-far.drives (rw c.if-not-send_next.false at sent.sends);
    }

pub returns-then-not-send_next-clause-works : goal.returns-then-not-send_next-clause-works
returns-then-not-send_next-clause-works g c = works-through _ _ _ _ _ c.sends.invariant.works c.send_next.ensures.works

pub returns-then-not-send_next-clause-drives : goal.returns-then-not-send_next-clause-drives
returns-then-not-send_next-clause-drives g c =
    drives-still _ _ _ _ _ _ _ _ _ c.sends.invariant.drives (rw c.if-not-send_next.true at c.send_next.ensures.sends)
