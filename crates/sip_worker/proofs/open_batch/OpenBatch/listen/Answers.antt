use Rattle.sip_worker.proofs.Standing.{works-not}
use Rattle.sip_worker.proofs.Telling.{told-later}
use Rattle.sip_worker.proofs.open_batch.OpenBatch.listen.Goals as goal

pub returns-then-has_room-clause-works : goal.returns-then-has_room-clause-works
returns-then-has_room-clause-works g c = works-not _ _ c.args.seat.now.seat

pub returns-clause-stands : goal.returns-clause-stands
returns-clause-stands g c =
    let stands = rw (← c.self.view_is) at c.requires.stands in
    record {
      requests = c.receive_once.ensures.stand;
      told = told-later _ _ c.args.seat.now.seat c.receive_once.new.seat.seat c.receive_once.ensures.works _ _ stands.told;
    }
