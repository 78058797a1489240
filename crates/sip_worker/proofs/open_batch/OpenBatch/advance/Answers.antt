use Rattle.sip_worker.proofs.Reporting.{reported-same}
use Rattle.sip_worker.proofs.Telling.{told-later}
use Rattle.sip_worker.proofs.open_batch.OpenBatch.advance.Goals as goal

pub returns-clause-stands : goal.returns-clause-stands
returns-clause-stands g c =
    let begun = rw (← c.self.view_is) at c.begin_all.ensures.stands c.args.seat.now.seat c.requires.stands in
    c.take_all.ensures.stands c.send_all.new.seat.seat
    (record {
      requests = c.send_all.ensures.stand;
      told = told-later _ _ c.args.seat.now.seat c.send_all.new.seat.seat c.send_all.ensures.works _ _ begun.told;
    })

pub returns-clause-reported : goal.returns-clause-reported
returns-clause-reported g c = λ before.
    (let begun = rw (← c.self.view_is) at c.begin_all.ensures.reported before in
    c.take_all.ensures.reported (reported-same _ _ _ _ _ c.send_all.ensures.same.1 begun))
