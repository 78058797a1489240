use Rattle.sip_worker.proofs.Standing.{works-quietly}
use Rattle.sip_worker.proofs.drive.send_next.Goals as goal

pub returns-in-Some-clause-works : goal.returns-in-Some-clause-works
returns-in-Some-clause-works g c = works-quietly _ _ _ _ c.poll_transmit.ensures.goes_on c.poll_transmit.ensures.stores_nothing

pub returns-in-None-clause-works : goal.returns-in-None-clause-works
returns-in-None-clause-works g c = works-quietly _ _ _ _ c.poll_transmit.ensures.goes_on c.poll_transmit.ensures.stores_nothing
