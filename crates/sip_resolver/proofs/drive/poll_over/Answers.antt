use Rattle.sip_resolver.proofs.Drives.{drives-through}
use Rattle.sip_resolver.proofs.Working.{works-through}
use Rattle.sip_resolver.proofs.drive.poll_over.Goals as goal

pub returns-clause-works : goal.returns-clause-works
returns-clause-works g c = works-through _ _ _ _ _ c.send_and_poll.ensures.works c.receive_once.ensures.works

pub returns-clause-drives : goal.returns-clause-drives
returns-clause-drives g c = drives-through _ _ _ _ c.send_and_poll.ensures.drives c.receive_once.ensures.drives
