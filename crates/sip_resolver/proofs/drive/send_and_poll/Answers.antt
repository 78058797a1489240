use Rattle.sip_resolver.proofs.drive.send_and_poll.Goals as goal

pub returns-clause-stand : goal.returns-clause-stand
returns-clause-stand g c = c.poll_outcome.ensures.stand _ c.send_all.ensures.stand
