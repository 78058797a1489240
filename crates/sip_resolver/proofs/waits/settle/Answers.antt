use Rattle.sip_resolver.proofs.Inside.{ended-too, ready-too}
use Rattle.sip_resolver.specs.Waits.{ends, goes_on}
use Rattle.sip_resolver.proofs.waits.settle.Goals as goal

pub returns-in-Ready-clause-stand : goal.returns-in-Ready-clause-stand
returns-in-Ready-clause-stand g c = λ seat known counted lacks stand.
    let fits = rw c.in-Ready.is at c.wait_outcome_of.ensures.fits seat known counted lacks in rw (c.add.ensures, c.of.ensures)
    (ready-too _ _ seat _ _ stand fits)

pub returns-in-Ended-clause-stand : goal.returns-in-Ended-clause-stand
returns-in-Ended-clause-stand g c = λ seat known counted lacks stand.
    let fits = rw c.in-Ended.is at c.wait_outcome_of.ensures.fits seat known counted lacks in rw c.end.ensures
    (ended-too _ _ seat _ _ stand fits)

pub returns-in-Ready-clause-settles : goal.returns-in-Ready-clause-settles
returns-in-Ready-clause-settles g c =
    let goes = rw c.in-Ready.is at c.wait_outcome_of.ensures.goes in goes_on c.wait_outcome_of.new.task goes (rw c.of.ensures at c.add.ensures)

pub returns-in-Ended-clause-settles : goal.returns-in-Ended-clause-settles
returns-in-Ended-clause-settles g c =
    let end = rw c.in-Ended.is at c.wait_outcome_of.ensures.ends in
    ends c.in-Ended.outcome end (rw (← c.wait_outcome_of.ensures.request) c.end.ensures)
