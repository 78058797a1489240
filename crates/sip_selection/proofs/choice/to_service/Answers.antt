use Rattle.sip_selection.proofs.choice.to_service.Goals as goal

pub along_all-requires-clause-needs : goal.along_all-requires-clause-needs
along_all-requires-clause-needs g c = λ all question extends is.
    c.requires.needs all question extends (rw (c.in_ok-services.ensures.items, c.in_ok-service_at.ensures) at is)
