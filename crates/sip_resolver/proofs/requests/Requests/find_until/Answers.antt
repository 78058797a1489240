use Rattle.sip_resolver.proofs.requests.Requests.find_until.Goals as goal

pub returns : goal.returns
returns g c =
    rw (← c.self.view_is)
    (c.least_of.ensures _ _ (c.least_of-can_go_on.ensures _ _ c.next_until.ensures c.next_until-2.ensures) c.next_until-3.ensures)
