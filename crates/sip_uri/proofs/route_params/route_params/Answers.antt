use Rattle.sip_uri.proofs.ViaSaid.{route_says}
use Rattle.sip_uri.proofs.route_params.route_params.Goals as goal

pub returns-clause-says : goal.returns-clause-says
returns-clause-says c = λ list are.
    route_says list _ _ _ _ _ (c.param_value.ensures list are) (c.param_value-2.ensures list are) (c.param_value-3.ensures list are)
    (c.param_value-4.ensures list are) c.received_of.ensures c.rport_of.ensures c.maddr_of.ensures.host c.ttl_of.ensures
