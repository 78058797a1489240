use Rattle.sip_uri.specs.Views.{via_of}
use Rattle.sip_uri.proofs.UriViews.{maddr_seen}
use Rattle.sip_uri.proofs.ViaRouteTexts.{route_there}
use Rattle.sip_uri.proofs.via_text.view_via_route.Goals as goal

pub returns-in-Ok-clause-found : goal.returns-in-Ok-clause-found
returns-in-Ok-clause-found c =
    route_there c.args.octets.now c.in-Ok.params.now (via_of c.in-Ok.parts) c.route_params.result c.in-Ok.ensures.found
    c.route_params.ensures.says

pub returns-in-Ok-clause-maddr : goal.returns-in-Ok-clause-maddr
returns-in-Ok-clause-maddr c = maddr_seen c.route_params.result.maddr c.route_params.ensures.hostname
