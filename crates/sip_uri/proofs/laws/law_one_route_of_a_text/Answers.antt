use Rattle.sip_uri.proofs.ViaRouteTexts.{one_route_text}
use Rattle.sip_uri.proofs.laws.law_one_route_of_a_text.Goals as goal

pub returns : goal.returns
returns c = λ text via via' route route' is is'. one_route_text text via via' route route' is is'
