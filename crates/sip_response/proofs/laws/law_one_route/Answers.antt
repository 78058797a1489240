use Rattle.sip_response.proofs.OneRoute.{one_route}
use Rattle.sip_response.proofs.laws.law_one_route.Goals as goal

pub returns : goal.returns
returns c = λ over written params route other is is'. one_route over written params route other is is'
