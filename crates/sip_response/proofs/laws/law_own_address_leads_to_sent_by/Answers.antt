use Rattle.sip_response.proofs.OneRoute.{own_address}
use Rattle.sip_response.proofs.laws.law_own_address_leads_to_sent_by.Goals as goal

pub returns : goal.returns
returns c = λ over written params route host source unreliable e is none route_is.
    own_address over written params route unreliable host source e is none route_is
