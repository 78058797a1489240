use Rattle.sip_response.proofs.OneRoute.{to_source}
use Rattle.sip_response.proofs.laws.law_rport_leads_to_the_source.Goals as goal

pub returns : goal.returns
returns c = λ over written params route host source unreliable is port none route_is.
    to_source over written params route unreliable host source is port none route_is
