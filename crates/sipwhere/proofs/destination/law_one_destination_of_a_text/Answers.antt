use Rattle.sipwhere.proofs.OneDestination.{one-destination}
use Rattle.sipwhere.proofs.destination.law_one_destination_of_a_text.Goals as goal

pub returns : goal.returns
returns c = λ settings text it other is also.
    one-destination c.law_one_route_of_a_text.ensures text c.law_one_uri_of_a_text.ensures c.law_one_via_of_a_text.ensures settings it other
    is also
