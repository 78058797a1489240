use Rattle.sip_response.specs.Routes.{sent_by}
use Rattle.sip_response.proofs.route.without_maddr.Goals as goal

pub returns-in-None : goal.returns-in-None
returns-in-None c = rw c.to_sent_by.ensures (sent_by c.requires c.in-None.is)
