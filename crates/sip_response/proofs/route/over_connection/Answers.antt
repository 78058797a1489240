use Rattle.sip_response.specs.Routes.{again, straight}
use Rattle.sip_response.proofs.route.over_connection.Goals as goal

pub returns-in-Some : goal.returns-in-Some
returns-in-Some c = again c.in-Some.address c.in-Some.is

pub returns-in-None : goal.returns-in-None
returns-in-None c = straight c.in-None.is
