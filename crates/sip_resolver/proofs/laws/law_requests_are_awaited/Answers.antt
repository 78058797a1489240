use Rattle.sip_resolver.proofs.Keeping.{awaited-along}
use Rattle.sip_resolver.proofs.laws.law_requests_are_awaited.Goals as goal

pub returns : goal.returns
returns c = awaited-along
