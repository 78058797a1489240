use Rattle.sip_resolver.proofs.Keeping.{kept-along}
use Rattle.sip_resolver.proofs.laws.law_requests_are_kept.Goals as goal

pub returns : goal.returns
returns c = kept-along
