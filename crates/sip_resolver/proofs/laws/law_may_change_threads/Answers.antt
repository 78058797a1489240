use Rattle.sip_resolver.proofs.Crossing.{resolver_send}
use Rattle.sip_resolver.proofs.laws.law_may_change_threads.Goals as goal

pub returns : goal.returns
returns g c b f i = resolver_send _ b _ _ f i
