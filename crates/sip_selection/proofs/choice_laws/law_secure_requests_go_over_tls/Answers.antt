use Rattle.sip_selection.proofs.ChoiceLaws.{tls_all}
use Rattle.sip_selection.proofs.choice_laws.law_secure_requests_go_over_tls.Goals as goal

pub returns : goal.returns
returns c = λ request caps words given secure found is. tls_all request caps words given secure found is
