use Rattle.sip_uri.proofs.ViaTexts.{one_via}
use Rattle.sip_uri.proofs.laws.law_one_via_of_a_text.Goals as goal

pub returns : goal.returns
returns c = λ text via via' is is'. one_via text via via' is is'
