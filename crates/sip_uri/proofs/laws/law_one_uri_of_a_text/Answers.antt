use Rattle.std.proofs.Common.{sym, ◌∙◌}
use Rattle.ip_text.proofs.Lists.{same_Ok}
use Rattle.sip_uri.proofs.UriTexts.{uri_again}
use Rattle.sip_uri.proofs.laws.law_one_uri_of_a_text.Goals as goal

pub returns : goal.returns
returns c = λ text uri uri' is is'. same_Ok uri uri' (sym (uri_again text uri is) ∙ uri_again text uri' is')
