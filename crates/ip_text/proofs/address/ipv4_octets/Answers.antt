use Rattle.std.proofs.Common.{◌∙◌}
use Rattle.ip_text.proofs.V4Texts.{ipv4_again}
use Rattle.ip_text.proofs.AddressTexts.{ipv4_found}
use Rattle.ip_text.proofs.address.ipv4_octets.Goals as goal

pub returns-clause-found : goal.returns-clause-found
returns-clause-found c = ipv4_found c.args.text.now c.ipv4.result c.ipv4.ensures

pub returns-clause-read : goal.returns-clause-read
returns-clause-read c = λ octets is. c.ipv4.ensures ∙ ipv4_again c.args.text.now octets is
