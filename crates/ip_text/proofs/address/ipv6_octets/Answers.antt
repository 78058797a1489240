use Rattle.std.proofs.Common.{◌∙◌}
use Rattle.ip_text.proofs.V6Texts.{ipv6_again}
use Rattle.ip_text.proofs.AddressTexts.{ipv6_found}
use Rattle.ip_text.proofs.address.ipv6_octets.Goals as goal

pub returns-clause-found : goal.returns-clause-found
returns-clause-found c = ipv6_found c.args.text.now c.ipv6.result c.ipv6.ensures

pub returns-clause-read : goal.returns-clause-read
returns-clause-read c = λ octets is. c.ipv6.ensures ∙ ipv6_again c.args.text.now octets is
