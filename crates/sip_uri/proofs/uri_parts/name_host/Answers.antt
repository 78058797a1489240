use Rattle.std.proofs.Common.{ap}
use Rattle.std.proofs.lemmas.Result.{on_ok_weaker}
use Rattle.sip_uri.specs.Views.{name_of}
use Rattle.sip_uri.specs.declared.host.Host.TheVariants.{Domain}
use Rattle.sip_uri.proofs.DomainTexts.{TextOf-hostname}
use Rattle.sip_uri.proofs.uri_parts.name_host.Goals as goal

-- a hostname is a text of its name, and of no other one
pub copy_hostname-requires : goal.copy_hostname-requires
copy_hostname-requires c =
    (name_of c.args.hostname.now, TextOf-hostname c.args.hostname.now (name_of c.args.hostname.now) c.requires.text)

pub returns-in-Domain : goal.returns-in-Domain
returns-in-Domain c =
    on_ok_weaker c.copy_hostname.result (λ is. ap Domain is)
    (c.copy_hostname.ensures.ok (name_of c.args.hostname.now)
    (TextOf-hostname c.args.hostname.now (name_of c.args.hostname.now) c.requires.text))
