use Rattle.sip_uri.specs.Views.{name_of}
use Rattle.sip_uri.proofs.DomainTexts.{TextOf-hostname}
use Rattle.sip_uri.proofs.host_part.name_of_hostname.Goals as goal

-- a hostname is a text of its name, and of no other one
pub of_hostname-requires : goal.of_hostname-requires
of_hostname-requires c =
    (name_of c.args.hostname.now, TextOf-hostname c.args.hostname.now (name_of c.args.hostname.now) c.requires)

pub returns : goal.returns
returns c =
    c.of_hostname.ensures.read (name_of c.args.hostname.now)
    (TextOf-hostname c.args.hostname.now (name_of c.args.hostname.now) c.requires)
