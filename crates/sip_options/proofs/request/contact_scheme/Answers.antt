use Rattle.std.proofs.Common.{sym}
use Rattle.sip_options.proofs.RequestTexts.{secure_scheme, plain_scheme}
use Rattle.sip_options.proofs.request.contact_scheme.Goals as goal

pub returns-in-Some : goal.returns-in-Some
returns-in-Some c = sym (secure_scheme c.args.uri.now c.in-Some.field-0.now c.in-Some.ensures.found)

pub returns-in-None : goal.returns-in-None
returns-in-None c = sym (plain_scheme c.args.uri.now c.in-None.ensures.none)
