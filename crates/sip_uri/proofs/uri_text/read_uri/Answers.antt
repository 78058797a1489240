use Rattle.std.proofs.Common.{◌≡◌, ◌∙◌}
use Rattle.sip_uri.specs.Uris.{UriText}
use Rattle.sip_uri.specs.Views.{uri_of}
use Rattle.sip_uri.specs.declared.uri.SipUri.{SipUri}
use Rattle.sip_uri.proofs.uri_text.read_uri.Goals as goal

pub returns-in_err-parts-clause-read : goal.returns-in_err-parts-clause-read
returns-in_err-parts-clause-read c =
    let none : (uri : SipUri) → UriText c.args.text.now uri → ⊥ = rw c.as_bytes.ensures.value at c.in_err-parts.ensures.seen in
    λ uri spells. absurd (none uri spells)

pub returns-in-Ok-clause-read : goal.returns-in-Ok-clause-read
returns-in-Ok-clause-read c =
    let seen : (uri : SipUri) → UriText c.args.text.now uri → uri_of c.in_ok-parts.parts ≡ uri =
    rw c.as_bytes.ensures.value at c.in_ok-parts.ensures.seen in
    λ uri spells. c.in-Ok.ensures.uri ∙ seen uri spells
