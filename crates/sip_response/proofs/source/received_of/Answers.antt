use Rattle.std.proofs.Common.{◌≡◌, true, false}
use Rattle.sip_response.specs.Sources.{other, asked, same}
use Rattle.sip_response.proofs.source.received_of.Goals as goal

pub returns-then-is_asked : goal.returns-then-is_asked
returns-then-is_asked c = asked (c.is_asked.ensures.0 c.if-is_asked.true)

pub returns-then-is_address : goal.returns-then-is_address
returns-then-is_address c =
    same (c.is_address.ensures.0 c.if-is_address.true)
    (λ e. let no : false ≡ true = rw c.if-is_asked.false at (c.is_asked.ensures.1 e) in cc)

pub returns : goal.returns
returns c = other (λ e. let no : false ≡ true = rw c.if-is_address.false at (c.is_address.ensures.1 e) in cc)
