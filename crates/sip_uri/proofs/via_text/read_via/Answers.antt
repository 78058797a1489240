use Rattle.std.proofs.Common.{◌≡◌, ◌∙◌}
use Rattle.sip_uri.specs.Vias.{ViaText}
use Rattle.sip_uri.specs.Views.{via_of}
use Rattle.sip_uri.specs.declared.via.Via.{Via}
use Rattle.sip_uri.proofs.via_text.read_via.Goals as goal

pub returns-in_err-parts-clause-read : goal.returns-in_err-parts-clause-read
returns-in_err-parts-clause-read c =
    let none : (via : Via) → ViaText c.args.text.now via → ⊥ = rw c.as_bytes.ensures.value at c.in_err-parts.ensures.seen in
    λ via spells. absurd (none via spells)

pub returns-in-Ok-clause-read : goal.returns-in-Ok-clause-read
returns-in-Ok-clause-read c =
    let seen : (via : Via) → ViaText c.args.text.now via → via_of c.in_ok-parts.parts ≡ via =
    rw c.as_bytes.ensures.value at c.in_ok-parts.ensures.seen in
    λ via spells. c.in-Ok.ensures.via ∙ seen via spells
