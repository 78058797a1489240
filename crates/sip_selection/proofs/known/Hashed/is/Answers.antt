use Rattle.std.proofs.Common.{sym, ◌∙◌}
use Rattle.sip_selection.proofs.Answered.{other-question}
use Rattle.sip_selection.proofs.known.Hashed.is.Goals as goal

pub returns-then-self-name_hash : goal.returns-then-self-name_hash
returns-then-self-name_hash c =
    rw (← c.self.view_is)
    (other-question c.self.inside.question (record { name = c.args.name.now; kind = c.args.kind })
    (λ same. c.if-self-name_hash.true (c.self.invariant ∙ same ∙ sym c.requires)))
