use Rattle.std.proofs.Common.{refl, sym, arith, ◌∙◌}
use Rattle.dns_message.specs.Offsets.{none}
use Rattle.dns_message.proofs.Offsets.{AllAt-none}
use Rattle.dns_message.proofs.entry.read_section_if_any.Goals as goal

-- ---- there are none

pub returns-then-section-eq0-clause-found : goal.returns-then-section-eq0-clause-found
returns-then-section-eq0-clause-found g c = rw c.requires.empty (none refl, omega arith)

pub returns-then-section-eq0-clause-read : goal.returns-then-section-eq0-clause-read
returns-then-section-eq0-clause-read g c = λ all end there size.
    let k = AllAt-none (g.E.Entry.stands c.args.bytes.now) there (omega (arith, size, c.if-section-eq0.true)) in
    (c.requires.empty ∙ sym k.0, sym k.1)
