use Rattle.std.proofs.Common.{◌∙◌}
use Rattle.std.proofs.Math.Seq.{map-set_same}
use Rattle.std.specs.Char.{to_ascii_lowercase}
use Rattle.dns_transport.proofs.letters.draw_cases.Goals.{then-bits-eq1, else-bits-eq1}
use Rattle.dns_transport.proofs.letters.draw_cases.Goals as goal

pub octets-preserved : goal.octets-preserved
octets-preserved g c =
    elim c.if-bits-eq1.branch [
      | then-bits-eq1 w ↦
          rw w.name-is
          (map-set_same to_ascii_lowercase c.octets.name c.octets.at w.in_other_case.result 0 w.in_other_case.ensures
          ∙ c.octets.invariant)
      | else-bits-eq1 w ↦ rw w.name-is c.octets.invariant
    ]
