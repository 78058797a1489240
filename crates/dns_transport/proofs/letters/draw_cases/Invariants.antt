use Rattle.std.proofs.Common.{◌≡◌}
use Rattle.dns_name.specs.Labels.{small_letters}
use Rattle.dns_transport.proofs.letters.draw_cases.Given as goal

abbrev pub invariant-octets : goal.invariant-octets
invariant-octets g l = small_letters l.name ≡ small_letters l.fn.name
