use Rattle.std.proofs.Common.{◌≡◌, ◌-◌}
use Rattle.sip_uri.specs.Readers.Vias.{stands_in, names}
use Rattle.sip_uri.proofs.via_params.stands_before.Given as goal

abbrev pub invariant-loop : goal.invariant-loop
invariant-loop l = stands_in (names (l.count - l.counter) l.rest) l.name ≡ stands_in (names l.count l.params) l.name
