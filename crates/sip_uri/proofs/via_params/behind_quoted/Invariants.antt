use Rattle.std.proofs.Common.{◌≡◌, drop}
use Rattle.sip_uri.specs.Readers.Vias.{quoted_from, behind_quoted}
use Rattle.sip_uri.proofs.via_params.behind_quoted.Given as goal

abbrev pub invariant-loop-at : goal.invariant-loop-at
invariant-loop-at l = quoted_from l.escaped (drop l.at l.text) ≡ behind_quoted l.text
