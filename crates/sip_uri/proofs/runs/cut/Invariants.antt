use Rattle.std.proofs.Common.{◌≡◌, ◌++◌, take, drop}
use Rattle.sip_uri.specs.ViaClasses.{row, behind_row}
use Rattle.sip_uri.proofs.runs.cut.Given as goal

abbrev pub invariant-loop-at : goal.invariant-loop-at
invariant-loop-at g l = record {
  front : take l.at l.text ++ row (g.C.OctetClass.octets l.class) (drop l.at l.text) ≡ row (g.C.OctetClass.octets l.class) l.text;
  back : behind_row (g.C.OctetClass.octets l.class) (drop l.at l.text) ≡ behind_row (g.C.OctetClass.octets l.class) l.text;
}
