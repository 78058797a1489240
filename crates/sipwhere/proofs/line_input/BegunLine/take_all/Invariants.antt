use Rattle.std.proofs.Common.{◌++◌, List, ℕ, map, take}
use Rattle.std.specs.String.{string_bytes}
use Rattle.sipwhere.specs.LineInputs.{IsReading}
use Rattle.sipwhere.proofs.line_input.BegunLine.take_all.Given as goal

abbrev pub invariant-octets : goal.invariant-octets
invariant-octets l =
    (read : List ℕ) (before : List (List ℕ)) → IsReading read (before ++ map string_bytes l.fn.texts.items) l.fn.self.kept.items
    → IsReading (read ++ take l.octet-index l.fn.octets) (before ++ map string_bytes l.texts.items) l.self.kept.items
