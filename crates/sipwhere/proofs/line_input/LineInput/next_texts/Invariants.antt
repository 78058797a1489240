use Rattle.std.proofs.Common.{map}
use Rattle.std.specs.String.{string_bytes}
use Rattle.sipwhere.specs.LineInputs.{GivesMore}
use Rattle.sipwhere.proofs.line_input.LineInput.next_texts.Given as goal

abbrev pub invariant-loop : goal.invariant-loop
invariant-loop g l = GivesMore l.fn.self l.self (map string_bytes l.texts.items)
