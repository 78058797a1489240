use Rattle.std.proofs.Common.{◌≡◌, map, take}
use Rattle.std.specs.String.{string_bytes}
use Rattle.sipwhere.proofs.line.texts_of.Given as goal

abbrev pub invariant-strings : goal.invariant-strings
invariant-strings l = map (λ text. text.now) l.texts.items ≡ map string_bytes (take l.string-index l.strings)
