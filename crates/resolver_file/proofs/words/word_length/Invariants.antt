use Rattle.std.proofs.Common.{take}
use Rattle.std.specs.List.{All}
use Rattle.resolver_file.proofs.WordParts.{NoBlank}
use Rattle.resolver_file.proofs.words.word_length.Given as goal

abbrev pub invariant-loop-at : goal.invariant-loop-at
invariant-loop-at l = All NoBlank (take l.at l.text)
