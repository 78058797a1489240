use Rattle.std.proofs.Common.{◌≡◌, drop}
use Rattle.resolver_file.specs.ResolverLines.{words_of}
use Rattle.resolver_file.proofs.words.blank_count.Given as goal

abbrev pub invariant-loop-at : goal.invariant-loop-at
invariant-loop-at l = words_of (drop l.at l.text) ≡ words_of l.text
