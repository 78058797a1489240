use Rattle.std.proofs.Common.{take}
use Rattle.std.specs.List.{AllZip}
use Rattle.sipwhere_options.specs.CommandLine.{IsTransport}
use Rattle.sipwhere_options.proofs.options.transports_of.Given as goal

abbrev pub invariant-words : goal.invariant-words
invariant-words l = AllZip (λ word it. IsTransport word.now it) (take l.word-index l.words) l.transports.items
