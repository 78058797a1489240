use Rattle.std.proofs.Common.{take}
use Rattle.std.specs.List.{AllZip}
use Rattle.sipwhere_options.specs.Servers.{ServerText}
use Rattle.sipwhere_options.proofs.options.servers_of.Given as goal

abbrev pub invariant-words : goal.invariant-words
invariant-words l = AllZip (λ word it. ServerText word.now it) (take l.word-index l.words) l.servers.items
