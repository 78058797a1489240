use Rattle.std.proofs.Common.{◌≡◌, length}
use Rattle.std.specs.List.{filter_map}
use Rattle.resolver_file.specs.ResolverLines.{option_fact, words_of}
use Rattle.resolver_file.specs.Views.{with_facts}
use Rattle.resolver_file.proofs.file.ResolverFile.take_options.Given as goal

-- what is left of the options, after what was taken
abbrev pub invariant-loop-word : goal.invariant-loop-word
invariant-loop-word l =
    with_facts l.line (filter_map option_fact (words_of l.rest)) l.self
    ≡ with_facts l.line (filter_map option_fact (words_of l.text)) l.fn.self

abbrev pub decreases-loop-word : goal.decreases-loop-word
decreases-loop-word l = length l.rest
