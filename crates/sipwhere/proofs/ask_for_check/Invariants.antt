use Rattle.std.proofs.Common.{◌≡◌, drop, map, string_bytes}
use Rattle.sipwhere.specs.Statuses as spec
use Rattle.sipwhere.proofs.ask_for_check.Given as goal

abbrev pub invariant-words : goal.invariant-words
invariant-words l = spec.ask_for_check (map string_bytes l.words) ≡ spec.ask_for_check (map string_bytes (drop l.word-index l.words))
