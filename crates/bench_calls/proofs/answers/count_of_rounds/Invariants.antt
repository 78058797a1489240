use Rattle.std.proofs.Common.{◌≡◌, ◌<◌}
use Rattle.dns_answers.specs.Answers.{answer}
use Rattle.dns_answers.specs.Records.{count_of}
use Rattle.bench_calls.proofs.answers.count_of_rounds.Given as goal

-- The count of the rounds so far is 0 or that of the answer.
abbrev pub invariant-loop : goal.invariant-loop
invariant-loop l = 0 < l.count → l.count ≡ count_of (answer l.question l.message).records
