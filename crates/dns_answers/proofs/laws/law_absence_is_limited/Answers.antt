use Rattle.dns_answers.proofs.AnswerParts.{answer-ttl, answer-minimum, answer-cnames, answer-least, answer-without, answer-endless}
use Rattle.dns_answers.proofs.laws.law_absence_is_limited.Goals as goal

pub returns-clause-ttl : goal.returns-clause-ttl
returns-clause-ttl c = λ question message entry authority none is. answer-ttl question message none entry authority is

pub returns-clause-minimum : goal.returns-clause-minimum
returns-clause-minimum c = λ question message entry authority none is. answer-minimum question message none entry authority is

pub returns-clause-cnames : goal.returns-clause-cnames
returns-clause-cnames c = λ question message found none is. answer-cnames question message none found is

pub returns-clause-least : goal.returns-clause-least
returns-clause-least c =
    λ question message found entry authority none is first. answer-least question message none found entry authority is first

pub returns-clause-without : goal.returns-clause-without
returns-clause-without c = λ question message none no_soa. answer-without question message none no_soa

pub returns-clause-endless : goal.returns-clause-endless
returns-clause-endless c = λ question message is. answer-endless question message is
