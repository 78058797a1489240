-- The answer that a message has for a question.
use Rattle.std.specs.Prelude.{List, [], Option, Some, None}
use Rattle.dns_message.specs.declared.message.Message.{Message}
use Rattle.dns_message.specs.declared.question.Question.{Question}
use Rattle.dns_message.specs.declared.resource.Record.{Record}
use Rattle.dns_answers.specs.Chains.{Chain, chain}
use Rattle.dns_answers.specs.Kept.{kept, records_of}
use Rattle.dns_answers.specs.Lives.{life_of}
use Rattle.dns_answers.specs.Values.{AnswerValue}

-- the records that a message has for a question at the end of a chain; none where the chain has no
-- end
abbrev pub kept_along : Question → Message → Option Chain → List Record
kept_along question message None = []
kept_along question message (Some chain) = kept question.kind chain.last message.answers

-- the answer that a message has at the end of a chain: the data of the records that it keeps, and
-- their life
abbrev pub answer_along : Question → Message → Option Chain → AnswerValue
answer_along question message chain = record {
  records = records_of question.kind (kept_along question message chain);
  life = life_of message chain (kept_along question message chain);
}

-- the answer that a message has for a question, from the answer section, along the CNAME records of
-- the name that is asked (RFC 1034 3.6.2, RFC 2181 5.2)
abbrev pub answer : Question → Message → AnswerValue
answer question message = answer_along question message (chain message.answers question.name)
