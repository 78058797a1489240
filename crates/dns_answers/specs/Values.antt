-- What an answer has.
use Rattle.std.specs.Prelude.{ℕ}
use Rattle.dns_answers.specs.declared.records.Records.{Records}

-- what contracts see of an answer: its records and its life
pub record AnswerValue : Type 0 where
  pub records : Records
  pub life : ℕ
