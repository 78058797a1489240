-- Records that answer a question.
use Rattle.std.specs.Prelude.{ℕ, ◌<◌, ◌≤◌, ◌^◌, length}
use Rattle.dns_message.specs.declared.kind.Kind.{Kind}
use Rattle.dns_message.specs.declared.kind.Kind.TheVariants as kind
use Rattle.dns_answers.specs.declared.records.Records.{Records}
use Rattle.dns_answers.specs.declared.records.Records.TheVariants.{Naptr, Srv, V4, V6}

-- the kind of question that these records answer
abbrev pub kind_of : Records → Kind
kind_of (V4 addresses) = kind.A
kind_of (V6 addresses) = kind.Aaaa
kind_of (Srv servers) = kind.Srv
kind_of (Naptr rules) = kind.Naptr

-- how many records an answer has
abbrev pub count_of : Records → ℕ
count_of (V4 addresses) = length addresses
count_of (V6 addresses) = length addresses
count_of (Srv servers) = length servers
count_of (Naptr rules) = length rules

-- the bounds of an answer: how many records it has, and how long it lives
pub record CanBeKept (records : Records) (life : ℕ) : Type 0 where
  pub few : count_of records ≤ 32
  pub short : life < 2 ^ 31
