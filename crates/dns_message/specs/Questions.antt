-- A question of a message (RFC 1035 4.1.2).
use Rattle.std.specs.Prelude.{◌≡◌, ℕ, ◌+◌, ◌==◌, Bool, ◌&&◌, List}
use Rattle.std.specs.Int.{w16}
use Rattle.dns_name.specs.Labels.{same_name}
use Rattle.dns_name.specs.Offsets.{NameAt}
use Rattle.dns_message.specs.Kinds.{type_of_kind}
use Rattle.dns_message.specs.Offsets.{NumberAt}
use Rattle.dns_message.specs.declared.question.Asked.{Asked}
use Rattle.dns_message.specs.declared.question.Question.{Question}

-- a question lies from one offset to another: QNAME, QTYPE and QCLASS
pub record QuestionAt (message : List ℕ) (offset : ℕ) (asked : Asked) (end : ℕ) : Type 0 where
  pub after : ℕ
  pub name : NameAt message offset offset asked.name after
  pub type_number : NumberAt w16 message after asked.type_number
  pub class_number : NumberAt w16 message (after + 2) asked.class_number
  pub ends : end ≡ after + 4

-- two questions are the same: of one name and one kind
abbrev pub same_question : Question → Question → Bool
same_question question other =
    same_name question.name other.name && type_of_kind question.kind == type_of_kind other.kind
