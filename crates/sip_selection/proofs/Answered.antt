-- The answers that were given, found by their questions.
use Rattle.std.proofs.Common.{◌≡◌, ◌≢◌, Bool, true, false, refl, ap}
use Rattle.std.specs.Cmp.{IsEquivalence, and_equiv, on_equiv, nat_eq_equiv}
use Rattle.std.specs.Cmp.Lexicographic.{lists_equiv, pointwise_decides, bytes_decides}
use Rattle.dns_name.specs.Labels.{same_name}
use Rattle.dns_message.specs.Kinds.{type_of_kind}
use Rattle.dns_message.specs.Questions.{same_question}
use Rattle.dns_message.specs.declared.question.Question.{Question}
use Rattle.sip_selection.specs.Views.{hash_of_name}

pub question_equiv : IsEquivalence same_question
question_equiv =
    and_equiv (on_equiv (λ (question : Question). question.name) (lists_equiv (lists_equiv nat_eq_equiv)))
    (on_equiv (λ (question : Question). type_of_kind question.kind) nat_eq_equiv)

other-by : (question other : Question) (same : Bool) → same_name question.name other.name ≡ same
    → hash_of_name question.name ≢ hash_of_name other.name → false ≡ same_question question other
other-by question other true e apart =
    absurd (apart (ap hash_of_name ((pointwise_decides bytes_decides question.name other.name).0 e)))
other-by question other false e apart = rw e refl

-- names of other hashes are other names
pub other-question : (question other : Question) → hash_of_name question.name ≢ hash_of_name other.name
    → false ≡ same_question question other
other-question question other apart = other-by question other (same_name question.name other.name) refl apart
