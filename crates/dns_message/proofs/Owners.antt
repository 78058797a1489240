-- A pointer to the name of the question.
use Rattle.std.proofs.Common.{◌≡◌, ℕ, ◌+◌, ◌<◌, ◌≤◌, List, [], ◌∷◌, length, get_or, refl, ap, ◌∙◌, arith}
use Rattle.dns_name.specs.Offsets.{NameAt, OctetAt, pointer}
use Rattle.dns_message.specs.Owners.{IsAskedName}
use Rattle.dns_message.specs.declared.owner.AskedName.{AskedName}
use Rattle.dns_message.specs.Offsets.{AllAt, next}
use Rattle.dns_message.specs.Questions.{QuestionAt}
use Rattle.dns_message.specs.declared.question.Asked.{Asked}
use Rattle.dns_message.proofs.Names.{WithinEnd}
use Rattle.dns_message.proofs.Offsets.{AllAt-goes_on}
use Rattle.dns_message.proofs.Questions.{question_goes_on}

module _ (within : WithinEnd) where
  -- it is that name
  pub name_pointed_to : (message : List ℕ) (offset : ℕ) (asked : AskedName) → IsAskedName message asked → asked.end ≤ offset
      → OctetAt message offset 192 × OctetAt message (offset + 1) 12 → NameAt message offset offset asked.name.now (offset + 2)
  name_pointed_to message offset asked is before octets =
      let front = within message 12 is.there asked.name.now is.name in
      record {
        labels = pointer 0 12 is.there octets.0 octets.1 (omega (arith, front.0, is.before)) is.name.labels (omega (arith, is.before)) refl;
        short = is.name.short;
      }

  -- the name of the first question ends before the questions do
  pub first_is_asked : (message : List ℕ) (asked : AskedName) (first : Asked) (questions : List Asked) → 0 < length questions
      → first ≡ get_or questions 0 first → asked.name.now ≡ first.name → AllAt (QuestionAt message) 12 questions asked.end
      → IsAskedName message asked
  first_is_asked message asked first [] some at is there = absurd (omega (arith, some))
  first_is_asked message asked first (_ ∷ others) some at is (next after here rest) = record {
    there = here.after;
    name = rw (is ∙ ap (λ (it : Asked). it.name) at) here.name;
    before = omega (arith, here.ends, AllAt-goes_on (QuestionAt message) (question_goes_on within message) rest);
  }
