-- Questions at offsets.
use Rattle.std.proofs.Common.{◌≡◌, ℕ, ◌+◌, ◌≤◌, List, length, take, refl, arith}
use Rattle.std.specs.Int.{w16}
use Rattle.dns_message.specs.declared.question.Asked.{Asked}
use Rattle.dns_message.specs.Offsets.{NamedAt, AllAt}
use Rattle.dns_message.specs.Questions.{QuestionAt}
use Rattle.dns_message.proofs.Names.{OneName, WithinEnd, IsLocal}
use Rattle.dns_message.proofs.Offsets.{one_number, take_less, NumberAt-other, AllAt-first}

abbrev made : List (List ℕ) → ℕ → ℕ → Asked
made name type_number class_number = record { name = name; type_number = type_number; class_number = class_number }

same_asked : (a b : Asked) → a.name ≡ b.name → a.type_number ≡ b.type_number → a.class_number ≡ b.class_number → a ≡ b
same_asked a b e0 e1 e2 = let same : made a.name a.type_number a.class_number
    ≡ made b.name b.type_number b.class_number = rw (e0, e1, e2) refl in same

pub one_question : OneName → (message : List ℕ) (p end end' : ℕ) (a b : Asked) → QuestionAt message p a end → QuestionAt message p b end'
    → (a ≡ b) × (end ≡ end')
one_question one message p end end' a b x y =
    let k = one message p p x.after y.after a.name b.name x.name y.name in
    let type_number : a.type_number ≡ b.type_number = one_number w16 message y.after a.type_number b.type_number (rw k.1 at x.type_number)
    y.type_number in
    let class_number : a.class_number ≡ b.class_number =
    one_number w16 message (y.after + 2) a.class_number b.class_number (rw k.1 at x.class_number) y.class_number in
    (same_asked a b k.0 type_number class_number, omega (arith, x.ends, y.ends, k.1))

pub question_goes_on : WithinEnd → (message : List ℕ) (p end : ℕ) (a : Asked) → QuestionAt message p a end → p ≤ end
question_goes_on within message p end a x = omega (arith, (within message p x.after a.name x.name).0, x.ends)

pub question_within : (message : List ℕ) (p end : ℕ) (a : Asked) → QuestionAt message p a end → end ≤ length message
question_within message p end a x = omega (arith, x.ends, x.class_number.within)

pub QuestionAt-other : IsLocal → (message other : List ℕ) (limit : ℕ) → take limit message ≡ take limit other → (p end : ℕ) (a : Asked)
    → QuestionAt message p a end → end ≤ limit → QuestionAt other p a end
QuestionAt-other local message other limit same p end a x le = record {
  after = x.after;
  name = local message other p x.after a.name x.name (take_less message other limit x.after same (omega (arith, x.ends, le)));
  type_number = NumberAt-other w16 message other limit x.after a.type_number same (omega (arith, x.ends, le)) x.type_number;
  class_number = NumberAt-other w16 message other limit (x.after + 2) a.class_number same (omega (arith, x.ends, le)) x.class_number;
  ends = x.ends;
}

-- a name stands where questions begin, if one stands where they end
pub questions_named : (message : List ℕ) {p end : ℕ} {questions : List Asked} → AllAt (QuestionAt message) p questions end
    → NamedAt message end → NamedAt message p
questions_named message = AllAt-first (QuestionAt message) (NamedAt message) (λ p end a x. (a.name, x.after, x.name))
