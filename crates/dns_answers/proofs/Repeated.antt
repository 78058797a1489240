-- A question that a message repeats.
use Rattle.std.proofs.Common.{◌≡◌, ℕ, ◌==◌, Bool, true, false, List, [], ◌∷◌, refl, ap}
use Rattle.std.proofs.lemmas.Bool.{eqb-true, eq-eqb}
use Rattle.dns_message.specs.Kinds.{type_of_kind}
use Rattle.dns_message.specs.declared.question.Asked.{Asked}
use Rattle.dns_message.specs.declared.question.Question.{Question}
use Rattle.dns_name.specs.Labels.{same_name}
use Rattle.dns_message.specs.Written.{asked_of}
use Rattle.dns_answers.specs.Replies.{is_asked, asks_this_alone}
use Rattle.dns_answers.proofs.Names.{SameNames}

abbrev made : List (List ℕ) → ℕ → ℕ → Asked
made name type_number class_number = record { name = name; type_number = type_number; class_number = class_number }

module _ (same : SameNames) (question : Question) where
  asked_by : (asked : Asked) (name type_number class : Bool) → same_name asked.name question.name ≡ name
      → (asked.type_number == type_of_kind question.kind) ≡ type_number → (asked.class_number == 1) ≡ class
      → is_asked question asked ≡ true → asked ≡ asked_of question
  asked_by asked true true true e0 e1 e2 is =
      let name_is : asked.name ≡ question.name = (same asked.name question.name).0 e0 in
      let type_number_is : asked.type_number ≡ type_of_kind question.kind = eqb-true asked.type_number (type_of_kind question.kind) e1 in
      let class_is : asked.class_number ≡ 1 = eqb-true asked.class_number 1 e2 in
      let both : made asked.name asked.type_number asked.class_number ≡ made question.name (type_of_kind question.kind) 1 =
      rw (name_is, type_number_is, class_is) refl in
      both
  asked_by asked false type_number class e0 e1 e2 is =
      let no : false ≡ true = rw e0 at is in
      absurd cc
  asked_by asked true false class e0 e1 e2 is =
      let no : false ≡ true = rw (e0, e1) at is in
      absurd cc
  asked_by asked true true false e0 e1 e2 is =
      let no : false ≡ true = rw (e0, e1, e2) at is in
      absurd cc

  pub repeated : (questions : List Asked) → asks_this_alone question questions ≡ true → questions ≡ asked_of question ∷ []
  repeated [] is = absurd cc
  repeated (asked ∷ []) is =
      ap (λ (a : Asked). a ∷ [])
      (asked_by asked (same_name asked.name question.name) (asked.type_number == type_of_kind question.kind)
      (asked.class_number == 1) refl refl refl is)
  repeated (asked ∷ other ∷ more) is = absurd cc

  this_one : is_asked question (asked_of question) ≡ true
  this_one = rw ((same question.name question.name).1 refl, eq-eqb (type_of_kind question.kind) (type_of_kind question.kind) refl) refl

  pub repeats : (questions : List Asked) → questions ≡ asked_of question ∷ [] → asks_this_alone question questions ≡ true
  repeats questions is = rw is this_one
