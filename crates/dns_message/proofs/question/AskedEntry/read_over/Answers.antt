use Rattle.std.proofs.Common.{◌+◌, refl, ap, ◌∙◌}
use Rattle.std.proofs.lemmas.Result.{err_from_is_err_and}
use Rattle.dns_message.specs.Questions.{QuestionAt}
use Rattle.dns_message.specs.Refusals.{refusal_of_name}
use Rattle.dns_message.specs.declared.question.Asked.{Asked}
use Rattle.dns_message.proofs.Questions.{one_question}
use Rattle.dns_message.proofs.question.AskedEntry.read_over.Goals as goal
use Rattle.dns_message.proofs.question.AskedEntry.read_over.Goals.{In_ok-type_number}

abbrev question_read : In_ok-type_number → Asked
question_read c = record {
  name = c.read_name_into_by.new.name;
  type_number = c.in_ok-type_number.type_number;
  class_number =
      c.in_ok-type_number.class_number;
}

-- what was read stands there
this : (c : In_ok-type_number) → QuestionAt c.args.bytes.now c.args.offset (question_read c) (c.in_ok-offset.offset + 4)
this c =
    let numbers = rw c.in_ok-type_number.ensures.ok_part at c.two_u16_at.ensures in
    record {
      after = c.in_ok-offset.offset;
      name = c.in_ok-offset.ensures.found;
      type_number = numbers.0;
      class_number = numbers.1;
      ends = refl;
    }

pub returns-clause-found : goal.returns-clause-found
returns-clause-found c = this (goal.at.returns-clause-found c).In_ok-type_number

pub returns-clause-read : goal.returns-clause-read
returns-clause-read c = λ question end there.
    let here = (goal.at.returns-clause-read c).In_ok-type_number in
    one_question c.law_one_name_at_an_offset.ensures c.args.bytes.now c.args.offset (c.in_ok-offset.offset + 4) end
    (question_read here) question (this here) there

pub returns-in_err-offset-clause-read : goal.returns-in_err-offset-clause-read
returns-in_err-offset-clause-read c = λ question end there.
    let p = err_from_is_err_and c.from_residual.result c.from_residual.ensures.1 in
    rw p.1 (p.2 ∙ ap refusal_of_name (c.in_err-offset.ensures.read question.name there.after there.name))
