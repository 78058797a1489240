use Rattle.std.proofs.Common.{ℕ, length, take, ◌∙◌, arith}
use Rattle.std.proofs.lemmas.Result.{err_from_is_err_and}
use Rattle.dns_message.specs.Headers.{HeaderAt, CountsAt}
use Rattle.dns_message.specs.Messages.{MessageAt, Spells}
use Rattle.dns_message.specs.declared.message.Message.{Message}
use Rattle.dns_message.proofs.Messages.{IsCounted, counted, one_message, MessageAt-whole, MessageAt-within, Spells-front, refused_where, no_records}
use Rattle.dns_message.proofs.Questions.{questions_named}
use Rattle.dns_message.proofs.Records.{records_named}
use Rattle.dns_message.specs.declared.refusal.Part.TheVariants.{Answers, Authority, Additional}
use Rattle.dns_message.proofs.message.read_message.Goals as goal
use Rattle.dns_message.proofs.message.read_message.Goals.{In_ok-header, In_ok-read_section_if_any}

header : (c : In_ok-header) → HeaderAt c.args.bytes.now c.in_ok-header.header × CountsAt c.args.bytes.now c.in_ok-header.counts
header c = rw c.in_ok-header.ensures.ok_part at c.header_at.ensures

-- what is said to stand in front of the octets stands there, with the counts that were read
whole : (c : In_ok-header) (found : Message) (end : ℕ) → Spells (take end c.args.bytes.now) found
    → MessageAt c.args.bytes.now found (length (take end c.args.bytes.now)) × IsCounted c.in_ok-header.counts found
whole c found end spelled =
    let there = MessageAt-whole c.law_name_rests_before_its_end.ensures.within c.law_name_rests_before_its_end.ensures.local
    c.args.bytes.now found end spelled in
    (there, counted c.args.bytes.now c.in_ok-header.counts found _ (header c).1 there)

abbrev message_read : In_ok-read_section_if_any → Message
message_read c = record {
  header = c.in_ok-header.header;
  questions = c.read_section.new.entries.items;
  answers = c.read_section-2.new.entries.items;
  authority = c.read_section_if_any.new.entries.items;
  additional = c.read_section_if_any-2.new.entries.items;
}

-- what was read stands there
this : (c : In_ok-read_section_if_any) → HeaderAt c.args.bytes.now c.in_ok-header.header × CountsAt c.args.bytes.now c.in_ok-header.counts
    → MessageAt c.args.bytes.now (message_read c) c.in_ok-read_section_if_any.field-0
this c read =
    let questions = c.in_ok-offset.ensures.found in
    let answers = c.in_ok-offset-2.ensures.found in
    let authority = c.in_ok-offset-3.ensures.found in
    let additional = c.in_ok-read_section_if_any.ensures.found in
    record {
      header = read.0;
      question_count = rw questions.1 read.1.questions;
      answer_count = rw answers.1 read.1.answers;
      authority_count = rw authority.1 read.1.authority;
      additional_count = rw additional.1 read.1.additional;
      answers_start = c.in_ok-offset.offset;
      authority_start = c.in_ok-offset-2.offset;
      additional_start = c.in_ok-offset-3.offset;
      questions = questions.0;
      answers = answers.0;
      authority = authority.0;
      additional = additional.0;
    }

-- nothing is known at first
pub read_section-requires-clause-known : goal.read_section-requires-clause-known
read_section-requires-clause-known c = c.none-landings.ensures c.args.bytes.now

pub returns-clause-found : goal.returns-clause-found
returns-clause-found c =
    let at = goal.at.returns-clause-found c in
    let laws = c.law_name_rests_before_its_end.ensures in
    let end : ℕ = c.in_ok-read_section_if_any.field-0 in
    let read = this at.In_ok-read_section_if_any (header at.In_ok-header) in
    let within = MessageAt-within laws.within c.args.bytes.now (message_read at.In_ok-read_section_if_any) end read in
    rw (c.from_vec.ensures, c.from_vec-2.ensures, c.from_vec-3.ensures, c.from_vec-4.ensures)
    (end, within, Spells-front laws.within laws.local c.args.bytes.now (message_read at.In_ok-read_section_if_any) end within read)

pub returns-clause-read : goal.returns-clause-read
returns-clause-read c = λ end found spelled short.
    let at = goal.at.returns-clause-read c in
    rw (c.from_vec.ensures, c.from_vec-2.ensures, c.from_vec-3.ensures, c.from_vec-4.ensures)
    (one_message c.law_one_name_at_an_offset.ensures c.args.bytes.now (message_read at.In_ok-read_section_if_any) found
    c.in_ok-read_section_if_any.field-0
    (length (take end c.args.bytes.now)) (this at.In_ok-read_section_if_any (header at.In_ok-header)) (whole at.In_ok-header found end spelled).0)

-- ---- where reading stops, it stops for want of memory

pub returns-in_err-offset-clause-read : goal.returns-in_err-offset-clause-read
returns-in_err-offset-clause-read c = λ end found spelled short.
    let w = whole (goal.at.returns-in_err-offset-clause-read c).In_ok-header found end spelled in
    let p = err_from_is_err_and c.from_residual-in_err-offset.result c.from_residual-in_err-offset.ensures.1 in
    rw p.1 (p.2 ∙ c.in_err-offset.ensures.read found.questions w.0.answers_start w.0.questions w.1.questions)

pub returns-in_err-offset-2-clause-read : goal.returns-in_err-offset-2-clause-read
returns-in_err-offset-2-clause-read c = λ end found spelled short.
    let w = whole (goal.at.returns-in_err-offset-2-clause-read c).In_ok-header found end spelled in
    let e0 = c.in_ok-offset.ensures.read found.questions w.0.answers_start w.0.questions w.1.questions in
    let p = err_from_is_err_and c.from_residual-in_err-offset-2.result c.from_residual-in_err-offset-2.ensures.1 in
    rw p.1 (p.2 ∙ c.in_err-offset-2.ensures.read found.answers w.0.authority_start (rw e0.1 w.0.answers) w.1.answers)

pub returns-in_err-offset-3-clause-read : goal.returns-in_err-offset-3-clause-read
returns-in_err-offset-3-clause-read c = λ end found spelled short.
    let w = whole (goal.at.returns-in_err-offset-3-clause-read c).In_ok-header found end spelled in
    let e0 = c.in_ok-offset.ensures.read found.questions w.0.answers_start w.0.questions w.1.questions in
    let e1 = c.in_ok-offset-2.ensures.read found.answers w.0.authority_start (rw e0.1 w.0.answers) w.1.answers in
    let p = err_from_is_err_and c.from_residual-in_err-offset-3.result c.from_residual-in_err-offset-3.ensures.1 in
    rw p.1 (p.2 ∙ c.in_err-offset-3.ensures.read found.authority w.0.additional_start (rw e1.1 w.0.authority) w.1.authority)

pub returns-in_err-read_section_if_any-clause-read : goal.returns-in_err-read_section_if_any-clause-read
returns-in_err-read_section_if_any-clause-read c = λ end found spelled short.
    let w = whole (goal.at.returns-in_err-read_section_if_any-clause-read c).In_ok-header found end spelled in
    let e0 = c.in_ok-offset.ensures.read found.questions w.0.answers_start w.0.questions w.1.questions in
    let e1 = c.in_ok-offset-2.ensures.read found.answers w.0.authority_start (rw e0.1 w.0.answers) w.1.answers in
    let e2 = c.in_ok-offset-3.ensures.read found.authority w.0.additional_start (rw e1.1 w.0.authority) w.1.authority in
    let p = err_from_is_err_and c.from_residual-in_err-read_section_if_any.result c.from_residual-in_err-read_section_if_any.ensures.1 in
    rw p.1 (p.2 ∙ c.in_err-read_section_if_any.ensures.read found.additional (length (take end c.args.bytes.now))
    (rw e2.1 w.0.additional) w.1.additional)

-- ---- which part it was

pub returns-in_err-offset-clause-malformed : goal.returns-in_err-offset-clause-malformed
returns-in_err-offset-clause-malformed c = λ part is end found spelled.
    let memory = rw is at (returns-in_err-offset-clause-read c end found spelled (omega arith)) in
    absurd cc

pub returns-in_err-offset-2-clause-malformed : goal.returns-in_err-offset-2-clause-malformed
returns-in_err-offset-2-clause-malformed c = λ part is end found spelled.
    let memory = rw is at (returns-in_err-offset-2-clause-read c end found spelled (omega arith)) in
    absurd cc

pub returns-in_err-offset-3-clause-malformed : goal.returns-in_err-offset-3-clause-malformed
returns-in_err-offset-3-clause-malformed c = λ part is end found spelled.
    let memory = rw is at (returns-in_err-offset-3-clause-read c end found spelled (omega arith)) in
    absurd cc

pub returns-in_err-read_section_if_any-clause-malformed : goal.returns-in_err-read_section_if_any-clause-malformed
returns-in_err-read_section_if_any-clause-malformed c = λ part is end found spelled.
    let memory = rw is at (returns-in_err-read_section_if_any-clause-read c end found spelled (omega arith)) in
    absurd cc

pub returns-in_err-offset-2-clause-refused : goal.returns-in_err-offset-2-clause-refused
returns-in_err-offset-2-clause-refused c =
    let bytes = c.args.bytes.now in
    let counts = (header (goal.at.returns-in_err-offset-2-clause-refused c).In_ok-header).1 in
    let questions = c.in_ok-offset.ensures.found in
    let refusal = c.in_err-offset-2.field-0.0 in
    let p = err_from_is_err_and c.from_residual-in_err-offset-2.result c.from_residual-in_err-offset-2.ensures.1 in
    rw (p.1, p.2) (refused_where bytes Answers refusal c.in_err-offset-2.ensures.refused
    (λ is. questions_named bytes questions.0 (c.in_err-offset-2.ensures.memory is))
    (λ is. (
      c.in_ok-offset.offset,
      record { questions = c.read_section.new.entries.items; count = rw questions.1 counts.questions; stand = questions.0 },
      λ end there. no_records bytes 6 c.in_ok-header.counts.answers c.in_ok-offset.offset end Answers refusal counts.answers
          c.in_err-offset-2.ensures.read is there,
    )))

pub returns-in_err-offset-3-clause-refused : goal.returns-in_err-offset-3-clause-refused
returns-in_err-offset-3-clause-refused c =
    let bytes = c.args.bytes.now in
    let counts = (header (goal.at.returns-in_err-offset-3-clause-refused c).In_ok-header).1 in
    let questions = c.in_ok-offset.ensures.found in
    let answers = c.in_ok-offset-2.ensures.found in
    let refusal = c.in_err-offset-3.field-0.0 in
    let p = err_from_is_err_and c.from_residual-in_err-offset-3.result c.from_residual-in_err-offset-3.ensures.1 in
    rw (p.1, p.2) (refused_where bytes Authority refusal c.in_err-offset-3.ensures.refused
    (λ is. questions_named bytes questions.0 (records_named bytes answers.0 (c.in_err-offset-3.ensures.memory is)))
    (λ is. (
      c.in_ok-offset.offset,
      c.in_ok-offset-2.offset,
      record { questions = c.read_section.new.entries.items; count = rw questions.1 counts.questions; stand = questions.0 },
      record { records = c.read_section-2.new.entries.items; count = rw answers.1 counts.answers; stand = answers.0 },
      λ end there. no_records bytes 8 c.in_ok-header.counts.authority c.in_ok-offset-2.offset end Authority refusal counts.authority
          c.in_err-offset-3.ensures.read is there,
    )))

pub returns-in_err-read_section_if_any-clause-refused : goal.returns-in_err-read_section_if_any-clause-refused
returns-in_err-read_section_if_any-clause-refused c =
    let bytes = c.args.bytes.now in
    let counts = (header (goal.at.returns-in_err-read_section_if_any-clause-refused c).In_ok-header).1 in
    let questions = c.in_ok-offset.ensures.found in
    let answers = c.in_ok-offset-2.ensures.found in
    let authority = c.in_ok-offset-3.ensures.found in
    let refusal = c.in_err-read_section_if_any.field-0.0 in
    let p = err_from_is_err_and c.from_residual-in_err-read_section_if_any.result c.from_residual-in_err-read_section_if_any.ensures.1 in
    rw (p.1, p.2) (refused_where bytes Additional refusal c.in_err-read_section_if_any.ensures.refused
    (λ is. questions_named bytes questions.0
    (records_named bytes answers.0 (records_named bytes authority.0 (c.in_err-read_section_if_any.ensures.memory is))))
    (λ is. (
      c.in_ok-offset.offset,
      c.in_ok-offset-2.offset,
      c.in_ok-offset-3.offset,
      record { questions = c.read_section.new.entries.items; count = rw questions.1 counts.questions; stand = questions.0 },
      record { records = c.read_section-2.new.entries.items; count = rw answers.1 counts.answers; stand = answers.0 },
      record { records = c.read_section_if_any.new.entries.items; count = rw authority.1 counts.authority; stand = authority.0 },
      λ end there. no_records bytes 10 c.in_ok-header.counts.additional c.in_ok-offset-3.offset end Additional refusal counts.additional
          c.in_err-read_section_if_any.ensures.read is there,
    )))
