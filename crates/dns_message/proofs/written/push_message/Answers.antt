use Rattle.std.proofs.Common.{◌≡◌, ℕ, ◌+◌, ◌<◌, ◌≤◌, List, ◌++◌, length, Result, Ok, Err, ap, ◌∙◌, arith, append_assoc, length-append}
use Rattle.std.specs.List.{flat_map}
use Rattle.std.specs.Result.{OnErr}
use Rattle.std.proofs.lemmas.Result.{on_ok_weaker, on_err_weaker}
use Rattle.dns_message.specs.Written.{question_octets, record_octets, header_octets, count_octets, plain}
use Rattle.dns_message.specs.declared.header.Header.{Header}
use Rattle.dns_message.specs.declared.message.Message.{Message}
use Rattle.dns_message.proofs.WrittenOctets.{length-header_octets, length-count_octets, length-plain}
use Rattle.dns_message.proofs.written.push_message.Goals as goal
use Rattle.dns_message.proofs.written.push_message.Goals.{In_ok-push_header, In_ok-push_questions, In_ok-push_records, In_ok-push_records-2}

-- what holds in any case holds on an error
in_any_case : {T E P : Type 0} (r : Result T E) → P → OnErr r P
in_any_case (Ok value) holds = tt
in_any_case (Err refusal) holds = holds

-- ---- how many octets there are before each section

header_length : (front after : List ℕ) (header : Header) (questions answers authority additional : ℕ)
    → after ≡ front ++ header_octets header ++ count_octets questions answers authority additional → length after ≡ length front + 12
header_length front after header questions answers authority additional is =
    omega (
      arith,
      ap length is,
      length-append (front ++ header_octets header) (count_octets questions answers authority additional),
      length-append front (header_octets header),
      length-header_octets header,
      length-count_octets questions answers authority additional,
    )

section_length : (front before part after : List ℕ) (so_far : ℕ) → length before ≡ length front + so_far → after ≡ before ++ part
    → length after ≡ length front + (so_far + length part)
section_length front before part after so_far there is = omega (arith, ap length is, length-append before part)

abbrev before_answers : Message → ℕ
before_answers message = 12 + length (flat_map question_octets message.questions)

abbrev before_authority : Message → ℕ
before_authority message = before_answers message + length (flat_map record_octets message.answers)

abbrev before_additional : Message → ℕ
before_additional message = before_authority message + length (flat_map record_octets message.authority)

-- ---- where there is no room for a part, there is none for the message

no_room-header : (message : Message) (front : List ℕ) (questions answers authority additional : ℕ)
    → 512 < length front + length (header_octets message.header) + length (count_octets questions answers authority additional)
    → 512 < length front + length (plain message)
no_room-header message front questions answers authority additional long =
    omega (
      arith,
      length-plain message,
      length-header_octets message.header,
      length-count_octets questions answers authority additional,
    )

no_room : (message : Message) (front before part : List ℕ) (so_far : ℕ) → length before ≡ length front + so_far
    → so_far + length part ≤ length (plain message) → 512 < length before + length part → 512 < length front + length (plain message)
no_room message front before part so_far there within long = omega arith

no_room-questions : (message : Message) (front before : List ℕ) → length before ≡ length front + 12
    → 512 < length before + length (flat_map question_octets message.questions) → 512 < length front + length (plain message)
no_room-questions message front before there =
    no_room message front before (flat_map question_octets message.questions) 12 there (omega (arith, length-plain message))

no_room-answers : (message : Message) (front before : List ℕ) → length before ≡ length front + before_answers message
    → 512 < length before + length (flat_map record_octets message.answers) → 512 < length front + length (plain message)
no_room-answers message front before there =
    no_room message front before (flat_map record_octets message.answers) (before_answers message) there
    (omega (arith, length-plain message))

no_room-authority : (message : Message) (front before : List ℕ) → length before ≡ length front + before_authority message
    → 512 < length before + length (flat_map record_octets message.authority) → 512 < length front + length (plain message)
no_room-authority message front before there =
    no_room message front before (flat_map record_octets message.authority) (before_authority message) there
    (omega (arith, length-plain message))

no_room-additional : (message : Message) (front before : List ℕ) → length before ≡ length front + before_additional message
    → 512 < length before + length (flat_map record_octets message.additional) → 512 < length front + length (plain message)
no_room-additional message front before there =
    no_room message front before (flat_map record_octets message.additional) (before_additional message) there
    (omega (arith, length-plain message))

-- ---- the answers

pub returns-in_err-push_header-clause-too_long : goal.returns-in_err-push_header-clause-too_long
returns-in_err-push_header-clause-too_long c =
    let counts = c.in_ok-counts_of.field-0 in
    in_any_case c.from_residual-in_err-push_header.result
    (no_room-header c.args.message.now c.args.out.now.items counts.questions counts.answers counts.authority counts.additional
    c.in_err-push_header.ensures.too_long)

header : (c : In_ok-push_header) → length c.push_header.new.out.items ≡ length c.args.out.now.items + 12
header c =
    let counts = c.in_ok-counts_of.field-0 in
    header_length c.args.out.now.items c.push_header.new.out.items c.args.message.now.header counts.questions counts.answers
    counts.authority counts.additional c.in_ok-push_header.ensures.ok

questions : (c : In_ok-push_questions) → length c.push_header.new.out.items ≡ length c.args.out.now.items + 12
    → length c.push_questions.new.out.items ≡ length c.args.out.now.items + before_answers c.args.message.now
questions c there =
    section_length c.args.out.now.items c.push_header.new.out.items (flat_map question_octets c.args.message.now.questions)
    c.push_questions.new.out.items 12 there (rw c.as_slice.ensures at c.in_ok-push_questions.ensures.ok)

answers : (c : In_ok-push_records) → length c.push_questions.new.out.items ≡ length c.args.out.now.items + before_answers c.args.message.now
    → length c.push_records.new.out.items ≡ length c.args.out.now.items + before_authority c.args.message.now
answers c there =
    section_length c.args.out.now.items c.push_questions.new.out.items (flat_map record_octets c.args.message.now.answers)
    c.push_records.new.out.items (before_answers c.args.message.now) there
    (rw c.as_slice-2.ensures at c.in_ok-push_records.ensures.ok)

authority : (c : In_ok-push_records-2)
    → length c.push_records.new.out.items ≡ length c.args.out.now.items + before_authority c.args.message.now
    → length c.push_records-2.new.out.items ≡ length c.args.out.now.items + before_additional c.args.message.now
authority c there =
    section_length c.args.out.now.items c.push_records.new.out.items (flat_map record_octets c.args.message.now.authority)
    c.push_records-2.new.out.items (before_authority c.args.message.now) there
    (rw c.as_slice-3.ensures at c.in_ok-push_records-2.ensures.ok)

pub returns-in_err-push_questions-clause-too_long : goal.returns-in_err-push_questions-clause-too_long
returns-in_err-push_questions-clause-too_long c =
    let here = goal.at.returns-in_err-push_questions-clause-too_long c in
    in_any_case c.from_residual-in_err-push_questions.result
    (no_room-questions c.args.message.now c.args.out.now.items c.push_header.new.out.items (header here.In_ok-push_header)
    (rw c.as_slice.ensures at c.in_err-push_questions.ensures.too_long))

pub returns-in_err-push_records-clause-too_long : goal.returns-in_err-push_records-clause-too_long
returns-in_err-push_records-clause-too_long c =
    let here = goal.at.returns-in_err-push_records-clause-too_long c in
    in_any_case c.from_residual-in_err-push_records.result
    (no_room-answers c.args.message.now c.args.out.now.items c.push_questions.new.out.items
    (questions here.In_ok-push_questions (header here.In_ok-push_header))
    (rw c.as_slice-2.ensures at c.in_err-push_records.ensures.too_long))

pub returns-in_err-push_records-2-clause-too_long : goal.returns-in_err-push_records-2-clause-too_long
returns-in_err-push_records-2-clause-too_long c =
    let here = goal.at.returns-in_err-push_records-2-clause-too_long c in
    in_any_case c.from_residual-in_err-push_records-2.result
    (no_room-authority c.args.message.now c.args.out.now.items c.push_records.new.out.items
    (answers here.In_ok-push_records (questions here.In_ok-push_questions (header here.In_ok-push_header)))
    (rw c.as_slice-3.ensures at c.in_err-push_records-2.ensures.too_long))

pub returns-clause-too_long : goal.returns-clause-too_long
returns-clause-too_long c =
    let here = goal.at.returns-clause-too_long c in
    let there = authority here.In_ok-push_records-2
    (answers here.In_ok-push_records (questions here.In_ok-push_questions (header here.In_ok-push_header))) in
    on_err_weaker c.push_records-3.result
    (no_room-additional c.args.message.now c.args.out.now.items c.push_records-2.new.out.items there)
    (rw c.as_slice-4.ensures at c.push_records-3.ensures.too_long)

pub returns-clause-ok : goal.returns-clause-ok
unfolding plain
returns-clause-ok c =
    let counts = c.in_ok-counts_of.ensures.ok in
    on_ok_weaker c.push_records-3.result
    (λ e. e ∙ rw (
      c.in_ok-push_records-2.ensures.ok,
      c.in_ok-push_records.ensures.ok,
      c.in_ok-push_questions.ensures.ok,
      c.in_ok-push_header.ensures.ok,
      c.as_slice.ensures,
      c.as_slice-2.ensures,
      c.as_slice-3.ensures,
      c.as_slice-4.ensures,
      counts.0,
      counts.1,
      counts.2,
      counts.3,
    ) (simp append_assoc)) c.push_records-3.ensures.ok
