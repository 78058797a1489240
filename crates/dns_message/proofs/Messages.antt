-- Messages in front of octets.
use Rattle.std.proofs.Common.{◌≡◌, ℕ, ◌<◌, ◌≤◌, List, length, take, slice_index, get_or, refl, sym, ap, ◌∙◌, inl, inr, arith}
use Rattle.std.specs.Int.{w16}
use Rattle.std.proofs.lemmas.List.{length-take, length-take-le, take-take, get_or-take}
use Rattle.dns_message.specs.declared.header.Header.{Header}
use Rattle.dns_message.specs.declared.header.Counts.{Counts}
use Rattle.dns_message.specs.declared.question.Asked.{Asked}
use Rattle.dns_message.specs.declared.resource.Record.{Record}
use Rattle.dns_message.specs.declared.message.Message.{Message}
use Rattle.dns_message.specs.Headers.{HeaderAt, CountsAt}
use Rattle.dns_message.specs.Questions.{QuestionAt}
use Rattle.dns_message.specs.Records.{RecordAt}
use Rattle.dns_message.specs.Messages.{MessageAt, Spells, RecordsStand, FailsIn, RefusedWhere}
use Rattle.dns_message.specs.Offsets.{NumberAt, NamedAt, AllAt}
use Rattle.dns_message.specs.Refusals.{IsOfPart}
use Rattle.dns_message.specs.declared.refusal.Part.{Part}
use Rattle.dns_message.specs.declared.refusal.MessageRefusal.{MessageRefusal}
use Rattle.dns_message.specs.declared.refusal.MessageRefusal.TheVariants.{Malformed, Memory}
use Rattle.dns_message.proofs.Names.{OneName, WithinEnd, IsLocal}
use Rattle.dns_message.proofs.Flags.{one_header}
use Rattle.dns_message.proofs.Offsets.{one_number, within_too, NumberAt-other, AllAt-goes_on, AllAt-within, AllAt-one, AllAt-other}
use Rattle.dns_message.proofs.Questions.{one_question, question_goes_on, question_within, QuestionAt-other}
use Rattle.dns_message.proofs.Records.{one_record, record_goes_on, record_within, RecordAt-other}

-- ---- one message

pub one_header_at : (octets : List ℕ) (a b : Header) → HeaderAt octets a → HeaderAt octets b → a ≡ b
one_header_at octets a b x y =
    one_header (slice_index octets 2) (slice_index octets 3) a b (one_number w16 octets 0 a.id b.id x.id y.id) x.high y.high x.low y.low

abbrev message_of : Header → List Asked → List Record → List Record → List Record → Message
message_of header questions answers authority additional =
    record { header = header; questions = questions; answers = answers; authority = authority; additional = additional }

same_message : (a b : Message) → a.header ≡ b.header → a.questions ≡ b.questions → a.answers ≡ b.answers → a.authority ≡ b.authority
    → a.additional ≡ b.additional → a ≡ b
same_message a b e0 e1 e2 e3 e4 =
    let same : message_of a.header a.questions a.answers a.authority a.additional
    ≡ message_of b.header b.questions b.answers b.authority b.additional = rw (e0, e1, e2, e3, e4) refl in same

pub one_message : OneName → (octets : List ℕ) (a b : Message) (end end' : ℕ) → MessageAt octets a end → MessageAt octets b end' → a ≡ b
one_message one octets a b end end' x y =
    let questions =
    AllAt-one (QuestionAt octets)
    (one_question one octets) 12 x.answers_start y.answers_start a.questions b.questions x.questions y.questions
    (one_number w16 octets 4 (length a.questions) (length b.questions) x.question_count y.question_count) in
    let answers =
    AllAt-one (RecordAt octets) (one_record one octets) y.answers_start x.authority_start y.authority_start a.answers b.answers
    (rw questions.1 at x.answers) y.answers
    (one_number w16 octets 6 (length a.answers) (length b.answers) x.answer_count y.answer_count) in
    let authority =
    AllAt-one (RecordAt octets) (one_record one octets) y.authority_start x.additional_start y.additional_start a.authority b.authority
    (rw answers.1 at x.authority) y.authority
    (one_number w16 octets 8 (length a.authority) (length b.authority) x.authority_count y.authority_count) in
    let additional =
    AllAt-one (RecordAt octets) (one_record one octets) y.additional_start end end' a.additional b.additional
    (rw authority.1 at x.additional) y.additional
    (one_number w16 octets 10 (length a.additional) (length b.additional) x.additional_count y.additional_count) in
    same_message a b (one_header_at octets a.header b.header x.header y.header) questions.0 answers.0 authority.0 additional.0

-- ---- the header's counts and the message's

pub record IsCounted (counts : Counts) (a : Message) : Type 0 where
  pub questions : length a.questions ≡ counts.questions
  pub answers : length a.answers ≡ counts.answers
  pub authority : length a.authority ≡ counts.authority
  pub additional : length a.additional ≡ counts.additional

pub counted : (octets : List ℕ) (counts : Counts) (a : Message) (end : ℕ) → CountsAt octets counts → MessageAt octets a end
    → IsCounted counts a
counted octets counts a end at x = record {
  questions = one_number w16 octets 4 (length a.questions) counts.questions x.question_count at.questions;
  answers = one_number w16 octets 6 (length a.answers) counts.answers x.answer_count at.answers;
  authority = one_number w16 octets 8 (length a.authority) counts.authority x.authority_count at.authority;
  additional = one_number w16 octets 10 (length a.additional) counts.additional x.additional_count at.additional;
}

-- ---- the octets before its end are enough

index-other : (octets other : List ℕ) (limit i : ℕ) → take limit octets ≡ take limit other → i < limit
    → slice_index octets i ≡ slice_index other i
index-other octets other limit i same lt =
    sym (get_or-take limit octets i 0 lt) ∙ ap (λ (l : List ℕ). get_or l i 0) same ∙ get_or-take limit other i 0 lt

HeaderAt-other : (octets other : List ℕ) (limit : ℕ) (a : Header) → take limit octets ≡ take limit other → 12 ≤ limit → HeaderAt octets a
    → HeaderAt other a
HeaderAt-other octets other limit a same le x = record {
  within = omega (arith, within_too octets other limit 4 same (omega (arith, le)) (omega (arith, x.within)));
  id = NumberAt-other w16 octets other limit 0 a.id same (omega (arith, le)) x.id;
  high = rw (← index-other octets other limit 2 same (omega (arith, le))) x.high;
  low = rw (← index-other octets other limit 3 same (omega (arith, le))) x.low;
}

pub MessageAt-other : WithinEnd → IsLocal → (octets other : List ℕ) (limit : ℕ) (a : Message) (end : ℕ)
    → take limit octets ≡ take limit other → end ≤ limit → MessageAt octets a end → MessageAt other a end
MessageAt-other within local octets other limit a end same le x =
    let questions_on = question_goes_on within octets in
    let records_on = record_goes_on within octets in
    let le0 : 12 ≤ x.answers_start = AllAt-goes_on (QuestionAt octets) questions_on x.questions in
    let le1 : x.answers_start ≤ x.authority_start = AllAt-goes_on (RecordAt octets) records_on x.answers in
    let le2 : x.authority_start ≤ x.additional_start = AllAt-goes_on (RecordAt octets) records_on x.authority in
    let le3 : x.additional_start ≤ end = AllAt-goes_on (RecordAt octets) records_on x.additional in
    let move = RecordAt-other within local octets other limit same in
    record {
      header = HeaderAt-other octets other limit a.header same (omega arith) x.header;
      question_count = NumberAt-other w16 octets other limit 4 (length a.questions) same (omega arith) x.question_count;
      answer_count = NumberAt-other w16 octets other limit 6 (length a.answers) same (omega arith) x.answer_count;
      authority_count = NumberAt-other w16 octets other limit 8 (length a.authority) same (omega arith) x.authority_count;
      additional_count = NumberAt-other w16 octets other limit 10 (length a.additional) same (omega arith) x.additional_count;
      answers_start = x.answers_start;
      authority_start = x.authority_start;
      additional_start = x.additional_start;
      questions = AllAt-other (QuestionAt octets) (QuestionAt other) limit questions_on
          (QuestionAt-other local octets other limit same) x.questions (omega arith);
      answers = AllAt-other (RecordAt octets) (RecordAt other) limit records_on move x.answers (omega arith);
      authority = AllAt-other (RecordAt octets) (RecordAt other) limit records_on move x.authority (omega arith);
      additional = AllAt-other (RecordAt octets) (RecordAt other) limit records_on move x.additional le;
    }

pub MessageAt-within : WithinEnd → (octets : List ℕ) (a : Message) (end : ℕ) → MessageAt octets a end → end ≤ length octets
MessageAt-within within octets a end x =
    let le0 = AllAt-within (QuestionAt octets) (length octets) (question_within octets) x.questions
    (omega (arith, x.additional_count.within)) in
    let le1 = AllAt-within (RecordAt octets) (length octets) (record_within within octets) x.answers le0 in
    let le2 = AllAt-within (RecordAt octets) (length octets) (record_within within octets) x.authority le1 in
    AllAt-within (RecordAt octets) (length octets) (record_within within octets) x.additional le2

-- what stands before an end is spelled by the octets before it
pub Spells-front : WithinEnd → IsLocal → (octets : List ℕ) (a : Message) (end : ℕ) → end ≤ length octets → MessageAt octets a end
    → Spells (take end octets) a
Spells-front within local octets a end le x =
    let same : take end octets ≡ take end (take end octets) = sym (take-take end end octets (omega arith)) in
    rw (length-take-le end octets le) (MessageAt-other within local octets (take end octets) end a end same (omega arith) x)

-- what the first octets spell stands in front of all of them
pub MessageAt-whole : WithinEnd → IsLocal → (octets : List ℕ) (a : Message) (end : ℕ) → Spells (take end octets) a
    → MessageAt octets a (length (take end octets))
MessageAt-whole within local octets a end x =
    let n : ℕ = length (take end octets) in
    let same : take n (take end octets) ≡ take n octets = take-take n end octets (omega (arith, length-take end octets)) in
    MessageAt-other within local (take end octets) octets n a n same (omega arith) x

-- ---- where reading stops

-- what is so of the octets, by the refusal of the part that was read last
pub refused_where : (octets : List ℕ) (part : Part) (refusal : MessageRefusal) → IsOfPart refusal part
    → (refusal ≡ Memory → NamedAt octets 12)
    → (refusal ≡ Malformed part → FailsIn part octets) → RefusedWhere refusal octets
refused_where octets part refusal (inl is) memory malformed = rw is (memory is)
refused_where octets part refusal (inr is) memory malformed = rw is (malformed is)

-- records that are called malformed do not stand there, if their reader wants memory alone where they do
pub no_records : (octets : List ℕ) (count_offset count start end : ℕ) (part : Part) (refusal : MessageRefusal)
    → NumberAt w16 octets count_offset count
    → ((records : List Record) (end : ℕ) → AllAt (RecordAt octets) start records end → length records ≡ count → refusal ≡ Memory)
    → refusal ≡ Malformed part → RecordsStand octets count_offset start end → ⊥
no_records octets count_offset count start end part refusal at read is there =
    let memory = read there.records end there.stand (one_number w16 octets count_offset (length there.records) count there.count at) in
    absurd cc
