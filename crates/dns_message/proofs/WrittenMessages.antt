-- A message as it is written, and what stands there.
use Rattle.std.proofs.Common.{◌≡◌, ℕ, ◌+◌, ◌<◌, ◌≤◌, List, [], ◌∷◌, ◌++◌, inl, inr, length, take, refl, sym, append_assoc, arith}
use Rattle.std.specs.List.{flat_map}
use Rattle.std.specs.Result.{IfOk}
use Rattle.std.specs.declared.result.Result.{Result}
use Rattle.std.specs.declared.result.Result.TheVariants.{Ok, Err}
use Rattle.std.proofs.lemmas.Bool.{le-leb}
use Rattle.std.proofs.lemmas.Bool.Decides.{leb_tells}
use Rattle.std.proofs.lemmas.List.{take_at, append-nil}
use Rattle.dns_message.specs.Fits.{QuestionFits, RecordFits, MessageFits}
use Rattle.dns_message.specs.Messages.{MessageAt, Spells}
use Rattle.dns_message.specs.Questions.{QuestionAt}
use Rattle.dns_message.specs.Records.{RecordAt}
use Rattle.dns_message.specs.Written.{question_octets, record_octets, header_octets, count_octets, plain, cut, fitted, query_of, asked_of}
use Rattle.dns_message.specs.declared.message.Message.{Message}
use Rattle.dns_message.specs.declared.question.Question.{Question}
use Rattle.dns_message.proofs.Names.{IsReadAgain}
use Rattle.dns_message.proofs.WrittenOctets.{length-header_octets, length-count_octets, length-plain, questions_short, questions-le, answers-le, authority-le, additional-le}
use Rattle.dns_message.proofs.WrittenOffsets.{Stands, Stands-at, all_at}
use Rattle.dns_message.proofs.WrittenLayouts.{parts, header_at, counts_at, question_at, record_at}

message_at : IsReadAgain → (octets : List ℕ) (message : Message) → MessageFits message → length (plain message) ≤ 65535
    → Stands octets 0 (plain message) → MessageAt octets message (length (plain message))
unfolding plain
message_at again octets message fits short s =
    let header : List ℕ = header_octets message.header in
    let counts : List ℕ =
    count_octets (length message.questions) (length message.answers) (length message.authority) (length message.additional) in
    let questions : List ℕ = flat_map question_octets message.questions in
    let answers : List ℕ = flat_map record_octets message.answers in
    let authority : List ℕ = flat_map record_octets message.authority in
    let additional : List ℕ = flat_map record_octets message.additional in
    let p1 = parts octets 0 header (counts ++ (questions ++ (answers ++ (authority ++ additional)))) (simp append_assoc at s) in
    let p2 = parts octets 4 counts (questions ++ (answers ++ (authority ++ additional)))
    (Stands-at 4 (omega (arith, length-header_octets message.header)) p1.others) in
    let eight = length-count_octets (length message.questions) (length message.answers) (length message.authority)
    (length message.additional) in
    let p3 = parts octets 12 questions (answers ++ (authority ++ additional)) (Stands-at 12 (omega (arith, eight)) p2.others) in
    let p4 = parts octets (12 + length questions) answers (authority ++ additional) p3.others in
    let p5 = parts octets (12 + length questions + length answers) authority additional p4.others in
    let numbers =
    counts_at octets (length message.questions) (length message.answers) (length message.authority) (length message.additional)
    (omega (arith, questions-le message)) (omega (arith, answers-le message)) (omega (arith, authority-le message))
    (omega (arith, additional-le message)) p2.first in
    let records = all_at octets record_octets RecordFits (RecordAt octets) (record_at again octets) in
    let last = records message.additional (12 + length questions + length answers + length authority) fits.additional p5.others in
    record {
      header = header_at octets message.header fits.header p1.first;
      question_count = numbers.questions;
      answer_count = numbers.answers;
      authority_count = numbers.authority;
      additional_count = numbers.additional;
      answers_start = 12 + length questions;
      authority_start = 12 + length questions + length answers;
      additional_start = 12 + length questions + length answers + length authority;
      questions = all_at octets question_octets QuestionFits (QuestionAt octets)
          (question_at again octets) message.questions 12 fits.questions p3.first;
      answers = records message.answers (12 + length questions) fits.answers p4.first;
      authority = records message.authority (12 + length questions + length answers) fits.authority p5.first;
      additional = rw (← length-plain message) at last;
    }

pub plain_spells : IsReadAgain → (message : Message) → MessageFits message → length (plain message) ≤ 65535 → Spells (plain message) message
plain_spells again message fits short =
    message_at again (plain message) message fits short
    (record { front = []; back = []; is = sym (append-nil (plain message)); before = refl })

pub plain_spells-front : IsReadAgain → (message : Message) (back : List ℕ) → MessageFits message → length (plain message) ≤ 65535
    → Spells (take (length (plain message)) (plain message ++ back)) message
plain_spells-front again message back fits short =
    rw (take_at (plain message) back (length (plain message)) refl) (plain_spells again message fits short)

pub spelled : IsReadAgain → (octets : List ℕ) (message : Message) → octets ≡ plain message → MessageFits message
    → length (plain message) ≤ 65535 → Spells octets message
spelled again octets message e fits short = rw e (plain_spells again message fits short)

pub both_ok : {T E : Type 0} (r : Result T E) (P Q R : T → Type 0) → ((x : T) → P x → Q x → R x) → IfOk r P → IfOk r Q → IfOk r R
both_ok (Ok x) P Q R from p q = from x p q
both_ok (Err e) P Q R from p q = tt

-- ---- a message without records

pub cut_short : (message : Message) → MessageFits (cut message) → length message.questions ≤ 1 → length (plain (cut message)) ≤ 512
cut_short message fits few = omega (arith, length-plain (cut message), questions_short message.questions fits.questions)

pub fitted-cut : (message : Message) → 512 < length (plain message) → fitted message ≡ cut message
fitted-cut message long = elim (leb_tells (length (plain message)) 512) [
  | inl yes' ↦ absurd (omega (arith, long, yes'.1))
  | inr no' ↦ rw no'.0 refl
]

pub fitted-whole : (message : Message) → length (plain message) ≤ 512 → fitted message ≡ message
fitted-whole message short = rw (le-leb (length (plain message)) 512 short) refl

pub query_octets : (id : ℕ) (question : Question)
    → header_octets (query_of id question).header ++ count_octets 1 0 0 0 ++ question_octets (asked_of question)
    ≡ plain (query_of id question)
unfolding plain
query_octets id question = simp append-nil

pub query_short : (id : ℕ) (question : Question) → MessageFits (query_of id question) → length (plain (query_of id question)) ≤ 65535
query_short id question fits =
    omega (arith, length-plain (query_of id question), questions_short (asked_of question ∷ []) fits.questions)
