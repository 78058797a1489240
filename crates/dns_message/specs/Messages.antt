-- A message (RFC 1035 4.1).
use Rattle.std.specs.Prelude.{ℕ, ◌<◌, ◌≤◌, List, length, take}
use Rattle.std.specs.Int.{w16}
use Rattle.dns_message.specs.Offsets.{NumberAt, NamedAt, AllAt}
use Rattle.dns_message.specs.Headers.{HeaderAt}
use Rattle.dns_message.specs.Questions.{QuestionAt}
use Rattle.dns_message.specs.Records.{RecordAt}
use Rattle.dns_message.specs.declared.message.Message.{Message}
use Rattle.dns_message.specs.declared.question.Asked.{Asked}
use Rattle.dns_message.specs.declared.resource.Record.{Record}
use Rattle.dns_message.specs.declared.refusal.Part.{Part}
use Rattle.dns_message.specs.declared.refusal.Part.TheVariants.{Header, Questions, Answers, Authority, Additional}
use Rattle.dns_message.specs.declared.refusal.MessageRefusal.{MessageRefusal}
use Rattle.dns_message.specs.declared.refusal.MessageRefusal.TheVariants.{TooLong, Malformed, Memory}

-- The octets before this end are the header, the questions and the records of the message, one
-- after the other. Names may end in pointers, which count from the first octet.
pub record MessageAt (octets : List ℕ) (message : Message) (end : ℕ) : Type 0 where
  pub header : HeaderAt octets message.header
  pub question_count : NumberAt w16 octets 4 (length message.questions)
  pub answer_count : NumberAt w16 octets 6 (length message.answers)
  pub authority_count : NumberAt w16 octets 8 (length message.authority)
  pub additional_count : NumberAt w16 octets 10 (length message.additional)
  pub answers_start : ℕ
  pub authority_start : ℕ
  pub additional_start : ℕ
  pub questions : AllAt (QuestionAt octets) 12 message.questions answers_start
  pub answers : AllAt (RecordAt octets) answers_start message.answers authority_start
  pub authority : AllAt (RecordAt octets) authority_start message.authority additional_start
  pub additional : AllAt (RecordAt octets) additional_start message.additional end

-- all of these octets are the message
abbrev pub Spells : List ℕ → Message → Type 0
Spells octets message = MessageAt octets message (length octets)

-- octets, at most 65,535 of them, begin with this message (RFC 1035 4.2.2)
pub record Begins (octets : List ℕ) (it : Message) : Type 0 where
  pub short : length octets ≤ 65535
  pub end : ℕ
  pub spelled : Spells (take end octets) it

-- ---- octets that begin with no message

-- as many questions as the header counts come after it, up to this end (RFC 1035 4.1.1)
pub record QuestionsStand (octets : List ℕ) (end : ℕ) : Type 0 where
  pub questions : List Asked
  pub count : NumberAt w16 octets 4 (length questions)
  pub stand : AllAt (QuestionAt octets) 12 questions end

-- as many records as this number of the header counts lie from one offset to another (RFC 1035
-- 4.1.1)
pub record RecordsStand (octets : List ℕ) (count_offset start end : ℕ) : Type 0 where
  pub records : List Record
  pub count : NumberAt w16 octets count_offset (length records)
  pub stand : AllAt (RecordAt octets) start records end

-- octets do not have this part of a message, and have all parts before it
abbrev pub FailsIn : Part → List ℕ → Type 0
FailsIn Header octets = length octets < 12
FailsIn Questions octets = (12 ≤ length octets) × ((end : ℕ) → QuestionsStand octets end → ⊥)
FailsIn Answers octets = (start : ℕ) × QuestionsStand octets start
    × ((end : ℕ) → RecordsStand octets 6 start end → ⊥)
FailsIn Authority octets = (answers_start : ℕ) × (start : ℕ) × QuestionsStand octets answers_start
    × RecordsStand octets 6 answers_start start
    × ((end : ℕ) → RecordsStand octets 8 start end → ⊥)
FailsIn Additional octets = (answers_start : ℕ) × (authority_start : ℕ) × (start : ℕ)
    × QuestionsStand octets answers_start
    × RecordsStand octets 6 answers_start authority_start
    × RecordsStand octets 8 authority_start start
    × ((end : ℕ) → RecordsStand octets 10 start end → ⊥)

-- what holds of octets that are refused, by the refusal: memory is needed only where a name is
-- after the header
abbrev pub RefusedWhere : MessageRefusal → List ℕ → Type 0
RefusedWhere TooLong octets = 65535 < length octets
RefusedWhere (Malformed part) octets = FailsIn part octets
RefusedWhere Memory octets = NamedAt octets 12
