-- The answers that were given, and what they say of a name.
use Rattle.std.specs.Prelude.{List, [], ◌∷◌, ◌++◌, map, Option, Result, Ok, Err}
use Rattle.std.specs.List.{find}
use Rattle.std.specs.Option.{option_map, ok_or}
use Rattle.dns_answers.specs.Values.{AnswerValue}
use Rattle.dns_answers.specs.declared.records.Records.{Records}
use Rattle.dns_answers.specs.declared.records.Records.TheVariants as records
use Rattle.dns_message.specs.Questions.{same_question}
use Rattle.dns_message.specs.declared.naptr.NaptrRecord.{NaptrRecord}
use Rattle.dns_message.specs.declared.question.Question.{Question}
use Rattle.dns_message.specs.declared.srv.SrvRecord.{SrvRecord}
use Rattle.ip_text.specs.declared.address.Address.{Address}
use Rattle.ip_text.specs.declared.address.Address.TheVariants as address

-- a question with its answer
pub record Given : Type 0 where
  pub question : Question
  pub answer : AnswerValue

-- What a value that needs answers is: the value, or the first question that has none.
abbrev pub Needing : Type 0 → Type 0
Needing Value = Result Value Question

-- what needs answers, made from a value that needs answers; the question of that value comes first
abbrev pub after : {X Y : Type 0} → (X → Needing Y) → Needing X → Needing Y
after f (Ok value) = f value
after f (Err question) = Err question

-- a value that needs answers, with a function applied once it is known
abbrev pub made : {X Y : Type 0} → (X → Y) → Needing X → Needing Y
made f (Ok value) = Ok (f value)
made f (Err question) = Err question

-- the lists of each, joined; the first question that one of them needs comes first
abbrev pub joined : {X Y : Type 0} → (X → Needing (List Y)) → List X → Needing (List Y)
joined f [] = Ok []
joined f (x ∷ xs) = after (λ first. made (λ others. first ++ others) (joined f xs)) (f x)

-- ---- what is known

-- the first answer that was given to a question
abbrev pub find_answer : List Given → Question → Option AnswerValue
find_answer given question =
    option_map (λ it. it.answer) (find (λ it. same_question it.question question) given)

-- the answer that was given to a question, or the question itself
abbrev pub answer_to : List Given → Question → Needing AnswerValue
answer_to given question = ok_or (find_answer given question) question

-- the addresses of an answer (RFC 3263 4.2)
abbrev pub addresses_in : Records → List Address
addresses_in (records.V4 octets) = map address.V4 octets
addresses_in (records.V6 octets) = map address.V6 octets
addresses_in (records.Srv servers) = []
addresses_in (records.Naptr rules) = []

-- the servers of an answer, which SRV records name
abbrev pub servers_in : Records → List SrvRecord
servers_in (records.Srv servers) = servers
servers_in _ = []

-- the rules of an answer, which NAPTR records are
abbrev pub rules_in : Records → List NaptrRecord
rules_in (records.Naptr rules) = rules
rules_in _ = []
