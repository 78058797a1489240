-- One message stands in front of octets, and one question alone in a message.
use Rattle.std.proofs.Common.{◌≡◌, ℕ, List, [], ◌∷◌, take, refl, ap, ◌∙◌, arith}
use Rattle.dns_message.specs.Kinds.{type_of_kind}
use Rattle.dns_message.specs.Messages.{Begins, Spells}
use Rattle.dns_message.specs.Written.{asked_of}
use Rattle.dns_message.specs.declared.kind.Kind.{Kind}
use Rattle.dns_message.specs.declared.kind.Kind.TheVariants.{A, Aaaa, Srv, Naptr}
use Rattle.dns_message.specs.declared.message.Message.{Message}
use Rattle.dns_message.specs.declared.question.Asked.{Asked}
use Rattle.dns_message.specs.declared.question.Question.{Question}
use Rattle.dns_transport.specs.CnameChains.{Asks}

-- the law of messages
abbrev pub OneMessage : Type 0
OneMessage = (bytes : List ℕ) (end end' : ℕ) (message message' : Message) → Spells (take end bytes) message
    → Spells (take end' bytes) message' → message ≡ message'

pub one_message : OneMessage → (octets : List ℕ) (message other : Message) → Begins octets message → Begins octets other
    → message ≡ other
one_message one octets message other begins begins' = one octets begins.end begins'.end message other begins.spelled begins'.spelled

same_kind : (kind other : Kind) → type_of_kind kind ≡ type_of_kind other → kind ≡ other
same_kind A A is = refl
same_kind A Aaaa is = absurd (omega arith)
same_kind A Srv is = absurd (omega arith)
same_kind A Naptr is = absurd (omega arith)
same_kind Aaaa A is = absurd (omega arith)
same_kind Aaaa Aaaa is = refl
same_kind Aaaa Srv is = absurd (omega arith)
same_kind Aaaa Naptr is = absurd (omega arith)
same_kind Srv A is = absurd (omega arith)
same_kind Srv Aaaa is = absurd (omega arith)
same_kind Srv Srv is = refl
same_kind Srv Naptr is = absurd (omega arith)
same_kind Naptr A is = absurd (omega arith)
same_kind Naptr Aaaa is = absurd (omega arith)
same_kind Naptr Srv is = absurd (omega arith)
same_kind Naptr Naptr is = refl

abbrev question_with : List (List ℕ) → Kind → Question
question_with name kind = record { name = name; kind = kind }

same_question : (question other : Question) → asked_of question ∷ [] ≡ asked_of other ∷ [] → question ≡ other
same_question question other is =
    let asked : asked_of question ≡ asked_of other = cc in
    let name : question.name ≡ other.name = ap (λ (it : Asked). it.name) asked in
    let c : type_of_kind question.kind ≡ type_of_kind other.kind = ap (λ (it : Asked). it.type_number) asked in
    ap (λ (it : List (List ℕ)). question_with it question.kind) name ∙ ap (question_with other.name) (same_kind question.kind other.kind c)

pub one_query : OneMessage → (octets : List ℕ) (id id' : ℕ) (question other : Question) → Asks octets id question
    → Asks octets id' other → question ≡ other
one_query one octets id id' question other asks asks' =
    let same = one_message one octets asks.message asks'.message asks.begins asks'.begins in
    let alone : asked_of question ∷ [] ≡ asked_of other ∷ [] = cc (asks.alone, asks'.alone, ap (λ (it : Message). it.questions) same) in
    same_question question other alone
