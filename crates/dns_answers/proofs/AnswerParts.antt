-- The records of an answer, and its life.
use Rattle.std.proofs.Common.{◌≡◌, ℕ, zero, suc, ◌<◌, ◌≤◌, ◌^◌, List, [], ◌∷◌, ◌++◌, length, take, map, Bool, true, false, cond, Option, Some, None, refl, sym, ap, ◌∙◌, arith}
use Rattle.std.specs.List.{All, filter}
use Rattle.std.proofs.lemmas.List.{length-take}
use Rattle.dns_message.specs.declared.kind.Kind.{Kind}
use Rattle.dns_message.specs.declared.kind.Kind.TheVariants.{A, Aaaa, Srv, Naptr}
use Rattle.dns_message.specs.declared.message.Message.{Message}
use Rattle.dns_message.specs.declared.question.Question.{Question}
use Rattle.dns_message.specs.declared.rdata.Rdata.{Rdata}
use Rattle.dns_message.specs.declared.resource.Record.{Record}
use Rattle.dns_answers.specs.Answers.{kept_along, answer}
use Rattle.dns_answers.specs.Chains.{Chain, chain}
use Rattle.dns_answers.specs.Kept.{has_data, kept_with, data_of, kept, records_of}
use Rattle.dns_message.specs.declared.soa.SoaRecord.{SoaRecord}
use Rattle.dns_answers.specs.Lives.{effective_ttl, least_from, ttls, links_of, life_of, absent_life, IsFirstSoa, IsNoSoa, IsLeast}
use Rattle.dns_name.specs.Labels.{same_name}
use Rattle.dns_answers.specs.Records.{count_of, kind_of, CanBeKept}
use Rattle.dns_answers.proofs.NegativeLives.{absent-le, absent_is_least, absent_without, absent-ttl, absent-minimum, absent-links}
use Rattle.dns_answers.proofs.LeastLives.{least-le}

module _ {X : Type 0} (data_in : Rdata → Option X) (name : List (List ℕ)) where
  -- a record with data for a name has data
  counted_entry : (entry : Record) (others : List Record) (same : Bool) → same_name entry.owner name ≡ same → (has : Option X)
      → data_in entry.rdata ≡ has → has_data data_in name entry ≡ true
      → length (data_of data_in (entry ∷ others)) ≡ suc (length (data_of data_in others))
  counted_entry entry others true e (Some x) is has = rw is refl
  counted_entry entry others true e None is has =
      let no : false ≡ true = rw (e, is) at has in
      absurd cc
  counted_entry entry others false e o is has =
      let no : false ≡ true = rw e at has in
      absurd cc

  abbrev SameLength : List Record → Type 0
  SameLength entries = length (data_of data_in entries) ≡ length entries

  taken : (limit : ℕ) (entry : Record) (rest : List Record) → SameLength (take limit rest) → SameLength (take (suc limit) rest)
      → (has : Bool) → has_data data_in name entry ≡ has → SameLength (take (suc limit) (cond has (entry ∷ rest) rest))
  taken limit entry rest less more true has =
      counted_entry entry (take limit rest) (same_name entry.owner name) refl (data_in entry.rdata) refl has ∙ ap suc less
  taken limit entry rest less more false has = more

  length_data : (section : List Record) (limit : ℕ) → SameLength (take limit (filter (has_data data_in name) section))
  length_data section zero = refl
  length_data [] (suc limit) = refl
  length_data (entry ∷ others) (suc limit) =
      taken limit entry (filter (has_data data_in name) others) (length_data others limit) (length_data others (suc limit))
      (has_data data_in name entry) refl

few_with : {X : Type 0} (data_in : Rdata → Option X) (name : List (List ℕ)) (section : List Record)
    → length (kept_with data_in name section) ≤ 32
few_with data_in name section = omega (arith, length-take 32 (filter (has_data data_in name) section))

pub count_is : (kind : Kind) (name : List (List ℕ)) (section : List Record)
    → count_of (records_of kind (kept kind name section)) ≡ length (kept kind name section)
count_is A name section = length_data _ name section 32
count_is Aaaa name section = length_data _ name section 32
count_is Srv name section = length_data _ name section 32
count_is Naptr name section = length_data _ name section 32

few : (kind : Kind) (name : List (List ℕ)) (section : List Record) → length (kept kind name section) ≤ 32
few A name section = few_with _ name section
few Aaaa name section = few_with _ name section
few Srv name section = few_with _ name section
few Naptr name section = few_with _ name section

pub kind_is : (kind : Kind) (entries : List Record) → kind_of (records_of kind entries) ≡ kind
kind_is A entries = refl
kind_is Aaaa entries = refl
kind_is Srv entries = refl
kind_is Naptr entries = refl

life_absent : (message : Message) (found : Option Chain) (entries : List Record) → length entries ≡ 0
    → life_of message found entries ≡ absent_life message found
life_absent message found [] none = refl
life_absent message found (first ∷ others) none = absurd (omega arith)

module _ (question : Question) (message : Message) (links : List Record) (last : List (List ℕ))
    (is : chain message.answers question.name ≡ Some (record { links = links; last = last })) where
  abbrev entries : List Record
  entries = kept question.kind last message.answers

  pub absent : (life : ℕ) → count_of (records_of question.kind entries) ≡ 0
      → life ≡ absent_life message (Some (record { links = links; last = last }))
      → answer question message ≡ record { records = records_of question.kind entries; life = life }
  absent life none e =
      let short = life_absent message (Some (record { links = links; last = last })) entries
      (sym (count_is question.kind last message.answers) ∙ none) in
      rw (is, short, e) refl

pub bounds : (kind : Kind) (name : List (List ℕ)) (section links : List Record) (limit life : ℕ)
    → limit ≡ least_from 2147483647 (ttls links) → life ≡ least_from limit (ttls (kept kind name section))
    → CanBeKept (records_of kind (kept kind name section)) life
bounds kind name section links limit life limit_is life_is = record {
  few = omega (arith, count_is kind name section, few kind name section);
  short = omega (arith, least-le 2147483647 (ttls links), least-le limit (ttls (kept kind name section)));
}

-- ---- what an answer keeps to

few_none : (kind : Kind) → count_of (records_of kind []) ≤ 32
few_none A = omega arith
few_none Aaaa = omega arith
few_none Srv = omega arith
few_none Naptr = omega arith

few_along : (question : Question) (message : Message) (found : Option Chain)
    → count_of (records_of question.kind (kept_along question message found)) ≤ 32
few_along question message None = few_none question.kind
few_along question message (Some found) =
    omega (arith, count_is question.kind found.last message.answers, few question.kind found.last message.answers)

pub answer-few : (question : Question) (message : Message) → count_of (answer question message).records ≤ 32
answer-few question message = few_along question message (chain message.answers question.name)

life_short : (message : Message) (found : Option Chain) (entries : List Record) → life_of message found entries < 2 ^ 31
life_short message found [] = omega (arith, absent-le message found)
life_short message found (first ∷ others) = omega (arith, least-le 2147483647 (ttls (links_of found ++ first ∷ others)))

pub answer-short : (question : Question) (message : Message) → (answer question message).life < 2 ^ 31
answer-short question message =
    let found : Option Chain = chain message.answers question.name in
    life_short message found (kept_along question message found)

-- ---- an answer without records

absent_along : (question : Question) (message : Message) (found : Option Chain)
    → count_of (records_of question.kind (kept_along question message found)) ≡ 0
    → life_of message found (kept_along question message found) ≡ absent_life message found
absent_along question message None none = refl
absent_along question message (Some found) none =
    life_absent message (Some found) (kept question.kind found.last message.answers)
    (sym (count_is question.kind found.last message.answers) ∙ none)

module _ (question : Question) (message : Message) (none : count_of (answer question message).records ≡ 0) where
  abbrev this_chain : Option Chain
  this_chain = chain message.answers question.name

  life_is : (answer question message).life ≡ absent_life message this_chain
  life_is = absent_along question message this_chain none

  pub answer-ttl : (entry : Record) (authority : SoaRecord) → IsFirstSoa message.authority entry authority
      → (answer question message).life ≤ effective_ttl entry.ttl
  answer-ttl entry authority is = rw life_is (absent-ttl message this_chain entry authority is)

  pub answer-minimum : (entry : Record) (authority : SoaRecord) → IsFirstSoa message.authority entry authority
      → (answer question message).life ≤ authority.minimum
  answer-minimum entry authority is = rw life_is (absent-minimum message this_chain entry authority is)

  pub answer-cnames : (found : Chain) → this_chain ≡ Some found
      → All (λ (ttl : ℕ). (answer question message).life ≤ effective_ttl ttl) (ttls found.links)
  answer-cnames found is = rw (life_is, is) (absent-links message found)

  pub answer-least : (found : Chain) (entry : Record) (authority : SoaRecord) → this_chain ≡ Some found
      → IsFirstSoa message.authority entry authority
      → IsLeast (answer question message).life (authority.minimum ∷ map effective_ttl (entry.ttl ∷ ttls found.links))
  answer-least found entry authority is first = rw (life_is, is) (absent_is_least message found entry authority first)

  pub answer-without : All IsNoSoa message.authority → (answer question message).life ≡ 0
  answer-without no_soa = rw life_is (absent_without message this_chain no_soa)

endless : (question : Question) (message : Message) (found : Option Chain) → found ≡ None
    → life_of message found (kept_along question message found) ≡ 0
endless question message None is = refl
endless question message (Some found) is = absurd cc

pub answer-endless : (question : Question) (message : Message) → chain message.answers question.name ≡ None
    → (answer question message).life ≡ 0
answer-endless question message is = endless question message (chain message.answers question.name) is
