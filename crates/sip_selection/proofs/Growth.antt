-- What is known stays so when further answers are given.
use Rattle.std.proofs.Common.{◌≡◌, ℕ, Bool, true, false, List, [], ◌∷◌, ◌++◌, map, Option, Some, None, Ok, Err, slice_get, refl}
use Rattle.std.specs.Option.{option_map_or}
use Rattle.dns_answers.specs.Values.{AnswerValue}
use Rattle.dns_message.specs.Questions.{same_question}
use Rattle.dns_message.specs.declared.kind.Kind.{Kind}
use Rattle.dns_message.specs.declared.kind.Kind.TheVariants as kind
use Rattle.dns_message.specs.declared.question.Question.{Question}
use Rattle.dns_message.specs.declared.srv.SrvRecord.{SrvRecord}
use Rattle.sip_uri.specs.declared.transport.Transport.{Transport}
use Rattle.srv_choice.specs.Outcomes.{is_root}
use Rattle.srv_choice.specs.declared.outcome.SrvOutcome.{SrvOutcome}
use Rattle.srv_choice.specs.declared.outcome.SrvOutcome.TheVariants.{Absent, Denied, Listed}
use Rattle.sip_selection.specs.Known.{Given, Needing, after, made, joined, find_answer, answer_to, servers_in}
use Rattle.sip_selection.specs.FixedOrders.{addresses_by, order_by}
use Rattle.sip_selection.specs.Services.{targets_of, server_targets, Offer, listed, offer_of, offer_named, offers_along, next_word, target_at}
use Rattle.sip_selection.specs.declared.service.Service.{Service}

-- where the first is known, the second is known to be the same
abbrev pub Grows : {X : Type 0} → Needing X → Needing X → Type 0
Grows {X} n n' = (x : X) → n ≡ Ok x → n' ≡ Ok x

pub made-grows : {X Y : Type 0} (f : X → Y) (n n' : Needing X) → Grows n n' → Grows (made f n) (made f n')
made-grows f (Ok x) n' grows y is = let same = grows x refl in rw same is
made-grows f (Err question) n' grows y is = absurd cc

pub after-grows : {X Y : Type 0} (f f' : X → Needing Y) (n n' : Needing X) → Grows n n' → ((x : X) → Grows (f x) (f' x))
    → Grows (after f n) (after f' n')
after-grows f f' (Ok x) n' grows each y is = let same = grows x refl in rw same (each x y is)
after-grows f f' (Err question) n' grows each y is = absurd cc

pub joined-grows : {X Y : Type 0} (f f' : X → Needing (List Y)) → ((x : X) → Grows (f x) (f' x)) → (xs : List X)
    → Grows (joined f xs) (joined f' xs)
joined-grows f f' each [] = λ y is. is
joined-grows f f' each (x ∷ xs) =
    after-grows (λ first. made (λ others. first ++ others) (joined f xs))
    (λ first. made (λ others. first ++ others) (joined f' xs)) (f x) (f' x) (each x)
    (λ first. made-grows (λ others. first ++ others) (joined f xs) (joined f' xs) (joined-grows f f' each xs))

module _ (given more : List Given) where
  find-by : (it : Given) (others : List Given) (question : Question) (answer : AnswerValue) (test : Bool)
      → same_question it.question question ≡ test → find_answer (it ∷ others) question ≡ Some answer
      → (find_answer others question ≡ Some answer → find_answer (others ++ more) question ≡ Some answer)
      → find_answer (it ∷ (others ++ more)) question ≡ Some answer
  find-by it others question answer true e is rest =
      let here : Some it.answer ≡ Some answer = rw e at is in
      rw e here
  find-by it others question answer false e is rest =
      let there : find_answer others question ≡ Some answer = rw e at is in
      rw e (rest there)

  find-grows : (given : List Given) (question : Question) (answer : AnswerValue) → find_answer given question ≡ Some answer
      → find_answer (given ++ more) question ≡ Some answer
  find-grows [] question answer is = absurd cc
  find-grows (it ∷ others) question answer is =
      find-by it others question answer (same_question it.question question) refl is (find-grows others question answer)

  answer-by : (question : Question) (found : Option AnswerValue) → find_answer given question ≡ found
      → Grows (answer_to given question) (answer_to (given ++ more) question)
  answer-by question (Some answer) e = λ x is.
      let here : Ok answer ≡ Ok x = rw e at is in
      rw (find-grows given question answer e) here
  answer-by question None e = λ x is.
      let none : Err question ≡ Ok x = rw e at is in
      absurd cc

  pub answer-grows : (question : Question) → Grows (answer_to given question) (answer_to (given ++ more) question)
  answer-grows question = answer-by question (find_answer given question) refl

  module _ (kinds : List Kind) (fixed : Bool) where
    pub targets-grow : (transport : Transport) (port : ℕ) (name : List (List ℕ))
        → Grows (targets_of given kinds fixed transport port name) (targets_of (given ++ more) kinds fixed transport port name)
    targets-grow transport port name =
        joined-grows _ _
        (λ kind. made-grows
        (λ (answer : AnswerValue). map (target_at transport port) (addresses_by fixed answer.records)) _ _
        (answer-grows (record { name = name; kind = kind }))) kinds

    server-by : (transport : Transport) (server : SrvRecord) (root : Bool) → is_root server.target ≡ root
        → Grows (server_targets given kinds fixed transport server) (server_targets (given ++ more) kinds fixed transport server)
    server-by transport server true e = rw e (λ x is. is)
    server-by transport server false e = rw e (targets-grow transport server.port server.target)

    index-by : (transport : Transport) (server : Option SrvRecord)
        → Grows (option_map_or (server_targets given kinds fixed transport) server (Ok []))
        (option_map_or (server_targets (given ++ more) kinds fixed transport) server (Ok []))
    index-by transport None = λ x is. is
    index-by transport (Some server) = server-by transport server (is_root server.target) refl

    offer-grows : (transport : Transport) (servers : List SrvRecord) (outcome : SrvOutcome)
        → Grows (offer_of given kinds fixed transport servers outcome) (offer_of (given ++ more) kinds fixed transport servers outcome)
    offer-grows transport servers Absent = λ x is. is
    offer-grows transport servers Denied = λ x is. is
    offer-grows transport servers (Listed indexes next) =
        made-grows (λ targets. listed targets next) _ _ (joined-grows _ _ (λ index. index-by transport (slice_get servers index)) indexes)

    named-grows : (words : List ℕ) (transport : Transport) (word : ℕ) (name : Option (List (List ℕ)))
        → Grows (offer_named given kinds fixed words transport word name)
        (offer_named (given ++ more) kinds fixed words transport word name)
    named-grows words transport word None = λ x is. is
    named-grows words transport word (Some name) =
        after-grows _ _ _ _ (answer-grows (record { name = name; kind = kind.Srv }))
        (λ answer. offer-grows transport (servers_in answer.records) (order_by fixed (servers_in answer.records) words word))

    pub offers-grow : (words : List ℕ) (services : List Service) (word : ℕ)
        → Grows (offers_along given kinds fixed words services word) (offers_along (given ++ more) kinds fixed words services word)
    offers-grow words [] word = λ x is. is
    offers-grow words (service ∷ services) word =
        after-grows _ _ _ _ (named-grows words service.transport word service.name)
        (λ offer. made-grows (λ (others : List Offer). offer ∷ others) _ _ (offers-grow words services (next_word word offer)))
