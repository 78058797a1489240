-- Where the targets of services come from, and which questions they need.
use Rattle.std.proofs.Common.{◌≡◌, ℕ, Bool, true, false, List, [], ◌∷◌, map, Option, Some, None, Ok, All, Contains, flat_map, slice_get, refl, arith}
use Rattle.std.specs.Option.{option_map_or}
use Rattle.std.proofs.lemmas.List.Elements.{All-append, All-contains_itself, All-head, All-map, All-nil, All-tail, All-weaker, Contains-append_right}
use Rattle.dns_answers.specs.Values.{AnswerValue}
use Rattle.dns_message.specs.declared.kind.Kind.{Kind}
use Rattle.dns_message.specs.declared.kind.Kind.TheVariants as kind
use Rattle.dns_message.specs.declared.question.Question.{Question}
use Rattle.dns_message.specs.declared.srv.SrvRecord.{SrvRecord}
use Rattle.ip_text.specs.declared.address.Address.{Address}
use Rattle.sip_uri.specs.declared.transport.Transport.{Transport}
use Rattle.srv_choice.specs.Outcomes.{is_root}
use Rattle.srv_choice.specs.declared.outcome.SrvOutcome.{SrvOutcome}
use Rattle.srv_choice.specs.declared.outcome.SrvOutcome.TheVariants.{Absent, Denied, Listed}
use Rattle.sip_selection.specs.Known.{Given, made, joined, find_answer, answer_to, addresses_in, servers_in}
use Rattle.sip_selection.specs.FixedOrders.{addresses_by, order_by}
use Rattle.sip_selection.specs.Services.{kind_targets, targets_of, server_targets, index_targets, Offer, listed, offered_targets, offer_of, offer_by, offer_named, offer_along, offers_along, next_word, target_at}
use Rattle.sip_selection.specs.declared.target.Target.{Target}
use Rattle.sip_selection.specs.declared.service.Service.{Service}
use Rattle.sip_selection.proofs.FixedOrders.{addresses-there}
use Rattle.sip_selection.proofs.Meeting.{Meets, meets-more, made-meets, after-meets, found-meets, joined-meets}

module _ (given : List Given) (kinds : List Kind) where
  -- the answer to a question for addresses has it
  abbrev pub IsAnswered : Address → Type 0
  IsAnswered address =
      (question : Question) × (answer : AnswerValue)
      × Contains kinds question.kind × (find_answer given question ≡ Some answer) × Contains (addresses_in answer.records) address

  abbrev pub IsMissing : Question → Type 0
  IsMissing question = (find_answer given question ≡ None) × Contains (kind.Naptr ∷ kind.Srv ∷ kinds) question.kind

  pub answer-meets : (question : Question) → Contains (kind.Naptr ∷ kind.Srv ∷ kinds) question.kind
      → Meets (λ answer. find_answer given question ≡ Some answer) IsMissing (answer_to given question)
  answer-meets question among = found-meets IsMissing (find_answer given question) question (λ none. (none, among))

  module _ (fixed : Bool) (T : Transport → Type 0) where
    abbrev pub IsSound : Target → Type 0
    IsSound target = T target.transport × IsAnswered target.address

    module _ (transport : Transport) (is : T transport) where
      kind-meets : (port : ℕ) (name : List (List ℕ)) (asked : Kind) → Contains kinds asked
          → Meets (All IsSound) IsMissing (kind_targets given kinds fixed transport port name asked)
      kind-meets port name asked among =
          let question : Question = record { name = name; kind = asked } in
          made-meets IsMissing (All IsSound) (λ (answer : AnswerValue). map (target_at transport port) (addresses_by fixed answer.records))
          (answer_to given question)
          (meets-more IsMissing (λ answer. find_answer given question ≡ Some answer)
          (λ answer. All IsSound (map (target_at transport port) (addresses_by fixed answer.records))) (answer_to given question)
          (λ answer found. All-map IsSound (target_at transport port) (addresses_by fixed answer.records)
          (λ i d lt. (is, (question, answer, among, found, addresses-there fixed answer.records i d lt))))
          (answer-meets question (Contains-append_right (kind.Naptr ∷ kind.Srv ∷ []) kinds asked among)))

      pub targets-meet : (port : ℕ) (name : List (List ℕ))
          → Meets (All IsSound) IsMissing (targets_of given kinds fixed transport port name)
      targets-meet port name =
          joined-meets IsMissing IsSound (kind_targets given kinds fixed transport port name) kinds
          (All-weaker (Contains kinds) (λ asked. Meets (All IsSound) IsMissing (kind_targets given kinds fixed transport port name asked))
          (λ asked among. kind-meets port name asked among) kinds (All-contains_itself kinds))

      server-by : (server : SrvRecord) (root : Bool) → is_root server.target ≡ root
          → Meets (All IsSound) IsMissing (server_targets given kinds fixed transport server)
      server-by server true e = rw e (All-nil IsSound)
      server-by server false e = rw e (targets-meet server.port server.target)

      index-by : (server : Option SrvRecord)
          → Meets (All IsSound) IsMissing (option_map_or (server_targets given kinds fixed transport) server (Ok []))
      index-by None = All-nil IsSound
      index-by (Some server) = server-by server (is_root server.target) refl

      offer-meets : (servers : List SrvRecord) (outcome : SrvOutcome)
          → Meets (λ offer. All IsSound (offered_targets offer)) IsMissing (offer_of given kinds fixed transport servers outcome)
      offer-meets servers Absent = All-nil IsSound
      offer-meets servers Denied = All-nil IsSound
      offer-meets servers (Listed indexes next) =
          made-meets IsMissing (λ offer. All IsSound (offered_targets offer)) (λ targets. listed targets next)
          (joined (index_targets given kinds fixed transport servers) indexes)
          (joined-meets IsMissing IsSound (index_targets given kinds fixed transport servers) indexes
          (λ i d lt. index-by (slice_get servers _)))

      named-meets : (words : List ℕ) (word : ℕ) (name : Option (List (List ℕ)))
          → Meets (λ offer. All IsSound (offered_targets offer)) IsMissing (offer_named given kinds fixed words transport word name)
      named-meets words word None = All-nil IsSound
      named-meets words word (Some name) =
          let question : Question = record { name = name; kind = kind.Srv } in
          after-meets IsMissing (λ offer. All IsSound (offered_targets offer)) (offer_by given kinds fixed words transport word)
          (answer_to given question)
          (meets-more IsMissing (λ answer. find_answer given question ≡ Some answer)
          (λ answer. Meets (λ offer. All IsSound (offered_targets offer)) IsMissing
          (offer_by given kinds fixed words transport word answer)) (answer_to given question)
          (λ answer found. offer-meets (servers_in answer.records) (order_by fixed (servers_in answer.records) words word))
          (answer-meets question (1, omega arith, refl)))

    pub offers-meet : (words : List ℕ) (services : List Service) (word : ℕ) → All (λ service. T service.transport) services
        → Meets (λ offers. All IsSound (flat_map offered_targets offers)) IsMissing (offers_along given kinds fixed words services word)
    offers-meet words [] word each = All-nil IsSound
    offers-meet words (service ∷ services) word each =
        let Q : List Offer → Type 0 = (λ offers. All IsSound (flat_map offered_targets offers)) in
        after-meets IsMissing Q
        (λ offer. made (λ others. offer ∷ others) (offers_along given kinds fixed words services (next_word word offer)))
        (offer_along given kinds fixed words service word)
        (meets-more IsMissing (λ offer. All IsSound (offered_targets offer))
        (λ offer. Meets Q IsMissing (made (λ others. offer ∷ others)
        (offers_along given kinds fixed words services (next_word word offer))))
        (offer_along given kinds fixed words service word)
        (λ offer is. made-meets IsMissing Q (λ others. offer ∷ others)
        (offers_along given kinds fixed words services (next_word word offer))
        (meets-more IsMissing Q (λ others. Q (offer ∷ others)) (offers_along given kinds fixed words services (next_word word offer))
        (λ others is'. All-append IsSound (offered_targets offer) (flat_map offered_targets others) is is')
        (offers-meet words services (next_word word offer) (All-tail (λ service. T service.transport) service services each))))
        (named-meets service.transport (All-head (λ service. T service.transport) service services each) words word service.name))
