-- How many targets there are at most.
use Rattle.std.proofs.Common.{◌≡◌, ℕ, ◌*◌, ◌≤◌, Bool, true, false, if◌then◌else◌, List, [], ◌∷◌, ◌++◌, length, map, take, filter, Option, Some, None, Result, Ok, Err, All, flat_map, filter_map, find, option_map, slice_get, refl, subst, length-append, arith}
use Rattle.std.specs.Bool.{⊤}
use Rattle.std.specs.List.{list_any}
use Rattle.std.specs.Option.{option_map_or}
use Rattle.std.proofs.lemmas.List.{length-map, length-take}
use Rattle.std.proofs.lemmas.List.Elements.{All-head, All-tail}
use Rattle.dns_answers.specs.Records.{count_of}
use Rattle.dns_answers.specs.Values.{AnswerValue}
use Rattle.dns_answers.specs.declared.records.Records.{Records}
use Rattle.dns_answers.specs.declared.records.Records.TheVariants as records
use Rattle.dns_message.specs.Questions.{same_question}
use Rattle.dns_message.specs.declared.kind.Kind.{Kind}
use Rattle.dns_message.specs.declared.kind.Kind.TheVariants as kind
use Rattle.dns_message.specs.declared.naptr.NaptrRecord.{NaptrRecord}
use Rattle.dns_message.specs.declared.question.Question.{Question}
use Rattle.dns_message.specs.declared.srv.SrvRecord.{SrvRecord}
use Rattle.sip_uri.specs.declared.host.Host.{Host}
use Rattle.sip_uri.specs.declared.host.Host.TheVariants as host
use Rattle.ip_text.specs.declared.address.Address.{Address}
use Rattle.ip_text.specs.declared.address.Address.TheVariants as address
use Rattle.sip_uri.specs.declared.transport.Spoken.{Spoken}
use Rattle.sip_uri.specs.declared.transport.Transport.{Transport}
use Rattle.srv_choice.specs.Outcomes.{is_root}
use Rattle.srv_choice.specs.declared.outcome.SrvOutcome.{SrvOutcome}
use Rattle.srv_choice.specs.declared.outcome.SrvOutcome.TheVariants.{Absent, Denied, Listed}
use Rattle.sip_selection.specs.Callers.{kinds_of}
use Rattle.sip_selection.specs.Choice.{targets, Settled, offered, offered_default, own_services, is_tried, to_name, to_domain, by_offers, along, by_services, by_rules, by_naptr, to_address, to_port, to_service, discovered, to_host, locate}
use Rattle.sip_selection.specs.Known.{Given, Needing, made, joined, find_answer, answer_to, servers_in, rules_in}
use Rattle.sip_selection.specs.Requests.{target_of, port_of, spoken_of, is_secure, transport_of, default_port}
use Rattle.sip_selection.specs.Rules.{ServiceRule, service_rule_of, first_in_order, by_preference, service_of, usable_services}
use Rattle.record_order.specs.RecordOrder.{rule_order}
use Rattle.sip_selection.specs.FixedOrders.{addresses_by, order_by, ordered}
use Rattle.sip_selection.specs.Services.{service_at, kind_targets, targets_of, server_targets, index_targets, Offer, listed, offered_targets, is_listed, is_denied, offer_of, offer_by, offer_named, offer_along, offers_along, next_word, target_at}
use Rattle.sip_selection.specs.declared.caps.Caps.{Caps}
use Rattle.sip_selection.specs.declared.caps.Families.{Families}
use Rattle.sip_selection.specs.declared.caps.Families.TheVariants as families
use Rattle.sip_selection.specs.declared.reason.Reason.{Reason}
use Rattle.sip_selection.specs.declared.request.Request.{Request}
use Rattle.sip_selection.specs.declared.target.Target.{Target}
use Rattle.sip_selection.specs.declared.service.Service.{Service}
use Rattle.sip_selection.proofs.FixedOrders.{Counts, addresses-few, all-count}
use Rattle.sip_selection.proofs.Meeting.{Meets, meets-more, made-meets, after-meets, found-meets}
use Rattle.sip_selection.proofs.Outcomes.{Settles, Resolves, meets-resolves}

-- ---- lists

abbrev AtMost : {X : Type 0} → ℕ → List X → Type 0
AtMost count xs = length xs ≤ count

abbrev pub Any-question : Question → Type 0
Any-question question = ⊤

joined-few : {X Y : Type 0} (count : ℕ) (f : X → Needing (List Y)) → ((x : X) → Meets (AtMost count) Any-question (f x)) → (xs : List X)
    → Meets (AtMost (length xs * count)) Any-question (joined f xs)
joined-few count f each [] = omega arith
joined-few count f each (x ∷ xs) =
    after-meets Any-question (AtMost (length (x ∷ xs) * count)) (λ first. made (λ others. first ++ others) (joined f xs)) (f x)
    (meets-more Any-question (AtMost count) (λ first. Meets (AtMost (length (x ∷ xs) * count)) Any-question
    (made (λ others. first ++ others) (joined f xs))) (f x)
    (λ first is. made-meets Any-question (AtMost (length (x ∷ xs) * count)) (λ others. first ++ others) (joined f xs)
    (meets-more Any-question (AtMost (length xs * count)) (λ others. AtMost (length (x ∷ xs) * count) (first ++ others)) (joined f xs)
    (λ others is'. grind (arith, is, is', length-append first others)) (joined-few count f each xs)))
    (each x))

pub filter-few : {X : Type 0} (test : X → Bool) (xs : List X) → length (filter test xs) ≤ length xs
filter-few test [] = omega arith
filter-few test (x ∷ xs) = by (test x) (filter-few test xs)
  where
    by : (b : Bool) → length (filter test xs) ≤ length xs → length (if b then x ∷ filter test xs else filter test xs) ≤ length (x ∷ xs)
    by true le = omega (arith, le)
    by false le = omega (arith, le)

-- ---- answers

pub servers-few : (records : Records) → length (servers_in records) ≤ count_of records
servers-few (records.V4 octets) = omega arith
servers-few (records.V6 octets) = omega arith
servers-few (records.Srv servers) = omega arith
servers-few (records.Naptr rules) = omega arith

abbrev pub IsSmall : Given → Type 0
IsSmall it = count_of it.answer.records ≤ 32

found-small : (given : List Given) → All IsSmall given → (question : Question) (answer : AnswerValue)
    → find_answer given question ≡ Some answer → count_of answer.records ≤ 32
found-small [] small question answer = λ is. absurd cc
found-small (it ∷ others) small question answer = by (same_question it.question question) (All-head IsSmall it others small)
    (found-small others (All-tail IsSmall it others small) question answer)
  where
    by : (b : Bool) → IsSmall it → (find_answer others question ≡ Some answer → count_of answer.records ≤ 32)
        → option_map (λ (it : Given). it.answer)
        (if b then Some it else find (λ it. same_question it.question question) others) ≡ Some answer → count_of answer.records ≤ 32
    by true le rest is = let same : it.answer ≡ answer = cc in subst (λ (answer : AnswerValue). count_of answer.records ≤ 32) same le
    by false le rest is = rest is

module _ (given : List Given) (small : All IsSmall given) where
  pub answer-small : (question : Question) → Meets (λ answer. count_of answer.records ≤ 32) Any-question (answer_to given question)
  answer-small question =
      meets-more Any-question (λ answer. find_answer given question ≡ Some answer) (λ answer. count_of answer.records ≤ 32)
      (answer_to given question)
      (found-small given small question) (found-meets Any-question (find_answer given question) question (λ none. tt))

  module _ (kinds : List Kind) (fixed : Bool) (two : length kinds ≤ 2) where
    kind-few : (transport : Transport) (port : ℕ) (name : List (List ℕ)) (asked : Kind)
        → Meets (AtMost 32) Any-question (kind_targets given kinds fixed transport port name asked)
    kind-few transport port name asked =
        let question : Question = record { name = name; kind = asked } in
        made-meets Any-question (AtMost 32) (λ (answer : AnswerValue). map (target_at transport port) (addresses_by fixed answer.records))
        (answer_to given question)
        (meets-more Any-question (λ answer. count_of answer.records ≤ 32)
        (λ answer. AtMost 32 (map (target_at transport port) (addresses_by fixed answer.records))) (answer_to given question)
        (λ answer le. omega (
          arith,
          le,
          addresses-few fixed answer.records,
          length-map (addresses_by fixed answer.records)
              (target_at transport port),
        )) (answer-small question))

    targets-few : (transport : Transport) (port : ℕ) (name : List (List ℕ))
        → Meets (AtMost 64) Any-question (targets_of given kinds fixed transport port name)
    targets-few transport port name =
        meets-more Any-question (AtMost (length kinds * 32)) (AtMost 64) (targets_of given kinds fixed transport port name)
        (λ found le. omega (arith, le, two))
        (joined-few 32 (kind_targets given kinds fixed transport port name) (kind-few transport port name) kinds)

    server-by : (transport : Transport) (server : SrvRecord) (root : Bool) → is_root server.target ≡ root
        → Meets (AtMost 64) Any-question (server_targets given kinds fixed transport server)
    server-by transport server true e = rw e (omega arith)
    server-by transport server false e = rw e (targets-few transport server.port server.target)

    index-by : (transport : Transport) (server : Option SrvRecord)
        → Meets (AtMost 64) Any-question (option_map_or (server_targets given kinds fixed transport) server (Ok []))
    index-by transport None = omega arith
    index-by transport (Some server) = server-by transport server (is_root server.target) refl

    abbrev OfFew : Offer → Type 0
    OfFew offer = length (offered_targets offer) ≤ 2048

    module _ (count : Counts) (words : List ℕ) where
      outcome-few : (transport : Transport) (servers : List SrvRecord) (word : ℕ) (outcome : SrvOutcome)
          → order_by fixed servers words word ≡ outcome → length servers ≤ 32
          → Meets OfFew Any-question (offer_of given kinds fixed transport servers outcome)
      outcome-few transport servers word Absent e le = omega arith
      outcome-few transport servers word Denied e le = omega arith
      outcome-few transport servers word (Listed indexes next) e le =
          made-meets Any-question OfFew (λ targets. listed targets next)
          (joined (index_targets given kinds fixed transport servers) indexes)
          (meets-more Any-question (AtMost (length indexes * 64)) (AtMost 2048)
          (joined (index_targets given kinds fixed transport servers) indexes)
          (λ found le'. omega (arith, le, le', all-count count fixed servers words word indexes next e))
          (joined-few 64 (index_targets given kinds fixed transport servers)
          (λ index. index-by transport (slice_get servers index)) indexes))

      named-few : (transport : Transport) (word : ℕ) (name : Option (List (List ℕ)))
          → Meets OfFew Any-question (offer_named given kinds fixed words transport word name)
      named-few transport word None = omega arith
      named-few transport word (Some name) =
          let question : Question = record { name = name; kind = kind.Srv } in
          after-meets Any-question OfFew (offer_by given kinds fixed words transport word) (answer_to given question)
          (meets-more Any-question (λ answer. count_of answer.records ≤ 32)
          (λ answer. Meets OfFew Any-question (offer_by given kinds fixed words transport word answer)) (answer_to given question)
          (λ answer le. outcome-few transport (servers_in answer.records) word (order_by fixed (servers_in answer.records) words word) refl
          (omega (arith, le, servers-few answer.records)))
          (answer-small question))

      abbrev OfMany : ℕ → List Offer → Type 0
      OfMany count offers = length (flat_map offered_targets offers) ≤ count * 2048

      offers-few : (services : List Service) (word : ℕ) → Meets (OfMany (length services)) Any-question
          (offers_along given kinds fixed words services word)
      offers-few [] word = omega arith
      offers-few (service ∷ services) word =
          after-meets Any-question (OfMany (length (service ∷ services)))
          (λ offer. made (λ others. offer ∷ others) (offers_along given kinds fixed words services (next_word word offer)))
          (offer_along given kinds fixed words service word)
          (meets-more Any-question OfFew (λ offer. Meets (OfMany (length (service ∷ services))) Any-question
          (made (λ others. offer ∷ others) (offers_along given kinds fixed words services (next_word word offer))))
          (offer_along given kinds fixed words service word)
          (λ offer is. made-meets Any-question (OfMany (length (service ∷ services))) (λ others. offer ∷ others)
          (offers_along given kinds fixed words services (next_word word offer))
          (meets-more Any-question (OfMany (length services)) (λ others. OfMany (length (service ∷ services)) (offer ∷ others))
          (offers_along given kinds fixed words services (next_word word offer))
          (λ others is'. grind (arith, is, is', length-append (offered_targets offer) (flat_map offered_targets others)))
          (offers-few services (next_word word offer))))
          (named-few service.transport word service.name))

-- ---- services

pub usable_services-few : (secure : Bool) (caps : Caps) (rules : List NaptrRecord) → length (usable_services secure caps rules) ≤ 8
usable_services-few secure caps rules =
    let used : List NaptrRecord = ordered caps.is_fixed rule_order rules in
    let service_rule : List ServiceRule = by_preference (first_in_order (filter_map (service_rule_of secure caps) used)) in
    omega (arith, length-map (take 8 service_rule) service_of, length-take 8 service_rule)

pub kinds-few : (families : Families) → length (kinds_of families) ≤ 2
kinds-few families.V4 = omega arith
kinds-few families.V6 = omega arith
kinds-few families.V4ThenV6 = omega arith
kinds-few families.V6ThenV4 = omega arith

-- ---- the choice

module _ (request : Request) (caps : Caps) (words : List ℕ) (given : List Given) (small : All IsSmall given)
    (four : length caps.transports ≤ 4) (count : Counts) where
  abbrev Few : Needing Settled → Type 0
  Few = Meets (Settles (AtMost 16384)) Any-question

  name-few : (name : List (List ℕ)) (port : ℕ) (transport : Transport) → Few (to_name caps given name port transport)
  name-few name port transport =
      let kinds : List Kind = kinds_of caps.families in
      let fixed : Bool = caps.is_fixed in
      made-meets Any-question (Settles (AtMost 16384)) Ok (targets_of given kinds fixed transport port name)
      (meets-more Any-question (AtMost 64) (AtMost 16384) (targets_of given kinds fixed transport port name) (λ found le. omega (arith, le))
      (targets-few given small kinds fixed (kinds-few caps.families) transport port name))

  domain-few : (name : List (List ℕ)) (fallback : Result Transport Reason) → Few (to_domain caps given name fallback)
  domain-few name (Ok transport) = name-few name (default_port transport) transport
  domain-few name (Err reason) = tt

  offers-by : (name : List (List ℕ)) (fallback : Result Transport Reason) (offers : List Offer) (any denied : Bool)
      → list_any is_listed offers ≡ any → list_any is_denied offers ≡ denied
      → length (flat_map offered_targets offers) ≤ 16384 → Few (by_offers caps given name fallback offers)
  offers-by name fallback offers true denied e e' le = rw e le
  offers-by name fallback offers false true e e' le = rw (e, e') tt
  offers-by name fallback offers false false e e' le = rw (e, e') (domain-few name fallback)

  along-few : (name : List (List ℕ)) (fallback : Result Transport Reason) (services : List Service) → length services ≤ 8
      → Few (along caps words given name fallback services)
  along-few name fallback services eight =
      let kinds : List Kind = kinds_of caps.families in
      let fixed : Bool = caps.is_fixed in
      after-meets Any-question (Settles (AtMost 16384)) (by_offers caps given name fallback)
      (offers_along given kinds fixed words services 0)
      (meets-more Any-question (λ offers. length (flat_map offered_targets offers) ≤ length services * 2048)
      (λ offers. Few (by_offers caps given name fallback offers)) (offers_along given kinds fixed words services 0)
      (λ offers le. offers-by name fallback offers (list_any is_listed offers) (list_any is_denied offers) refl refl
      (omega (arith, le, eight)))
      (offers-few given small kinds fixed (kinds-few caps.families) count words services 0))

  by_services-few : (name : List (List ℕ)) (services : List Service) → length services ≤ 8
      → Few (by_services (is_secure request) caps words given name services)
  by_services-few name [] eight =
      let tried : List Transport = filter (is_tried (is_secure request)) caps.transports in
      along-few name (offered_default (is_secure request) caps) (own_services (is_secure request) caps name)
      (omega (arith, four, filter-few (is_tried (is_secure request)) caps.transports, length-map tried (service_at name)))
  by_services-few name (first ∷ others) eight = along-few name (Ok first.transport) (first ∷ others) eight

  naptr-few : (name : List (List ℕ)) → Few (by_naptr (is_secure request) caps words given name)
  naptr-few name =
      let question : Question = record { name = name; kind = kind.Naptr } in
      after-meets Any-question (Settles (AtMost 16384))
      (λ answer. by_rules (is_secure request) caps words given name (rules_in answer.records))
      (answer_to given question)
      (meets-more Any-question (λ answer. count_of answer.records ≤ 32)
      (λ answer. Few (by_rules (is_secure request) caps words given name (rules_in answer.records))) (answer_to given question)
      (λ answer le. by_services-few name (usable_services (is_secure request) caps (rules_in answer.records))
      (usable_services-few (is_secure request) caps (rules_in answer.records)))
      (answer-small given small question))

  address-few : (address : Address) (port : Option ℕ) (transport : Result Transport Reason)
      → Few (to_address address port transport)
  address-few address port (Ok transport) = omega arith
  address-few address port (Err reason) = tt

  port-few : (name : List (List ℕ)) (port : ℕ) (transport : Result Transport Reason)
      → Few (to_port caps given name port transport)
  port-few name port (Ok transport) = name-few name port transport
  port-few name port (Err reason) = tt

  named_service-few : (name : List (List ℕ)) (transport : Result Transport Reason) → Few (to_service caps words given name transport)
  named_service-few name (Ok transport) = along-few name (Ok transport) (service_at name transport ∷ []) (omega arith)
  named_service-few name (Err reason) = tt

  discovered-or : (name : List (List ℕ)) (reason : Reason) (secure : Bool)
      → Few (if secure then Ok (Err reason) else by_naptr (is_secure request) caps words given name)
  discovered-or name reason true = tt
  discovered-or name reason false = naptr-few name

  discovered-few : (name : List (List ℕ)) (transport : Result Transport Reason)
      → Few (discovered (is_secure request) caps words given name transport)
  discovered-few name (Err reason) = discovered-or name reason (is_secure request)
  discovered-few name (Ok transport) = naptr-few name

  host-few : (target : Host) (port : Option ℕ) (named : Option Spoken) → Few (to_host request caps words given target port named)
  host-few (host.V4 octets) port named = address-few (address.V4 octets) port (offered caps (transport_of request))
  host-few (host.V6 octets) port named = address-few (address.V6 octets) port (offered caps (transport_of request))
  host-few (host.Domain name) (Some port) named = port-few name port (offered caps (transport_of request))
  host-few (host.Domain name) None (Some named) = named_service-few name (offered caps (transport_of request))
  host-few (host.Domain name) None None = discovered-few name (offered_default (is_secure request) caps)

  pub few_found : (found : List Target) → locate request caps words given ≡ targets found → length found ≤ 16384
  few_found found is =
      let target : Host = target_of request in
      let few : Resolves (AtMost 16384) Any-question (locate request caps words given) =
      meets-resolves (AtMost 16384) Any-question (to_host request caps words given target (port_of request) (spoken_of request))
      (host-few target (port_of request) (spoken_of request)) in
      subst (Resolves (AtMost 16384) Any-question) is few
