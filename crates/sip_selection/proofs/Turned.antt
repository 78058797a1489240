-- In the fixed order a request goes the same way, however servers turn the records of their replies round.
use Rattle.std.proofs.Common.{◌≡◌, ℕ, ◌+◌, Bool, true, false, if◌then◌else◌, List, [], ◌∷◌, ◌++◌, length, map, slice_get, Option, Some, None, Ordering, Result, Ok, Err, IsPermutation, flat_map, refl, sym, ap, ap₂, ◌∙◌, arith}
use Rattle.std.specs.List.{list_any}
use Rattle.std.specs.Option.{option_map_or}
use Rattle.std.proofs.lemmas.List.Elements.{All-cons, All-head, All-nil}
use Rattle.std.proofs.lemmas.List.Sorted.{All-permutation, IsPermutation-refl, length_permutation}
use Rattle.dns_answers.specs.Values.{AnswerValue}
use Rattle.dns_answers.specs.declared.records.Records.{Records}
use Rattle.dns_answers.specs.declared.records.Records.TheVariants as records
use Rattle.dns_message.specs.Questions.{same_question}
use Rattle.dns_message.specs.declared.kind.Kind.{Kind}
use Rattle.dns_message.specs.declared.kind.Kind.TheVariants as kind
use Rattle.dns_message.specs.declared.naptr.NaptrRecord.{NaptrRecord}
use Rattle.dns_message.specs.declared.question.Question.{Question}
use Rattle.dns_message.specs.declared.srv.SrvRecord.{SrvRecord}
use Rattle.ip_text.specs.declared.address.Address.TheVariants as address
use Rattle.record_order.specs.RecordOrder.{in_order, indexes_in_order, octets_order, rule_order, server_order}
use Rattle.sip_uri.specs.declared.host.Host.{Host}
use Rattle.sip_uri.specs.declared.host.Host.TheVariants as host
use Rattle.sip_uri.specs.declared.transport.Spoken.{Spoken}
use Rattle.sip_uri.specs.declared.transport.Transport.{Transport}
use Rattle.srv_choice.specs.Outcomes.{denies, fixed_order_from, is_root}
use Rattle.sip_selection.specs.Callers.{kinds_of}
use Rattle.sip_selection.specs.Choice.{Settled, along, by_naptr, by_offers, by_rules, by_services, discovered, locate, offered, offered_default, own_services, resolved, to_domain, to_host, to_name, to_port, to_service}
use Rattle.sip_selection.specs.FixedOrders.{AnswersAreTurned, AreTurned, addresses_by, order_by}
use Rattle.sip_selection.specs.Known.{Given, Needing, after, answer_to, joined, made, rules_in, servers_in}
use Rattle.sip_selection.specs.Requests.{default_port, is_secure, port_of, spoken_of, target_of, transport_of}
use Rattle.sip_selection.specs.Rules.{services_of, usable_services}
use Rattle.sip_selection.specs.Services.{Offer, is_denied, is_listed, kind_targets, index_targets, listed, next_word, offer_along, offer_by, offer_named, offer_of, offered_targets, offers_along, server_targets, service_at, target_at, targets_of}
use Rattle.sip_selection.specs.declared.caps.Caps.{Caps}
use Rattle.sip_selection.specs.declared.reason.Reason.{Reason}
use Rattle.sip_selection.specs.declared.reason.Reason.TheVariants.{NotOffered}
use Rattle.sip_selection.specs.declared.request.Request.{Request}
use Rattle.sip_selection.specs.declared.service.Service.{Service}
use Rattle.sip_selection.specs.declared.target.Target.{Target}

-- ---- values that need answers

module _ {X Y : Type 0} where
  joined-same : (f g : X → Needing (List Y)) → ((x : X) → f x ≡ g x) → (l : List X) → joined f l ≡ joined g l
  joined-same f g each [] = refl
  joined-same f g each (x ∷ l) =
      ap₂ (λ (first others : Needing (List Y)). after (λ a. made (λ b. a ++ b) others) first) (each x) (joined-same f g each l)

  joined-map : {Z : Type 0} (f : Y → Needing (List Z)) (h : X → Y) (l : List X) → joined (λ x. f (h x)) l ≡ joined f (map h l)
  joined-map f h [] = refl
  joined-map f h (x ∷ l) = ap (λ others. after (λ a. made (λ b. a ++ b) others) (f (h x))) (joined-map f h l)

  after-same : (f g : X → Needing Y) (n m : Needing X) → ((x : X) → f x ≡ g x) → n ≡ m → after f n ≡ after g m
  after-same f g (Ok x) m each e = each x ∙ ap (after g) e
  after-same f g (Err question) m each e = ap (after g) e

-- ---- lists of one element

sole : {X : Type 0} (a b : X) → IsPermutation (a ∷ []) (b ∷ []) → b ≡ a
sole a b moved =
    All-head (λ it. it ≡ a) b [] (All-permutation (λ it. it ≡ a) (a ∷ []) (b ∷ []) moved
    (All-cons (λ it. it ≡ a) a [] refl (All-nil (λ it. it ≡ a))))

denies-turned : (l m : List SrvRecord) → IsPermutation l m → denies m ≡ denies l
denies-turned [] [] moved = refl
denies-turned [] (b ∷ m) moved = absurd (omega (arith, length_permutation [] (b ∷ m) moved))
denies-turned (a ∷ l) [] moved = absurd (omega (arith, length_permutation (a ∷ l) [] moved))
denies-turned (a ∷ []) (b ∷ []) moved = ap (λ (it : SrvRecord). is_root it.target) (sole a b moved)
denies-turned (a ∷ []) (b ∷ c ∷ m) moved = absurd (omega (arith, length_permutation (a ∷ []) (b ∷ c ∷ m) moved))
denies-turned (a ∷ d ∷ l) (b ∷ []) moved = absurd (omega (arith, length_permutation (a ∷ d ∷ l) (b ∷ []) moved))
denies-turned (a ∷ d ∷ l) (b ∷ c ∷ m) moved = refl

-- ---- the answers

-- an answer with the same records, or the same question
abbrev IsLike : Needing AnswerValue → Needing AnswerValue → Type 0
IsLike (Ok answer) (Ok turned) = AreTurned answer.records turned.records
IsLike (Err question) (Err other) = other ≡ question
IsLike _ _ = ⊥

module _ {X : Type 0} where
  made-like : (f : AnswerValue → X) → ((answer turned : AnswerValue) → AreTurned answer.records turned.records → f turned ≡ f answer)
      → (n m : Needing AnswerValue) → IsLike n m → made f m ≡ made f n
  made-like f each (Ok answer) (Ok turned) like = ap Ok (each answer turned like)
  made-like f each (Err question) (Err other) like = ap Err like
  made-like f each (Ok answer) (Err question) like = absurd like
  made-like f each (Err question) (Ok answer) like = absurd like

  after-like : (f g : AnswerValue → Needing X)
      → ((answer turned : AnswerValue) → AreTurned answer.records turned.records → g turned ≡ f answer)
      → (n m : Needing AnswerValue) → IsLike n m → after g m ≡ after f n
  after-like f g each (Ok answer) (Ok turned) like = each answer turned like
  after-like f g each (Err question) (Err other) like = ap Err like
  after-like f g each (Ok answer) (Err question) like = absurd like
  after-like f g each (Err question) (Ok answer) like = absurd like

answers-like : (given turned : List Given) → AnswersAreTurned given turned → (question : Question)
    → IsLike (answer_to given question) (answer_to turned question)
answers-like [] [] are question = refl
answers-like [] (it ∷ turned) are question = absurd are
answers-like (it ∷ given) [] are question = absurd are
answers-like (it ∷ given) (that ∷ turned) are question =
    by (same_question it.question question) refl (answers-like given turned are.2 question)
  where
    by : (b : Bool) → same_question it.question question ≡ b → IsLike (answer_to given question) (answer_to turned question)
        → IsLike (answer_to (it ∷ given) question) (answer_to (that ∷ turned) question)
    by true e rest = rw (← are.0, e) are.1
    by false e rest = rw (← are.0, e) rest

-- by the kind of the records
module _ (P : Records → Records → Type 0)
    (v4 : (l m : List (List ℕ)) → IsPermutation l m → P (records.V4 l) (records.V4 m))
    (v6 : (l m : List (List ℕ)) → IsPermutation l m → P (records.V6 l) (records.V6 m))
    (srv : (l m : List SrvRecord) → IsPermutation l m → P (records.Srv l) (records.Srv m))
    (naptr : (l m : List NaptrRecord) → IsPermutation l m → P (records.Naptr l) (records.Naptr m)) where
  by-kind : (r s : Records) → AreTurned r s → P r s
  by-kind (records.V4 l) (records.V4 m) moved = v4 l m moved
  by-kind (records.V4 l) (records.V6 m) moved = absurd moved
  by-kind (records.V4 l) (records.Srv m) moved = absurd moved
  by-kind (records.V4 l) (records.Naptr m) moved = absurd moved
  by-kind (records.V6 l) (records.V4 m) moved = absurd moved
  by-kind (records.V6 l) (records.V6 m) moved = v6 l m moved
  by-kind (records.V6 l) (records.Srv m) moved = absurd moved
  by-kind (records.V6 l) (records.Naptr m) moved = absurd moved
  by-kind (records.Srv l) (records.V4 m) moved = absurd moved
  by-kind (records.Srv l) (records.V6 m) moved = absurd moved
  by-kind (records.Srv l) (records.Srv m) moved = srv l m moved
  by-kind (records.Srv l) (records.Naptr m) moved = absurd moved
  by-kind (records.Naptr l) (records.V4 m) moved = absurd moved
  by-kind (records.Naptr l) (records.V6 m) moved = absurd moved
  by-kind (records.Naptr l) (records.Srv m) moved = absurd moved
  by-kind (records.Naptr l) (records.Naptr m) moved = naptr l m moved

-- ---- the choice, with what the orders are known to do

abbrev IsFixed : {X : Type 0} → (X → X → Ordering) → Type 0
IsFixed {X} order = (l m : List X) → IsPermutation l m → in_order order m ≡ in_order order l

module _ (octets-fixed : IsFixed octets_order) (servers-fixed : IsFixed server_order) (rules-fixed : IsFixed rule_order)
    (at-indexes : (l : List SrvRecord) → map (slice_get l) (indexes_in_order server_order l) ≡ map Some (in_order server_order l))
    (given turned : List Given) (are : AnswersAreTurned given turned) (words other_words : List ℕ) where
  like : (question : Question) → IsLike (answer_to given question) (answer_to turned question)
  like = answers-like given turned are

  -- ---- records

  addresses-same : (fixed : Bool) → fixed ≡ true → (r s : Records) → AreTurned r s → addresses_by fixed s ≡ addresses_by fixed r
  addresses-same false is = λ r s moved. absurd cc
  addresses-same true is =
      by-kind (λ r s. addresses_by true s ≡ addresses_by true r)
      (λ l m moved. ap (map address.V4) (octets-fixed l m moved)) (λ l m moved. ap (map address.V6) (octets-fixed l m moved))
      (λ l m moved. refl) (λ l m moved. refl)

  servers-turned : (r s : Records) → AreTurned r s → IsPermutation (servers_in r) (servers_in s)
  servers-turned =
      by-kind (λ r s. IsPermutation (servers_in r) (servers_in s)) (λ l m moved. IsPermutation-refl []) (λ l m moved. IsPermutation-refl [])
      (λ l m moved. moved) (λ l m moved. IsPermutation-refl [])

  rules-turned : (r s : Records) → AreTurned r s → IsPermutation (rules_in r) (rules_in s)
  rules-turned =
      by-kind (λ r s. IsPermutation (rules_in r) (rules_in s)) (λ l m moved. IsPermutation-refl []) (λ l m moved. IsPermutation-refl [])
      (λ l m moved. IsPermutation-refl []) (λ l m moved. moved)

  services-same : (secure : Bool) (caps : Caps) → caps.is_fixed ≡ true → (l m : List NaptrRecord) → IsPermutation l m
      → usable_services secure caps m ≡ usable_services secure caps l
  services-same secure caps is l m moved = rw is (ap (services_of secure caps) (rules-fixed l m moved))

  -- ---- targets

  module _ (kinds : List Kind) (fixed : Bool) (is : fixed ≡ true) where
    targets-same : (transport : Transport) (port : ℕ) (name : List (List ℕ))
        → targets_of turned kinds fixed transport port name ≡ targets_of given kinds fixed transport port name
    targets-same transport port name =
        joined-same (kind_targets turned kinds fixed transport port name) (kind_targets given kinds fixed transport port name)
        (λ kind. made-like (λ answer. map (target_at transport port) (addresses_by fixed answer.records))
        (λ answer other moved. ap (map (target_at transport port)) (addresses-same fixed is answer.records other.records moved))
        (answer_to given (record { name = name; kind = kind })) (answer_to turned (record { name = name; kind = kind }))
        (like (record { name = name; kind = kind }))) kinds

    server-same : (transport : Transport) (server : SrvRecord)
        → server_targets turned kinds fixed transport server ≡ server_targets given kinds fixed transport server
    server-same transport server =
        ap (λ (it : Needing (List Target)). if is_root server.target then Ok [] else it) (targets-same transport server.port server.target)

    -- the targets of a server, where there is one
    abbrev of-one : List Given → Transport → Option SrvRecord → Needing (List Target)
    of-one all transport server = option_map_or (server_targets all kinds fixed transport) server (Ok [])

    one-same : (transport : Transport) (server : Option SrvRecord) → of-one turned transport server ≡ of-one given transport server
    one-same transport None = refl
    one-same transport (Some server) = server-same transport server

    listed-same : (transport : Transport) (l m : List SrvRecord) → IsPermutation l m
        → joined (index_targets turned kinds fixed transport m) (indexes_in_order server_order m)
        ≡ joined (index_targets given kinds fixed transport l) (indexes_in_order server_order l)
    listed-same transport l m moved =
        joined-map (of-one turned transport) (slice_get m) (indexes_in_order server_order m)
        ∙ ap (joined (of-one turned transport)) (at-indexes m ∙ ap (map Some) (servers-fixed l m moved) ∙ sym (at-indexes l))
        ∙ joined-same (of-one turned transport) (of-one given transport) (one-same transport) (map (slice_get l)
        (indexes_in_order server_order l))
        ∙ sym (joined-map (of-one given transport) (slice_get l) (indexes_in_order server_order l))

    -- ---- services

    offered-same : (transport : Transport) (word : ℕ) (l m : List SrvRecord) → IsPermutation l m
        → offer_of turned kinds fixed transport m (fixed_order_from m word)
        ≡ offer_of given kinds fixed transport l (fixed_order_from l word)
    offered-same transport word [] [] moved = refl
    offered-same transport word [] (b ∷ m) moved = absurd (omega (arith, length_permutation [] (b ∷ m) moved))
    offered-same transport word (a ∷ l) [] moved = absurd (omega (arith, length_permutation (a ∷ l) [] moved))
    offered-same transport word (a ∷ l) (b ∷ m) moved = by (denies (a ∷ l)) refl
      where
        by : (d : Bool) → denies (a ∷ l) ≡ d
            → offer_of turned kinds fixed transport (b ∷ m) (fixed_order_from (b ∷ m) word)
            ≡ offer_of given kinds fixed transport (a ∷ l) (fixed_order_from (a ∷ l) word)
        by true e = rw (denies-turned (a ∷ l) (b ∷ m) moved ∙ e, e) refl
        by false e =
            let long : word + length (b ∷ m) ≡ word + length (a ∷ l) = ap (λ n. word + n) (length_permutation (a ∷ l) (b ∷ m) moved) in
            rw (denies-turned (a ∷ l) (b ∷ m) moved ∙ e, e)
            (ap₂ (λ (next : ℕ) (it : Needing (List Target)). made (λ targets. listed targets next) it) long
            (listed-same transport (a ∷ l) (b ∷ m) moved))

    fixed-order : (l : List SrvRecord) (drawn : List ℕ) (word : ℕ) → order_by fixed l drawn word ≡ fixed_order_from l word
    fixed-order l drawn word = rw is refl

    answer-same : (transport : Transport) (word : ℕ) (answer other : AnswerValue) → AreTurned answer.records other.records
        → offer_by turned kinds fixed other_words transport word other ≡ offer_by given kinds fixed words transport word answer
    answer-same transport word answer other moved =
        ap (offer_of turned kinds fixed transport (servers_in other.records)) (fixed-order (servers_in other.records) other_words word)
        ∙ offered-same transport word (servers_in answer.records) (servers_in other.records)
        (servers-turned answer.records other.records moved)
        ∙ sym (ap (offer_of given kinds fixed transport (servers_in answer.records)) (fixed-order (servers_in answer.records) words word))

    named-same : (transport : Transport) (word : ℕ) (name : Option (List (List ℕ)))
        → offer_named turned kinds fixed other_words transport word name ≡ offer_named given kinds fixed words transport word name
    named-same transport word None = refl
    named-same transport word (Some name) =
        after-like (offer_by given kinds fixed words transport word) (offer_by turned kinds fixed other_words transport word)
        (answer-same transport word) (answer_to given (record { name = name; kind = kind.Srv }))
        (answer_to turned (record { name = name; kind = kind.Srv })) (like (record { name = name; kind = kind.Srv }))

    offers-same : (services : List Service) (word : ℕ)
        → offers_along turned kinds fixed other_words services word ≡ offers_along given kinds fixed words services word
    offers-same [] word = refl
    offers-same (service ∷ services) word =
        after-same (λ offer. made (λ others. offer ∷ others) (offers_along turned kinds fixed other_words services (next_word word offer)))
        (λ offer. made (λ others. offer ∷ others) (offers_along given kinds fixed words services (next_word word offer)))
        (offer_along turned kinds fixed other_words service word) (offer_along given kinds fixed words service word)
        (λ offer. ap (made (λ others. offer ∷ others)) (offers-same services (next_word word offer)))
        (named-same service.transport word service.name)

  -- ---- the request

  module _ (secure : Bool) (caps : Caps) (is : caps.is_fixed ≡ true) (name : List (List ℕ)) where
    name-same : (port : ℕ) (transport : Transport) → to_name caps turned name port transport ≡ to_name caps given name port transport
    name-same port transport = ap (made Ok) (targets-same (kinds_of caps.families) caps.is_fixed is transport port name)

    port-same : (port : ℕ) (transport : Result Transport Reason)
        → to_port caps turned name port transport ≡ to_port caps given name port transport
    port-same port (Ok transport) = name-same port transport
    port-same port (Err reason) = refl

    domain-same : (fallback : Result Transport Reason) → to_domain caps turned name fallback ≡ to_domain caps given name fallback
    domain-same (Ok transport) = name-same (default_port transport) transport
    domain-same (Err reason) = refl

    by_offers-same : (fallback : Result Transport Reason) (offers : List Offer)
        → by_offers caps turned name fallback offers ≡ by_offers caps given name fallback offers
    by_offers-same fallback offers =
        ap (λ (it : Needing Settled). if list_any is_listed offers then Ok (Ok (flat_map offered_targets offers))
        else (if list_any is_denied offers then Ok (Err NotOffered) else it)) (domain-same fallback)

    along-same : (fallback : Result Transport Reason) (services : List Service)
        → along caps other_words turned name fallback services ≡ along caps words given name fallback services
    along-same fallback services =
        after-same (by_offers caps turned name fallback) (by_offers caps given name fallback)
        (offers_along turned (kinds_of caps.families) caps.is_fixed other_words services 0)
        (offers_along given (kinds_of caps.families) caps.is_fixed words services 0)
        (by_offers-same fallback) (offers-same (kinds_of caps.families) caps.is_fixed is services 0)

    service-same : (transport : Result Transport Reason)
        → to_service caps other_words turned name transport ≡ to_service caps words given name transport
    service-same (Ok transport) = along-same (Ok transport) (service_at name transport ∷ [])
    service-same (Err reason) = refl

    by_services-same : (services : List Service)
        → by_services secure caps other_words turned name services ≡ by_services secure caps words given name services
    by_services-same [] = along-same (offered_default secure caps) (own_services secure caps name)
    by_services-same (first ∷ others) = along-same (Ok first.transport) (first ∷ others)

    naptr-same : by_naptr secure caps other_words turned name ≡ by_naptr secure caps words given name
    naptr-same =
        after-like (λ answer. by_rules secure caps words given name (rules_in answer.records))
        (λ answer. by_rules secure caps other_words turned name (rules_in answer.records))
        (λ answer other moved. ap (by_services secure caps other_words turned name)
        (services-same secure caps is (rules_in answer.records) (rules_in other.records) (rules-turned answer.records other.records moved))
        ∙ by_services-same (usable_services secure caps (rules_in answer.records)))
        (answer_to given (record { name = name; kind = kind.Naptr })) (answer_to turned (record { name = name; kind = kind.Naptr }))
        (like (record { name = name; kind = kind.Naptr }))

    discovered-same : (transport : Result Transport Reason)
        → discovered secure caps other_words turned name transport ≡ discovered secure caps words given name transport
    discovered-same (Ok transport) = naptr-same
    discovered-same (Err reason) = ap (λ (it : Needing Settled). if secure then Ok (Err reason) else it) naptr-same

  host-same : (request : Request) (caps : Caps) → caps.is_fixed ≡ true → (target : Host) (port : Option ℕ) (named : Option Spoken)
      → to_host request caps other_words turned target port named ≡ to_host request caps words given target port named
  host-same request caps is (host.V4 octets) port named = refl
  host-same request caps is (host.V6 octets) port named = refl
  host-same request caps is (host.Domain name) (Some port) named =
      port-same (is_secure request) caps is name port (offered caps (transport_of request))
  host-same request caps is (host.Domain name) None (Some named) =
      service-same (is_secure request) caps is name (offered caps (transport_of request))
  host-same request caps is (host.Domain name) None None =
      discovered-same (is_secure request) caps is name (offered_default (is_secure request) caps)

  pub located-same : (request : Request) (caps : Caps) → caps.is_fixed ≡ true
      → locate request caps other_words turned ≡ locate request caps words given
  located-same request caps is = ap resolved (host-same request caps is (target_of request) (port_of request) (spoken_of request))
