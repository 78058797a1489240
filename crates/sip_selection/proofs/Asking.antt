-- Which questions a request can need, where answers are added.
use Rattle.std.proofs.Common.{◌≡◌, ℕ, zero, suc, Bool, true, false, ◌||◌, if◌then◌else◌, List, [], ◌∷◌, ◌++◌, map, Option, Some, None, Ok, Err, All, IfSome, ok_or, slice_get, refl, sym, subst, ap, ◌∙◌}
use Rattle.std.specs.Bool.{⊤}
use Rattle.std.specs.List.{list_any}
use Rattle.std.specs.Option.{option_map_or}
use Rattle.std.proofs.lemmas.List.Elements.{All-head, All-nil, All-tail, All-weaker}
use Rattle.dns_answers.specs.Values.{AnswerValue}
use Rattle.dns_message.specs.declared.kind.Kind.{Kind}
use Rattle.dns_message.specs.declared.kind.Kind.TheVariants as kind
use Rattle.dns_message.specs.declared.naptr.NaptrRecord.{NaptrRecord}
use Rattle.dns_message.specs.declared.question.Question.{Question}
use Rattle.dns_message.specs.declared.srv.SrvRecord.{SrvRecord}
use Rattle.sip_uri.specs.declared.transport.Transport.{Transport}
use Rattle.srv_choice.specs.Outcomes.{is_root, denies, fixed_listing, listing}
use Rattle.srv_choice.specs.declared.outcome.SrvOutcome.{SrvOutcome}
use Rattle.srv_choice.specs.declared.outcome.SrvOutcome.TheVariants.{Absent, Denied, Listed}
use Rattle.sip_selection.specs.Known.{Given, Needing, made, joined, find_answer, answer_to, servers_in, rules_in}
use Rattle.sip_selection.specs.FixedOrders.{addresses_by, order_by}
use Rattle.sip_selection.specs.Services.{kind_targets, targets_of, server_targets, index_targets, Offer, listed, is_listed, is_denied, offer_of, offer_by, offer_named, offer_along, offers_along, next_word, target_at}
use Rattle.sip_selection.specs.declared.target.Target.{Target}
use Rattle.sip_selection.specs.declared.service.Service.{Service}
use Rattle.sip_selection.proofs.Growth.{answer-grows}
use Rattle.sip_selection.proofs.Meeting.{Meets, meets-more, made-meets, after-meets, found-meets, joined-meets}

abbrev pub AnyTarget : Target → Type 0
AnyTarget target = ⊤

abbrev AnyIndex : ℕ → Type 0
AnyIndex index = ⊤

pub or_left : (a b : Bool) → (a || b) ≡ false → a ≡ false
or_left true b is = absurd cc
or_left false b is = refl

pub or_right : (a b : Bool) → (a || b) ≡ false → b ≡ false
or_right true b is = absurd cc
or_right false b is = is

picked : {X : Type 0} (P : X → Type 0) (xs : List X) (index : ℕ) → All P xs → IfSome (slice_get xs index) P
picked P [] index each = tt
picked P (x ∷ xs) zero each = All-head P x xs each
picked P (x ∷ xs) (suc index) each = picked P xs index (All-tail P x xs each)

-- ---- what the answers say

abbrev pub servers_at : Needing AnswerValue → List SrvRecord
servers_at (Ok answer) = servers_in answer.records
servers_at (Err question) = []

abbrev pub rules_at : Needing AnswerValue → List NaptrRecord
rules_at (Ok answer) = rules_in answer.records
rules_at (Err question) = []

abbrev pub srv_question : List (List ℕ) → Question
srv_question name = record { name = name; kind = kind.Srv }

abbrev pub servers_of : List Given → Option (List (List ℕ)) → List SrvRecord
servers_of given None = []
servers_of given (Some name) = servers_at (answer_to given (srv_question name))

abbrev pub are_some : List SrvRecord → Bool
are_some [] = false
are_some (first ∷ others) = true

abbrev pub has_servers : List Given → Service → Bool
has_servers given service = are_some (servers_of given service.name)

nothing_listed : (fixed : Bool) (servers : List SrvRecord) (words : List ℕ) (word : ℕ) → order_by fixed servers words word ≡ Absent
    → are_some servers ≡ false
nothing_listed fixed [] words word = λ is. refl
nothing_listed true (first ∷ others) words word = by (denies (first ∷ others))
  where
    by : (b : Bool) → (if b then Denied else fixed_listing (first ∷ others) word) ≡ Absent → true ≡ false
    by true is = absurd cc
    by false is = absurd cc
nothing_listed false (first ∷ others) words word = by (denies (first ∷ others))
  where
    by : (b : Bool) → (if b then Denied else listing (first ∷ others) words word) ≡ Absent → true ≡ false
    by true is = absurd cc
    by false is = absurd cc

-- ---- the questions that are needed, R of all that can be

module _ (R : Question → Type 0) (given more : List Given) (kinds : List Kind) (fixed : Bool) where
  abbrev pub all : List Given
  all = given ++ more

  pub answer-asks : (question : Question) → R question → Meets (λ answer. answer_to all question ≡ Ok answer) R (answer_to given question)
  answer-asks question asked =
      meets-more R (λ answer. find_answer given question ≡ Some answer) (λ answer. answer_to all question ≡ Ok answer)
      (answer_to given question)
      (λ answer found. answer-grows given more question answer (ap (λ (it : Option AnswerValue). ok_or it question) found))
      (found-meets R (find_answer given question) question (λ none. asked))

  -- its addresses can be asked for
  abbrev pub Asks : List (List ℕ) → Type 0
  Asks name = All (λ asked. R (record { name = name; kind = asked })) kinds

  abbrev pub AsksOf : SrvRecord → Type 0
  AsksOf server = Asks server.target

  abbrev pub ServiceAsks : Option (List (List ℕ)) → Type 0
  ServiceAsks None = ⊤
  ServiceAsks (Some name) = R (srv_question name) × All AsksOf (servers_at (answer_to all (srv_question name)))

  kind-asks : (transport : Transport) (port : ℕ) (name : List (List ℕ)) (asked : Kind) → R (record { name = name; kind = asked })
      → Meets (All AnyTarget) R (kind_targets given kinds fixed transport port name asked)
  kind-asks transport port name asked is =
      let question : Question = record { name = name; kind = asked } in
      made-meets R (All AnyTarget) (λ (answer : AnswerValue). map (target_at transport port) (addresses_by fixed answer.records))
      (answer_to given question)
      (meets-more R (λ answer. answer_to all question ≡ Ok answer)
      (λ answer. All AnyTarget (map (target_at transport port) (addresses_by fixed answer.records))) (answer_to given question)
      (λ answer found. λ i d lt. tt) (answer-asks question is))

  pub targets-ask : (transport : Transport) (port : ℕ) (name : List (List ℕ)) → Asks name
      → Meets (All AnyTarget) R (targets_of given kinds fixed transport port name)
  targets-ask transport port name each =
      joined-meets R AnyTarget (kind_targets given kinds fixed transport port name) kinds
      (All-weaker (λ asked. R (record { name = name; kind = asked }))
      (λ asked. Meets (All AnyTarget) R (kind_targets given kinds fixed transport port name asked))
      (kind-asks transport port name) kinds each)

  server-by : (transport : Transport) (server : SrvRecord) (root : Bool) → is_root server.target ≡ root → AsksOf server
      → Meets (All AnyTarget) R (server_targets given kinds fixed transport server)
  server-by transport server true e asks = rw e (All-nil AnyTarget)
  server-by transport server false e asks = rw e (targets-ask transport server.port server.target asks)

  index-by : (transport : Transport) (server : Option SrvRecord) → IfSome server AsksOf
      → Meets (All AnyTarget) R (option_map_or (server_targets given kinds fixed transport) server (Ok []))
  index-by transport None asks = All-nil AnyTarget
  index-by transport (Some server) asks = server-by transport server (is_root server.target) refl asks

  -- where nothing is listed or denied there are no servers
  abbrev IsTold : List SrvRecord → Offer → Type 0
  IsTold servers offer = is_listed offer ≡ false → is_denied offer ≡ false → are_some servers ≡ false

  outcome-asks : (transport : Transport) (servers : List SrvRecord) (words : List ℕ) (word : ℕ) (outcome : SrvOutcome)
      → order_by fixed servers words word ≡ outcome → All AsksOf servers
      → Meets (IsTold servers) R (offer_of given kinds fixed transport servers outcome)
  outcome-asks transport servers words word Absent e asks = λ _ _. nothing_listed fixed servers words word e
  outcome-asks transport servers words word Denied e asks = λ _ is. absurd cc
  outcome-asks transport servers words word (Listed indexes next) e asks =
      made-meets R (IsTold servers) (λ targets. listed targets next) (joined (index_targets given kinds fixed transport servers) indexes)
      (meets-more R (All AnyTarget) (λ targets. IsTold servers (listed targets next))
      (joined (index_targets given kinds fixed transport servers) indexes) (λ targets _. λ is _. absurd cc)
      (joined-meets R AnyTarget (index_targets given kinds fixed transport servers) indexes
      (All-weaker AnyIndex (λ index. Meets (All AnyTarget) R (index_targets given kinds fixed transport servers index))
      (λ index _. index-by transport (slice_get servers index) (picked AsksOf servers index asks)) indexes (λ i d lt. tt))))

  named-asks : (words : List ℕ) (transport : Transport) (word : ℕ) (name : Option (List (List ℕ))) → ServiceAsks name
      → Meets (IsTold (servers_of all name)) R (offer_named given kinds fixed words transport word name)
  named-asks words transport word None asks = λ _ _. refl
  named-asks words transport word (Some name) asks =
      let question : Question = srv_question name in
      let Told : Offer → Type 0 = IsTold (servers_at (answer_to all question)) in
      after-meets R Told (offer_by given kinds fixed words transport word) (answer_to given question)
      (meets-more R (λ answer. answer_to all question ≡ Ok answer)
      (λ answer. Meets Told R (offer_by given kinds fixed words transport word answer)) (answer_to given question)
      (λ answer is.
      let same : servers_at (answer_to all question) ≡ servers_in answer.records = ap servers_at is in
      let each : All AsksOf (servers_in answer.records) = subst (All AsksOf) same asks.1 in
      subst (λ servers. Meets (IsTold servers) R (offer_by given kinds fixed words transport word answer)) (sym same)
      (outcome-asks transport (servers_in answer.records) words word (order_by fixed (servers_in answer.records) words word) refl each))
      (answer-asks question asks.0))

  abbrev pub AreTold : List Service → List Offer → Type 0
  AreTold services offers = list_any is_listed offers ≡ false → list_any is_denied offers ≡ false → list_any (has_servers all) services
      ≡ false

  both-told : (service : Service) (services : List Service) (offer : Offer) (others : List Offer)
      → IsTold (servers_of all service.name) offer
      → AreTold services others → AreTold (service ∷ services) (offer ∷ others)
  both-told service services offer others is are unlisted undenied =
      let first : has_servers all service ≡ false = is (or_left (is_listed offer) (list_any is_listed others) unlisted)
      (or_left (is_denied offer) (list_any is_denied others) undenied) in
      let rest : list_any (has_servers all) services ≡ false =
      are (or_right (is_listed offer) (list_any is_listed others) unlisted)
      (or_right (is_denied offer) (list_any is_denied others) undenied) in
      ap (λ b. b || list_any (has_servers all) services) first ∙ rest

  pub offers-ask : (words : List ℕ) (services : List Service) (word : ℕ) → All (λ service. ServiceAsks service.name) services
      → Meets (AreTold services) R (offers_along given kinds fixed words services word)
  offers-ask words [] word asks = λ _ _. refl
  offers-ask words (service ∷ services) word asks =
      after-meets R (AreTold (service ∷ services)) (λ offer. made (λ others. offer ∷ others)
      (offers_along given kinds fixed words services (next_word word offer))) (offer_along given kinds fixed words service word)
      (meets-more R (IsTold (servers_of all service.name))
      (λ offer. Meets (AreTold (service ∷ services)) R
      (made (λ others. offer ∷ others) (offers_along given kinds fixed words services (next_word word offer))))
      (offer_along given kinds fixed words service word)
      (λ offer is. made-meets R (AreTold (service ∷ services)) (λ others. offer ∷ others)
      (offers_along given kinds fixed words services (next_word word offer))
      (meets-more R (AreTold services) (λ others. AreTold (service ∷ services) (offer ∷ others))
      (offers_along given kinds fixed words services (next_word word offer))
      (λ others are. both-told service services offer others is are)
      (offers-ask words services (next_word word offer) (All-tail (λ service. ServiceAsks service.name) service services asks))))
      (named-asks words service.transport word service.name (All-head (λ service. ServiceAsks service.name) service services asks)))
