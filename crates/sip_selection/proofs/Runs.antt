-- How many questions a request needs, where each is answered as it comes.
use Rattle.std.proofs.Common.{◌≡◌, ℕ, ◌*◌, ◌<◌, ◌≤◌, Bool, true, false, if◌then◌else◌, List, [], ◌∷◌, ◌++◌, length, map, take, drop, filter, get_or, Option, Some, None, Result, Ok, Err, All, Contains, flat_map, find, option_map, refl, sym, subst, ap, ap₂, ◌∙◌, length-append, take-append-drop, arith}
use Rattle.std.specs.Bool.{⊤}
use Rattle.std.specs.Cmp.{IsEquivalence, and_equiv, on_equiv, nat_eq_equiv}
use Rattle.std.specs.Cmp.Lexicographic.{lists_equiv}
use Rattle.std.specs.List.{list_any}
use Rattle.std.proofs.lemmas.List.{get_or-map, get_or-take, length-map, length-take-le}
use Rattle.std.proofs.lemmas.List.Elements.{All-cons, All-contains_itself, All-head, All-nil, All-tail}
use Rattle.std.proofs.lemmas.List.Folds.{Any-from_list_any, list_any-from_Any}
use Rattle.std.proofs.lemmas.Map.Keys.{IsDistinct-from_apart}
use Rattle.std.proofs.lemmas.Map.Made.{length-le_from_is_member}
use Rattle.dns_answers.specs.Records.{count_of}
use Rattle.dns_answers.specs.Values.{AnswerValue}
use Rattle.dns_answers.specs.declared.records.Records.TheVariants as records
use Rattle.dns_message.specs.Kinds.{type_of_kind}
use Rattle.dns_message.specs.Questions.{same_question}
use Rattle.dns_message.specs.declared.kind.Kind.{Kind}
use Rattle.dns_message.specs.declared.kind.Kind.TheVariants as kind
use Rattle.dns_message.specs.declared.question.Question.{Question}
use Rattle.dns_message.specs.declared.srv.SrvRecord.{SrvRecord}
use Rattle.sip_uri.specs.declared.host.Host.{Host}
use Rattle.sip_uri.specs.declared.host.Host.TheVariants as host
use Rattle.ip_text.specs.declared.address.Address.{Address}
use Rattle.ip_text.specs.declared.address.Address.TheVariants as address
use Rattle.sip_uri.specs.declared.transport.Spoken.{Spoken}
use Rattle.sip_uri.specs.declared.transport.Transport.{Transport}
use Rattle.sip_selection.specs.Callers.{kinds_of}
use Rattle.sip_selection.specs.Choice.{need, Settled, offered, offered_default, own_services, is_tried, to_name, to_domain, by_offers, along, by_services, by_rules, by_naptr, to_address, to_port, to_service, discovered, to_host, locate}
use Rattle.sip_selection.specs.Known.{Given, Needing, find_answer, answer_to, rules_in}
use Rattle.sip_selection.specs.Requests.{target_of, port_of, spoken_of, is_secure, transport_of, default_port}
use Rattle.sip_selection.specs.Rules.{usable_services}
use Rattle.sip_selection.specs.Services.{service_at, targets_of, Offer, offers_along, is_listed, is_denied}
use Rattle.sip_selection.specs.declared.caps.Caps.{Caps}
use Rattle.sip_selection.specs.declared.reason.Reason.{Reason}
use Rattle.sip_selection.specs.declared.request.Request.{Request}
use Rattle.sip_selection.specs.declared.target.Target.{Target}
use Rattle.sip_selection.specs.declared.service.Service.{Service}
use Rattle.sip_selection.proofs.Asking.{or_left, or_right, are_some, AnyTarget, AsksOf, ServiceAsks, AreTold, servers_at, rules_at, srv_question, servers_of, has_servers, answer-asks, targets-ask, offers-ask}
use Rattle.sip_selection.proofs.ChoiceLaws.{missing_is}
use Rattle.sip_selection.proofs.Counting.{IsSmall, Any-question, answer-small, filter-few, usable_services-few, kinds-few, servers-few}
use Rattle.sip_selection.proofs.Meeting.{Meets, meets-more, made-meets, after-meets}
use Rattle.sip_selection.proofs.Outcomes.{Resolves, Settles, meets-resolves}

-- ---- all questions that can come, by all answers

abbrev addresses : List Kind → List (List ℕ) → List Question
addresses kinds name = map (λ asked. record { name = name; kind = asked }) kinds

abbrev rules : List (List ℕ) → Question
rules name = record { name = name; kind = kind.Naptr }

module _ (all : List Given) (kinds : List Kind) where
  abbrev of_one_service : Option (List (List ℕ)) → List Question
  of_one_service None = []
  of_one_service (Some name) = srv_question name ∷ flat_map (λ (server : SrvRecord). addresses kinds server.target)
      (servers_at (answer_to all (srv_question name)))

  abbrev of_services : List (List ℕ) → List Service → List Question
  of_services name services = flat_map (λ (service : Service). of_one_service service.name) services ++
      (if list_any (has_servers all) services then [] else addresses kinds name)

module _ (request : Request) (caps : Caps) (words : List ℕ) (all : List Given) where
  abbrev kinds : List Kind
  kinds = kinds_of caps.families

  -- the services that are tried by these rules
  abbrev tried : List (List ℕ) → List Service → List Service
  tried name [] = own_services (is_secure request) caps name
  tried name (first ∷ others) = first ∷ others

  abbrev of_domain : List (List ℕ) → List Question
  of_domain name = rules name ∷ of_services all kinds name (tried name (usable_services (is_secure request) caps
      (rules_at (answer_to all (rules name)))))

  abbrev of_service : List (List ℕ) → Result Transport Reason → List Question
  of_service name (Ok transport) = of_services all kinds name (service_at name transport ∷ [])
  of_service name (Err reason) = []

  abbrev of_host : Host → Option ℕ → Option Spoken → List Question
  of_host (host.V4 octets) port named = []
  of_host (host.V6 octets) port named = []
  of_host (host.Domain name) (Some port) named = addresses kinds name
  of_host (host.Domain name) None (Some named) = of_service name (offered caps (transport_of request))
  of_host (host.Domain name) None None = of_domain name

-- ---- parts of lists

front-of : {X : Type 0} (P : X → Type 0) (xs ys : List X) → All P (xs ++ ys) → All P xs
front-of P [] ys each = All-nil P
front-of P (x ∷ xs) ys each = All-cons P x xs (All-head P x (xs ++ ys) each) (front-of P xs ys (All-tail P x (xs ++ ys) each))

back-of : {X : Type 0} (P : X → Type 0) (xs ys : List X) → All P (xs ++ ys) → All P ys
back-of P [] ys each = each
back-of P (x ∷ xs) ys each = back-of P xs ys (All-tail P x (xs ++ ys) each)

each-mapped : {X Y : Type 0} (P : Y → Type 0) (f : X → Y) (xs : List X) → All P (map f xs) → All (λ x. P (f x)) xs
each-mapped P f [] each = All-nil (λ x. P (f x))
each-mapped P f (x ∷ xs) each = All-cons (λ x. P (f x)) x xs (All-head P (f x) (map f xs) each)
    (each-mapped P f xs (All-tail P (f x) (map f xs) each))

each-part : {X Y : Type 0} (P : Y → Type 0) (f : X → List Y) (xs : List X) → All P (flat_map f xs) → All (λ x. All P (f x)) xs
each-part P f [] each = All-nil (λ x. All P (f x))
each-part P f (x ∷ xs) each = All-cons (λ x. All P (f x)) x xs (front-of P (f x) (flat_map f xs) each)
    (each-part P f xs (back-of P (f x) (flat_map f xs) each))

all-more : {X : Type 0} (P Q : X → Type 0) → ((x : X) → P x → Q x) → (xs : List X) → All P xs → All Q xs
all-more P Q more [] each = All-nil Q
all-more P Q more (x ∷ xs) each = All-cons Q x xs (more x (All-head P x xs each)) (all-more P Q more xs (All-tail P x xs each))

-- ---- the choice

module _ (request : Request) (caps : Caps) (words : List ℕ) (R : Question → Type 0) (given more : List Given) where
  abbrev asked_kinds : List Kind
  asked_kinds = kinds_of caps.families

  abbrev all : List Given
  all = given ++ more

  abbrev AnySettled : Settled → Type 0
  AnySettled it = ⊤

  abbrev Needs : Needing Settled → Type 0
  Needs = Meets AnySettled R

  service-asks : (name : Option (List (List ℕ))) → All R (of_one_service all asked_kinds name)
      → ServiceAsks R given more asked_kinds caps.is_fixed name
  service-asks None each = tt
  service-asks (Some name) each =
      let servers : List SrvRecord = servers_at (answer_to all (srv_question name)) in
      let asked : List Question = flat_map (λ (server : SrvRecord). addresses asked_kinds server.target) servers in (
        All-head R (srv_question name) asked each,
        all-more (λ (server : SrvRecord). All R (addresses asked_kinds server.target)) (AsksOf R given more asked_kinds caps.is_fixed)
            (λ server asks. each-mapped R (λ asked. record { name = server.target; kind = asked }) asked_kinds asks) servers
            (each-part R (λ (server : SrvRecord). addresses asked_kinds server.target) servers (All-tail R (srv_question name) asked each)),
      )

  name-asks : (name : List (List ℕ)) (port : ℕ) (transport : Transport) → All R (addresses asked_kinds name)
      → Needs (to_name caps given name port transport)
  name-asks name port transport each =
      made-meets R AnySettled Ok (targets_of given asked_kinds caps.is_fixed transport port name)
      (meets-more R (All AnyTarget) (λ found. ⊤) (targets_of given asked_kinds caps.is_fixed transport port name) (λ found is. tt)
      (targets-ask R given more asked_kinds caps.is_fixed transport port name
      (each-mapped R (λ asked. record { name = name; kind = asked }) asked_kinds each)))

  domain-asks : (name : List (List ℕ)) (fallback : Result Transport Reason) → All R (addresses asked_kinds name)
      → Needs (to_domain caps given name fallback)
  domain-asks name (Ok transport) each = name-asks name (default_port transport) transport each
  domain-asks name (Err reason) each = tt

  offers-by : (name : List (List ℕ)) (fallback : Result Transport Reason) (offers : List Offer) (any denied : Bool)
      → list_any is_listed offers ≡ any → list_any is_denied offers ≡ denied
      → (list_any is_listed offers ≡ false → list_any is_denied offers ≡ false → All R (addresses asked_kinds name)) → Needs
      (by_offers caps given name fallback offers)
  offers-by name fallback offers true denied e e' each = rw e tt
  offers-by name fallback offers false true e e' each = rw (e, e') tt
  offers-by name fallback offers false false e e' each = rw (e, e') (domain-asks name fallback (each e e'))

  else-addresses : (name : List (List ℕ)) (some : Bool) → some ≡ false → All R (if some then [] else addresses asked_kinds name)
      → All R (addresses asked_kinds name)
  else-addresses name true is each = absurd cc
  else-addresses name false is each = each

  along-asks : (name : List (List ℕ)) (fallback : Result Transport Reason) (services : List Service)
      → All R (of_services all asked_kinds name services)
      → Needs (along caps words given name fallback services)
  along-asks name fallback services each =
      let some : Bool = list_any (has_servers all) services in
      let asked : List Question = flat_map (λ (service : Service). of_one_service all asked_kinds service.name) services in
      let after : List Question = (if some then [] else addresses asked_kinds name) in
      after-meets R AnySettled (by_offers caps given name fallback) (offers_along given asked_kinds caps.is_fixed words services 0)
      (meets-more R (AreTold R given more asked_kinds caps.is_fixed services) (λ offers. Needs (by_offers caps given name fallback offers))
      (offers_along given asked_kinds caps.is_fixed words services 0)
      (λ offers told. offers-by name fallback offers (list_any is_listed offers) (list_any is_denied offers) refl refl
      (λ unlisted undenied. else-addresses name some (told unlisted undenied) (back-of R asked after each)))
      (offers-ask R given more asked_kinds caps.is_fixed words services 0
      (all-more (λ (service : Service). All R (of_one_service all asked_kinds service.name))
      (λ service. ServiceAsks R given more asked_kinds caps.is_fixed service.name)
      (λ service asks. service-asks service.name asks) services
      (each-part R (λ (service : Service). of_one_service all asked_kinds service.name) services (front-of R asked after each)))))

  by_services-asks : (name : List (List ℕ)) (services : List Service)
      → All R (of_services all asked_kinds name (tried request caps words all name services))
      → Needs (by_services (is_secure request) caps words given name services)
  by_services-asks name [] each = along-asks name (offered_default (is_secure request) caps) (own_services (is_secure request) caps name)
      each
  by_services-asks name (first ∷ others) each = along-asks name (Ok first.transport) (first ∷ others) each

  naptr-asks : (name : List (List ℕ)) → All R (of_domain request caps words all name)
      → Needs (by_naptr (is_secure request) caps words given name)
  naptr-asks name each =
      let services : List Service = tried request caps words all name (usable_services (is_secure request) caps
      (rules_at (answer_to all (rules name)))) in
      let rest : All R (of_services all asked_kinds name services) = All-tail R (rules name) (of_services all asked_kinds name services)
      each in
      after-meets R AnySettled
      (λ answer. by_rules (is_secure request) caps words given name (rules_in answer.records)) (answer_to given (rules name))
      (meets-more R (λ answer. answer_to all (rules name) ≡ Ok answer)
      (λ answer. Needs (by_rules (is_secure request) caps words given name (rules_in answer.records))) (answer_to given (rules name))
      (λ answer is. by_services-asks name (usable_services (is_secure request) caps (rules_in answer.records))
      (subst (λ (it : Needing AnswerValue). All R
      (of_services all asked_kinds name (tried request caps words all name (usable_services (is_secure request) caps (rules_at it))))) is
      rest))
      (answer-asks R given more asked_kinds caps.is_fixed (rules name)
      (All-head R (rules name) (of_services all asked_kinds name services) each)))

  address-asks : (address : Address) (port : Option ℕ) (transport : Result Transport Reason)
      → Needs (to_address address port transport)
  address-asks address port (Ok transport) = tt
  address-asks address port (Err reason) = tt

  port-asks : (name : List (List ℕ)) (port : ℕ) (transport : Result Transport Reason) → All R (addresses asked_kinds name)
      → Needs (to_port caps given name port transport)
  port-asks name port (Ok transport) each = name-asks name port transport each
  port-asks name port (Err reason) each = tt

  named_service-asks : (name : List (List ℕ)) (transport : Result Transport Reason)
      → All R (of_service request caps words all name transport)
      → Needs (to_service caps words given name transport)
  named_service-asks name (Ok transport) each = along-asks name (Ok transport) (service_at name transport ∷ []) each
  named_service-asks name (Err reason) each = tt

  discovered-or : (name : List (List ℕ)) (reason : Reason) (secure : Bool) → All R (of_domain request caps words all name)
      → Needs (if secure then Ok (Err reason) else by_naptr (is_secure request) caps words given name)
  discovered-or name reason true each = tt
  discovered-or name reason false each = naptr-asks name each

  discovered-asks : (name : List (List ℕ)) (transport : Result Transport Reason)
      → All R (of_domain request caps words all name) → Needs (discovered (is_secure request) caps words given name transport)
  discovered-asks name (Err reason) each = discovered-or name reason (is_secure request) each
  discovered-asks name (Ok transport) each = naptr-asks name each

  pub host-asks : (target : Host) (port : Option ℕ) (named : Option Spoken) → All R (of_host request caps words all target port named)
      → Needs (to_host request caps words given target port named)
  host-asks (host.V4 octets) port named each = address-asks (address.V4 octets) port
      (offered caps (transport_of request))
  host-asks (host.V6 octets) port named each = address-asks (address.V6 octets) port
      (offered caps (transport_of request))
  host-asks (host.Domain name) (Some port) named each = port-asks name port (offered caps (transport_of request)) each
  host-asks (host.Domain name) None (Some named) each = named_service-asks name (offered caps (transport_of request)) each
  host-asks (host.Domain name) None None each = discovered-asks name (offered_default (is_secure request) caps) each

-- ---- how many they are

flat-few : {X Y : Type 0} (count : ℕ) (f : X → List Y) → ((x : X) → length (f x) ≤ count) → (xs : List X)
    → length (flat_map f xs) ≤ length xs * count
flat-few count f each [] = omega arith
flat-few count f each (x ∷ xs) = grind (arith, each x, flat-few count f each xs, length-append (f x) (flat_map f xs))

servers-at-few : (n : Needing AnswerValue) → Meets (λ answer. count_of answer.records ≤ 32) Any-question n → length (servers_at n) ≤ 32
servers-at-few (Ok answer) le = omega (arith, le, servers-few answer.records)
servers-at-few (Err question) is = omega arith

none-of : (servers : List SrvRecord) → are_some servers ≡ false → servers ≡ []
none-of [] is = refl
none-of (first ∷ others) is = absurd cc

module _ (all : List Given) (small : All IsSmall all) (kinds : List Kind) (two : length kinds ≤ 2) where
  addresses-two : (name : List (List ℕ)) → length (addresses kinds name) ≤ 2
  addresses-two name =
      let asks : Kind → Question = (λ asked. record { name = name; kind = asked }) in
      omega (arith, two, length-map kinds asks)

  service-few : (name : Option (List (List ℕ))) → length (of_one_service all kinds name) ≤ 65
  service-few None = omega arith
  service-few (Some name) =
      let servers : List SrvRecord = servers_at (answer_to all (srv_question name)) in
      let le : length servers ≤ 32 = servers-at-few (answer_to all (srv_question name)) (answer-small all small (srv_question name)) in
      let each = flat-few 2 (λ (server : SrvRecord). addresses kinds server.target) (λ server. addresses-two server.target) servers in
      omega (arith, le, each)

  quiet-service : (name : Option (List (List ℕ))) → are_some (servers_of all name) ≡ false → length (of_one_service all kinds name) ≤ 1
  quiet-service None quiet = omega arith
  quiet-service (Some name) quiet =
      let none : servers_at (answer_to all (srv_question name)) ≡ [] = none-of (servers_at (answer_to all (srv_question name))) quiet in
      rw none (omega arith)

  quiet-services : (services : List Service) → list_any (has_servers all) services ≡ false
      → length (flat_map (λ (service : Service). of_one_service all kinds service.name) services) ≤ length services
  quiet-services [] quiet = omega arith
  quiet-services (service ∷ services) quiet =
      let first = quiet-service service.name (or_left (has_servers all service) (list_any (has_servers all) services) quiet) in
      let rest = quiet-services services (or_right (has_servers all service) (list_any (has_servers all) services) quiet) in
      omega (
        arith,
        first,
        rest,
        length-append (of_one_service all kinds service.name)
            (flat_map (λ (service : Service). of_one_service all kinds service.name) services),
      )

  services-by : (name : List (List ℕ)) (services : List Service) (some : Bool) → list_any (has_servers all) services ≡ some
      → length services ≤ 8
      → length (flat_map (λ (service : Service). of_one_service all kinds service.name) services ++
      (if some then [] else addresses kinds name)) ≤ 520
  services-by name services true e eight =
      let asked : List Question = flat_map (λ (service : Service). of_one_service all kinds service.name) services in
      let each = flat-few 65 (λ (service : Service). of_one_service all kinds service.name) (λ service. service-few service.name) services
      in
      omega (arith, each, eight, length-append asked [])
  services-by name services false e eight =
      let asked : List Question = flat_map (λ (service : Service). of_one_service all kinds service.name) services in
      omega (arith, quiet-services services e, eight, addresses-two name, length-append asked (addresses kinds name))

  services-few : (name : List (List ℕ)) (services : List Service) → length services ≤ 8 → length (of_services all kinds name services) ≤ 520
  services-few name services eight = services-by name services (list_any (has_servers all) services) refl eight

module _ (request : Request) (caps : Caps) (words : List ℕ) (four : length caps.transports ≤ 4) (all : List Given)
    (small : All IsSmall all) where
  tried-few : (name : List (List ℕ)) (services : List Service) → length services ≤ 8
      → length (tried request caps words all name services) ≤ 8
  tried-few name [] eight =
      let own : List Transport = filter (is_tried (is_secure request)) caps.transports in
      omega (arith, four, filter-few (is_tried (is_secure request)) caps.transports, length-map own (service_at name))
  tried-few name (first ∷ others) eight = eight

  named_service-few : (name : List (List ℕ)) (transport : Result Transport Reason)
      → length (of_service request caps words all name transport) ≤ 521
  named_service-few name (Ok transport) =
      let le = services-few all small (kinds_of caps.families) (kinds-few caps.families) name (service_at name transport ∷ [])
      (omega arith) in
      omega (arith, le)
  named_service-few name (Err reason) = omega arith

  host-few : (target : Host) (port : Option ℕ) (named : Option Spoken) → length (of_host request caps words all target port named) ≤ 521
  host-few (host.V4 octets) port named = omega arith
  host-few (host.V6 octets) port named = omega arith
  host-few (host.Domain name) (Some port) named =
      let le = addresses-two all small (kinds_of caps.families) (kinds-few caps.families) name in
      omega (arith, le)
  host-few (host.Domain name) None (Some named) = named_service-few name (offered caps (transport_of request))
  host-few (host.Domain name) None None =
      let services : List Service = usable_services (is_secure request) caps (rules_at (answer_to all (rules name))) in
      let eight = tried-few name services (usable_services-few (is_secure request) caps (rules_at (answer_to all (rules name)))) in
      let le = services-few all small (kinds_of caps.families) (kinds-few caps.families) name
      (tried request caps words all name services) eight in
      omega (arith, le)

-- ---- none comes twice

any-settled : (it : Settled) → Settles (λ (found : List Target). ⊤) it
any-settled (Ok found) = tt
any-settled (Err reason) = tt

same_questions : IsEquivalence same_question
same_questions =
    and_equiv (on_equiv (λ (question : Question). question.name) (lists_equiv (lists_equiv nat_eq_equiv)))
    (on_equiv (λ (question : Question). type_of_kind question.kind) nat_eq_equiv)

none-same : (given : List Given) (question : Question) → find_answer given question ≡ None
    → All (λ (it : Given). same_question it.question question ≡ false) given
none-same [] question none = All-nil (λ (it : Given). same_question it.question question ≡ false)
none-same (it ∷ others) question none = by (same_question it.question question) refl (none-same others question) none
  where
    by : (b : Bool) → same_question it.question question ≡ b
        → (find_answer others question ≡ None → All (λ (it : Given). same_question it.question question ≡ false) others)
        → option_map (λ (it : Given). it.answer) (if b then Some it else find (λ it. same_question it.question question) others) ≡ None
        → All (λ (it : Given). same_question it.question question ≡ false) (it ∷ others)
    by true e rest is = absurd cc
    by false e rest is = All-cons (λ (it : Given). same_question it.question question ≡ false) it others e (rest is)

module _ (request : Request) (caps : Caps) (words : List ℕ) (given : List Given) (small : All IsSmall given)
    (four : length caps.transports ≤ 4)
    (asked : (k : ℕ) (it : Given) → k < length given → locate request caps words (take k given) ≡ need (get_or given k it).question) where
  abbrev every : List Question
  every = of_host request caps words given (target_of request) (port_of request) (spoken_of request)

  abbrev questions : List Question
  questions = map (λ (it : Given). it.question) given

  -- some answer, where a list wants one past its end
  abbrev with_none : Question → Given
  with_none question = record { question = question; answer = record { records = records.V4 []; life = 0 } }

  question-at : (k : ℕ) (d : Question) → k < length given → get_or questions k d ≡ (get_or given k (with_none d)).question
  question-at k d within = get_or-map (λ (it : Given). it.question) given k (with_none d) d within

  among : (k : ℕ) (it : Given) → k < length given → Contains every (get_or given k it).question
  among k it within =
      let whole : given ≡ take k given ++ drop k given = sym (take-append-drop k given) in
      let each : All (Contains every) (of_host request caps words (take k given ++ drop k given) (target_of request) (port_of request)
      (spoken_of request)) =
      subst (λ (l : List Given). All (Contains every)
      (of_host request caps words l (target_of request) (port_of request) (spoken_of request))) whole (All-contains_itself every) in
      let holds : Resolves (λ (found : List Target). ⊤) (Contains every) (locate request caps words (take k given)) =
      meets-resolves (λ (found : List Target). ⊤) (Contains every)
      (to_host request caps words (take k given) (target_of request) (port_of request) (spoken_of request))
      (meets-more (Contains every) (λ (it : Settled). ⊤) (Settles (λ (found : List Target). ⊤))
      (to_host request caps words (take k given) (target_of request) (port_of request) (spoken_of request))
      (λ it _. any-settled it)
      (host-asks request caps words (Contains every) (take k given) (drop k given) (target_of request) (port_of request)
      (spoken_of request) each)) in
      subst (Resolves (λ (found : List Target). ⊤) (Contains every)) (asked k it within) holds

  apart : (i j : ℕ) (d : Question) → i < j → j < length questions → same_question (get_or questions i d) (get_or questions j d) ≡ false
  apart i j d before within =
      let it : Given = with_none d in
      let lt : j < length given = omega (arith, within, length-map given (λ (it : Given). it.question)) in
      let lt' : i < length given = omega (arith, lt, before) in
      let front : i < length (take j given) = omega (arith, before, length-take-le j given (omega (arith, lt))) in
      let differs : same_question (get_or (take j given) i it).question (get_or given j it).question ≡ false =
      none-same (take j given) (get_or given j it).question
      (missing_is request caps words (take j given) (get_or given j it).question (asked j it lt)).0 i it front in
      ap₂ same_question (question-at i d lt' ∙ ap (λ (it : Given). it.question) (sym (get_or-take j given i it before)))
      (question-at j d lt) ∙ differs

  member : (question : Question) → list_any (same_question question) questions ≡ true → list_any (same_question question) every ≡ true
  member question is =
      let some = Any-from_list_any (same_question question) questions is in
      let lt : some.0 < length given = omega (arith, some.2, length-map given (λ (it : Given). it.question)) in
      let at : some.1 ≡ (get_or given some.0 (with_none some.1)).question = sym some.3 ∙ question-at some.0 some.1 lt in
      let here : Contains every some.1 = subst (Contains every) (sym at) (among some.0 (with_none some.1) lt) in
      list_any-from_Any (same_question question) every (here.0, some.1, here.1, here.2, some.4)

  pub few_asked : length given ≤ 521
  few_asked =
      let le = length-le_from_is_member same_questions questions every (IsDistinct-from_apart same_question questions apart) member in
      let most = host-few request caps words four given small (target_of request) (port_of request) (spoken_of request) in
      omega (arith, le, most, length-map given (λ (it : Given). it.question))
