-- Each of the paths of a request is one of it.
use Rattle.std.proofs.Common.{◌≡◌, ℕ, Bool, true, false, List, [], ◌∷◌, map, Option, Some, None, refl, sym, subst}
use Rattle.std.proofs.lemmas.List.Elements.{All-append, All-cons, All-contains_itself, All-head, All-nil, All-tail, All-weaker}
use Rattle.std.specs.Prelude.{IfSome, MatchOption, is_none}
use Rattle.std.specs.Arc.{arc_value}
use Rattle.std.specs.Bool.{MatchBool}
use Rattle.std.specs.List.{All, Contains}
use Rattle.std.specs.Option.{option_map}
use Rattle.dns_answers.specs.Values.{AnswerValue}
use Rattle.dns_message.specs.declared.naptr.NaptrRecord.{NaptrRecord}
use Rattle.dns_message.specs.declared.question.Question.{Question}
use Rattle.sip_selection.specs.Known.{rules_in, servers_in}
use Rattle.sip_selection.specs.Requests.{port_of, spoken_of, target_of}
use Rattle.sip_selection.specs.Rules.{service_transport}
use Rattle.sip_selection.specs.Services.{service_at}
use Rattle.sip_selection.specs.declared.request.Request.{Request}
use Rattle.sip_uri.specs.declared.host.Host.{Host}
use Rattle.sip_uri.specs.declared.host.Host.TheVariants as host
use Rattle.sip_uri.specs.declared.transport.Transport.{Transport}
use Rattle.resolution_paths.specs.Paths as spec
use Rattle.resolution_paths.specs.Paths.{IsOne, Joined, none, more}
use Rattle.resolution_paths.specs.declared.path.ResolutionPath.{ResolutionPath}
use Rattle.resolution_paths.specs.declared.path.ServiceRecord.{ServiceRecord}

-- ---- lists

-- what is so of each item that one of them gives is so of all
All-Joined : {X Y : Type 0} (gives : X → List Y → Type 0) (Q : X → Type 0) (P : Y → Type 0)
    → ((x : X) → Q x → (ys : List Y) → gives x ys → All P ys)
    → (xs : List X) (ys : List Y) → All Q xs → Joined gives xs ys → All P ys
All-Joined gives Q P each _ _ all none = All-nil P
All-Joined gives Q P each _ _ all (more {x = x} {xs = xs} {first = first} {others = others} one rest) =
    All-append P first others (each x (All-head Q x xs all) first one)
    (All-Joined gives Q P each xs others (All-tail Q x xs all) rest)

-- what is so of the one item is so of all
All-IsOne : {X : Type 0} (Is P : X → Type 0) → ((x : X) → Is x → P x) → (xs : List X) → IsOne Is xs → All P xs
All-IsOne Is P each xs one = subst (All P) (sym one.only) (All-cons P one.item [] (each one.item one.is) (All-nil P))

-- what is so of each item that a value gives, if there is one, is so of all
All-MatchOption : {X Y : Type 0} (gives : X → List Y → Type 0) (Told : Option X → Type 0) (P : Y → Type 0)
    → ((x : X) → Told (Some x) → (ys : List Y) → gives x ys → All P ys)
    → (o : Option X) (ys : List Y) → Told o → MatchOption o (ys ≡ []) (λ x. gives x ys) → All P ys
All-MatchOption gives Told P each None ys told are = subst (All P) (sym are) (All-nil P)
All-MatchOption gives Told P each (Some x) ys told are = each x told ys are

-- what is so of the images is so of what they are of
All-unmap : {X Y : Type 0} (P : X → Type 0) (f : Y → X) (ys : List Y) → All P (map f ys) → All (λ y. P (f y)) ys
All-unmap P f [] all = All-nil (λ y. P (f y))
All-unmap P f (y ∷ ys) all =
    All-cons (λ y. P (f y)) y ys (All-head P (f y) (map f ys) all) (All-unmap P f ys (All-tail P (f y) (map f ys) all))

module _ (said : Question → Option AnswerValue → Type 0) where
  -- ---- one path

  -- each answer with addresses was said to a question about the name
  answers-said : (name : List (List ℕ)) (answers : List AnswerValue) → spec.AreAddressesOf said name answers
      → All (spec.IsSaidOf said name) answers
  answers-said name answers are =
      All-Joined (spec.IsAnswerTo said name) (λ kind. Unit {0}) (spec.IsSaidOf said name)
      (λ kind any ys from. All-MatchOption (λ answer some. some ≡ answer ∷ []) (said (record { name = name; kind = kind }))
      (spec.IsSaidOf said name)
      (λ answer told some only. subst (All (spec.IsSaidOf said name)) (sym only)
      (All-cons (spec.IsSaidOf said name) answer [] (kind, told) (All-nil (spec.IsSaidOf said name))))
      from.found ys from.was_said from.are)
      _ answers (λ k d inside. tt) are

  module _ (domain : List (List ℕ)) where
    -- a path, by the record of a service that it is by, if it is by one
    path-by : (services rules : Bool) (path : ResolutionPath) (service : Option ServiceRecord)
        → spec.IsPathTo said (spec.name_by said domain service) service path
        → IfSome service (spec.IsServiceRecord said domain)
        → IfSome service (λ it. services ≡ true) → IfSome (spec.rule_of service) (λ it. rules ≡ true)
        → spec.IsPath said domain services rules path
    path-by services rules path service to record_of by_service by_rule = record {
      service = rw to.by record_of;
      addresses = rw to.by (All-unmap (spec.IsSaidOf said (spec.name_by said domain service)) arc_value path.addresses.items
          (answers-said (spec.name_by said domain service) (map arc_value path.addresses.items) to.addresses));
      by_service = rw to.by by_service;
      by_rule = rw to.by by_rule;
    }

    -- ---- the paths by a service, a rule, a transport

    paths-by_service : (rules : Bool) (transport : Transport) (service : List (List ℕ)) (by : Option (NaptrRecord × ℕ))
        (paths : List ResolutionPath) → spec.IsNamed said domain transport service by
        → IfSome (option_map {U = NaptrRecord} (λ it. it.0) by) (λ it. rules ≡ true)
        → spec.ByService said transport service by paths → All (spec.IsPath said domain true rules) paths
    paths-by_service rules transport service by paths named by_rule from =
        All-MatchOption
        (λ answer. Joined (spec.ByServer said transport service (option_map (λ it. it.0) by) (spec.shared_life by answer.life))
        (servers_in answer.records))
        (said _) (spec.IsPath said domain true rules)
        (λ answer told ys all. All-Joined _ (Contains (servers_in answer.records)) (spec.IsPath said domain true rules)
        (λ server has some one. All-IsOne _ (spec.IsPath said domain true rules)
        (λ path to. path-by true rules path (Some _) to
        (record { by = by; rule = refl; named = named; answer = answer; is_said = told; has = has; life = refl })
        refl by_rule) some one)
        (servers_in answer.records) ys (All-contains_itself (servers_in answer.records)) all)
        from.found paths from.was_said from.are

    paths-by_rule : (rule : NaptrRecord) (life : ℕ) (paths : List ResolutionPath) → spec.IsRuleOf said domain (rule, life)
        → spec.ByRule said life rule paths → All (spec.IsPath said domain true true) paths
    paths-by_rule rule life paths is_rule are =
        All-MatchOption (λ transport. spec.ByService said transport rule.replacement (Some (rule, life)))
        (λ transport. service_transport rule ≡ transport) (spec.IsPath said domain true true)
        (λ transport named ys from. paths-by_service true transport rule.replacement (Some (rule, life)) ys
        (is_rule, named, refl) refl from)
        (service_transport rule) paths refl are

    paths-by_rules : (paths : List ResolutionPath) → spec.ByRules said domain paths
        → All (spec.IsPath said domain true true) paths
    paths-by_rules paths from =
        All-MatchOption (λ answer. Joined (spec.ByRule said answer.life) (rules_in answer.records))
        (said _) (spec.IsPath said domain true true)
        (λ answer told ys all. All-Joined _ (Contains (rules_in answer.records)) (spec.IsPath said domain true true)
        (λ rule has some one. paths-by_rule rule answer.life some (answer, told, has, refl) one)
        (rules_in answer.records) ys (All-contains_itself (rules_in answer.records)) all)
        from.found paths from.was_said from.are

    paths-by_transports : (rules : Bool) (paths : List ResolutionPath) → spec.ByTransports said domain paths
        → All (spec.IsPath said domain true rules) paths
    paths-by_transports rules paths all =
        All-Joined (spec.ByTransport said domain) (λ transport. Unit {0}) (spec.IsPath said domain true rules)
        (λ transport any ys are. All-MatchOption (λ service. spec.ByService said transport service None)
        (λ service. (service_at domain transport).name ≡ service) (spec.IsPath said domain true rules)
        (λ service named some from. paths-by_service rules transport service None some named tt from)
        (service_at domain transport).name ys refl are)
        _ paths (λ k d inside. tt) all

    -- ---- all paths

    where_rules : (rules : Bool) (paths : List ResolutionPath) → MatchBool rules (spec.ByRules said domain paths) (paths ≡ [])
        → All (spec.IsPath said domain true rules) paths
    where_rules true paths are = paths-by_rules paths are
    where_rules false paths are =
        subst (All (spec.IsPath said domain true false)) (sym are) (All-nil (spec.IsPath said domain true false))

    paths-by_services : (rules : Bool) (paths : List ResolutionPath) → spec.ByServices said domain rules paths
        → All (spec.IsPath said domain true rules) paths
    paths-by_services rules paths all =
        subst (All (spec.IsPath said domain true rules)) (sym all.order)
        (All-append (spec.IsPath said domain true rules) all.by_rules all.by_transports
        (where_rules rules all.by_rules all.from_rules) (paths-by_transports rules all.by_transports all.from_transports))

    where_services : (services rules : Bool) (paths : List ResolutionPath)
        → MatchBool services (spec.ByServices said domain rules paths) (paths ≡ [])
        → All (spec.IsPath said domain services rules) paths
    where_services true rules paths are = paths-by_services rules paths are
    where_services false rules paths are =
        subst (All (spec.IsPath said domain false rules)) (sym are) (All-nil (spec.IsPath said domain false rules))

    paths-of_domain : (services rules : Bool) (paths : List ResolutionPath) → spec.ArePaths said domain services rules paths
        → All (spec.IsPath said domain services rules) paths
    paths-of_domain services rules paths all =
        subst (All (spec.IsPath said domain services rules)) (sym all.order)
        (All-append (spec.IsPath said domain services rules) all.by_services all.own
        (where_services services rules all.by_services all.from_services)
        (All-IsOne (spec.IsPathTo said domain None) (spec.IsPath said domain services rules)
        (λ path to. path-by services rules path None to tt tt tt) all.own all.to_domain))

  paths-at : (request : Request) (it : Host) (paths : List ResolutionPath) → target_of request ≡ it
      → spec.ArePathsAt said it (is_none (port_of request)) (is_none (spoken_of request)) paths
      → All (spec.IsPathOf said request) paths
  paths-at request (host.Domain domain) paths named are =
      All-weaker (spec.IsPath said domain (is_none (port_of request)) (is_none (spoken_of request))) (spec.IsPathOf said request)
      (λ path is. record { name = domain; named = named; is = is }) paths
      (paths-of_domain domain (is_none (port_of request)) (is_none (spoken_of request)) paths are)
  paths-at request (host.V4 octets) paths named are =
      subst (All (spec.IsPathOf said request)) (sym are) (All-nil (spec.IsPathOf said request))
  paths-at request (host.V6 octets) paths named are =
      subst (All (spec.IsPathOf said request)) (sym are) (All-nil (spec.IsPathOf said request))

  -- each of the paths of a request is one of it
  pub each-of_request : (request : Request) (paths : List ResolutionPath) → spec.ArePathsOf said request paths
      → All (spec.IsPathOf said request) paths
  each-of_request request paths are = paths-at request (target_of request) paths refl are
