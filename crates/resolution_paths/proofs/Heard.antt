-- Which questions, and what was said to them, make paths those of a request.
use Rattle.std.proofs.Common.{◌≡◌, ℕ, ◌<◌, ◌++◌, Bool, true, false, List, [], ◌∷◌, length, Option, Some, None, refl, arith}
use Rattle.std.proofs.lemmas.List.Elements.{All-append, All-cons, All-nil, Contains-append_left, Contains-append_right}
use Rattle.std.specs.List.{All, Contains}
use Rattle.std.specs.Option.{option_map}
use Rattle.std.specs.Prelude.{MatchOption, is_none}
use Rattle.dns_answers.specs.Values.{AnswerValue}
use Rattle.dns_message.specs.declared.kind.Kind.{Kind}
use Rattle.dns_message.specs.declared.naptr.NaptrRecord.{NaptrRecord}
use Rattle.dns_message.specs.declared.question.Question.{Question}
use Rattle.dns_message.specs.declared.srv.SrvRecord.{SrvRecord}
use Rattle.sip_selection.specs.Known.{rules_in, servers_in}
use Rattle.sip_selection.specs.Requests.{port_of, spoken_of, target_of}
use Rattle.sip_selection.specs.Rules.{service_transport}
use Rattle.sip_selection.specs.Services.{service_at}
use Rattle.sip_selection.specs.declared.request.Request.{Request}
use Rattle.sip_uri.specs.declared.host.Host.{Host}
use Rattle.sip_uri.specs.declared.host.Host.TheVariants as host
use Rattle.sip_uri.specs.declared.transport.Transport.{Transport}
use Rattle.resolution_paths.specs.Paths.{ArePaths, ArePathsAt, ArePathsBy, ArePathsOf, ByRule, ByRules, ByServer, ByService, ByServices, ByTransport, ByTransports, FromAnswer, IsAnswerTo, IsOne, IsPathTo, Joined, none, more, shared_life}
use Rattle.resolution_paths.specs.declared.path.ResolutionPath.{ResolutionPath}
use Rattle.resolution_paths.specs.declared.path.ServiceRecord.{ServiceRecord}

-- what is said to questions
abbrev Saying : Type 1
Saying = Question → Option AnswerValue → Type 0

-- what a list of these says
abbrev by : List (Question × Option AnswerValue) → Question → Option AnswerValue → Type 0
by heard question found = Contains heard (question, found)

-- ---- what is so by less is so by more

joined-weaker : {X Y : Type 0} (R S : X → List Y → Type 0) → ((x : X) (ys : List Y) → R x ys → S x ys) → (xs : List X) (ys : List Y)
    → Joined R xs ys → Joined S xs ys
joined-weaker R S weaker _ _ none = none
joined-weaker R S weaker _ _ (more {x = x} {xs = xs} {first = first} {others = others} one all) =
    more (weaker x first one) (joined-weaker R S weaker xs others all)

match-weaker : {X Y : Type 0} (it : Option X) (ys : List Y) (R S : X → List Y → Type 0)
    → ((x : X) (ys : List Y) → R x ys → S x ys) → MatchOption it (ys ≡ []) (λ x. R x ys) → MatchOption it (ys ≡ []) (λ x. S x ys)
match-weaker None ys R S weaker is = is
match-weaker (Some x) ys R S weaker is = weaker x ys is

module _ (said other : Saying) (says : (question : Question) (found : Option AnswerValue) → said question found → other question found) where
  from-weaker : {X : Type 0} (question : Question) (R S : AnswerValue → List X → Type 0)
      → ((answer : AnswerValue) (xs : List X) → R answer xs → S answer xs) → (xs : List X) → FromAnswer said question R xs
      → FromAnswer other question S xs
  from-weaker question R S weaker xs is = record {
    found = is.found;
    was_said = says question is.found is.was_said;
    are = match-weaker is.found xs R S weaker is.are;
  }

  one-weaker : (name : List (List ℕ)) (service : Option ServiceRecord) (paths : List ResolutionPath)
      → IsOne (IsPathTo said name service) paths → IsOne (IsPathTo other name service) paths
  one-weaker name service paths is = record {
    item = is.item;
    only = is.only;
    is = record {
      by = is.is.by;
      addresses = joined-weaker (IsAnswerTo said name) (IsAnswerTo other name)
          (λ kind answers. from-weaker _ _ _ (λ answer xs same. same) answers) _ _ is.is.addresses;
    };
  }

  service-weaker : (transport : Transport) (service : List (List ℕ)) (named : Option (NaptrRecord × ℕ)) (paths : List ResolutionPath)
      → ByService said transport service named paths → ByService other transport service named paths
  service-weaker transport service named paths =
      from-weaker _ _ _
      (λ answer xs. joined-weaker _ _ (λ server ys. one-weaker server.target _ ys) _ xs) paths

  rule-weaker : (life : ℕ) (rule : NaptrRecord) (paths : List ResolutionPath) → ByRule said life rule paths → ByRule other life rule paths
  rule-weaker life rule paths =
      match-weaker (service_transport rule) paths _ _ (λ transport ys. service-weaker transport rule.replacement (Some (rule, life)) ys)

  rules-weaker : (domain : List (List ℕ)) (paths : List ResolutionPath) → ByRules said domain paths → ByRules other domain paths
  rules-weaker domain paths =
      from-weaker _ _ _
      (λ answer xs. joined-weaker (ByRule said answer.life) (ByRule other answer.life) (rule-weaker answer.life) _ xs) paths

  transport-weaker : (domain : List (List ℕ)) (transport : Transport) (paths : List ResolutionPath) → ByTransport said domain transport paths
      → ByTransport other domain transport paths
  transport-weaker domain transport paths =
      match-weaker (service_at domain transport).name paths _ _ (λ service ys. service-weaker transport service None ys)

  transports-weaker : (domain : List (List ℕ)) (paths : List ResolutionPath) → ByTransports said domain paths
      → ByTransports other domain paths
  transports-weaker domain paths = joined-weaker (ByTransport said domain) (ByTransport other domain) (transport-weaker domain) _ paths

-- ---- what is said, collected

module _ (said : Saying) where
  -- this is so by a list of what was said
  abbrev Collected : (List (Question × Option AnswerValue) → Type 0) → Type 0
  Collected is = (heard : List (Question × Option AnswerValue)) × All (λ it. said it.0 it.1) heard × is heard

  -- two that are so are so by what was said for both
  both : (P Q R : List (Question × Option AnswerValue) → Type 0)
      → ((first second : List (Question × Option AnswerValue)) → P first → Q second → R (first ++ second))
      → Collected P → Collected Q → Collected R
  both P Q R join first second = (
    first.0 ++ second.0,
    All-append (λ it. said it.0 it.1) first.0 second.0 first.1 second.1,
    join first.0 second.0 first.2 second.2,
  )

  joined-collected : {X Y : Type 0} (R : Saying → X → List Y → Type 0)
      → ((some others : Saying) → ((q : Question) (f : Option AnswerValue) → some q f → others q f) → (x : X) (ys : List Y)
      → R some x ys → R others x ys)
      → ((x : X) (ys : List Y) → R said x ys → Collected (λ heard. R (by heard) x ys)) → (xs : List X) (ys : List Y)
      → Joined (R said) xs ys → Collected (λ heard. Joined (R (by heard)) xs ys)
  joined-collected R weaker each _ _ none = ([], All-nil (λ it. said it.0 it.1), none)
  joined-collected R weaker each _ _ (more {x = x} {xs = xs} {first = first} {others = others} one all) =
      both _ _ _
      (λ some rest is are. more
      (weaker (by some) (by (some ++ rest)) (λ q f. Contains-append_left some rest (q, f)) x first is)
      (joined-weaker (R (by rest)) (R (by (some ++ rest)))
      (weaker (by rest) (by (some ++ rest)) (λ q f. Contains-append_right some rest (q, f))) xs others are))
      (each x first one) (joined-collected R weaker each xs others all)

  match-collected : {X Y : Type 0} (it : Option X) (ys : List Y) (R : Saying → X → List Y → Type 0)
      → ((x : X) (ys : List Y) → R said x ys → Collected (λ heard. R (by heard) x ys))
      → MatchOption it (ys ≡ []) (λ x. R said x ys)
      → Collected (λ heard. MatchOption it (ys ≡ []) (λ x. R (by heard) x ys))
  match-collected None ys R each is = ([], All-nil (λ it. said it.0 it.1), is)
  match-collected (Some x) ys R each is = each x ys is

  from-collected : {X : Type 0} (question : Question) (R : Saying → AnswerValue → List X → Type 0)
      → ((some others : Saying) → ((q : Question) (f : Option AnswerValue) → some q f → others q f) → (answer : AnswerValue)
      (xs : List X)
      → R some answer xs → R others answer xs)
      → ((answer : AnswerValue) (xs : List X) → R said answer xs → Collected (λ heard. R (by heard) answer xs)) → (xs : List X)
      → FromAnswer said question (R said) xs → Collected (λ heard. FromAnswer (by heard) question (R (by heard)) xs)
  from-collected question R weaker each xs is =
      let more = match-collected is.found xs R each is.are in (
        (question, is.found) ∷ more.0,
        All-cons (λ it. said it.0 it.1) (question, is.found) more.0 is.was_said more.1,
        record {
          found = is.found;
          was_said = (0, omega arith, refl);
          are = match-weaker is.found xs (R (by more.0)) (R (by ((question, is.found) ∷ more.0)))
              (weaker (by more.0) (by ((question, is.found) ∷ more.0))
              (λ q f. Contains-append_right ((question, is.found) ∷ []) more.0 (q, f))) more.2;
        },
      )

  one-collected : (name : List (List ℕ)) (service : Option ServiceRecord) (paths : List ResolutionPath)
      → IsOne (IsPathTo said name service) paths → Collected (λ heard. IsOne (IsPathTo (by heard) name service) paths)
  one-collected name service paths is =
      let addresses = joined-collected (λ s kind answers. IsAnswerTo s name kind answers)
      (λ some others says kind answers. from-weaker some others says _ _ _ (λ answer xs same. same) answers)
      (λ kind answers. from-collected _ (λ s answer xs. xs ≡ answer ∷ []) (λ some others says answer xs same. same)
      (λ answer xs same. ([], All-nil (λ it. said it.0 it.1), same)) answers) _ _ is.is.addresses in (
        addresses.0,
        addresses.1,
        record { item = is.item; only = is.only; is = record { by = is.is.by; addresses = addresses.2 } },
      )

  service-collected : (transport : Transport) (service : List (List ℕ)) (named : Option (NaptrRecord × ℕ)) (paths : List ResolutionPath)
      → ByService said transport service named paths → Collected (λ heard. ByService (by heard) transport service named paths)
  service-collected transport service named paths =
      from-collected _
      (λ s answer. Joined (ByServer s transport service (option_map (λ it. it.0) named) (shared_life named answer.life))
      (servers_in answer.records))
      (λ some others says answer xs. joined-weaker _ _ (λ server ys. one-weaker some others says server.target _ ys) _ xs)
      (λ answer xs. joined-collected
      (λ s. ByServer s transport service (option_map (λ it. it.0) named) (shared_life named answer.life))
      (λ some others says server ys. one-weaker some others says server.target _ ys)
      (λ server ys. one-collected server.target _ ys) _ xs) paths

  rule-collected : (life : ℕ) (rule : NaptrRecord) (paths : List ResolutionPath) → ByRule said life rule paths
      → Collected (λ heard. ByRule (by heard) life rule paths)
  rule-collected life rule paths =
      match-collected (service_transport rule) paths (λ s transport ys. ByService s transport rule.replacement (Some (rule, life)) ys)
      (λ transport ys. service-collected transport rule.replacement (Some (rule, life)) ys)

  rules-collected : (domain : List (List ℕ)) (paths : List ResolutionPath) → ByRules said domain paths
      → Collected (λ heard. ByRules (by heard) domain paths)
  rules-collected domain paths =
      from-collected _ (λ s answer. Joined (ByRule s answer.life) (rules_in answer.records))
      (λ some others says answer xs. joined-weaker (ByRule some answer.life) (ByRule others answer.life)
      (rule-weaker some others says answer.life) _ xs)
      (λ answer xs. joined-collected (λ s. ByRule s answer.life) (λ some others says. rule-weaker some others says answer.life)
      (rule-collected answer.life) _ xs) paths

  transport-collected : (domain : List (List ℕ)) (transport : Transport) (paths : List ResolutionPath)
      → ByTransport said domain transport paths → Collected (λ heard. ByTransport (by heard) domain transport paths)
  transport-collected domain transport paths =
      match-collected (service_at domain transport).name paths (λ s service ys. ByService s transport service None ys)
      (λ service ys. service-collected transport service None ys)

  transports-collected : (domain : List (List ℕ)) (paths : List ResolutionPath) → ByTransports said domain paths
      → Collected (λ heard. ByTransports (by heard) domain paths)
  transports-collected domain paths =
      joined-collected (λ s. ByTransport s domain) (λ some others says. transport-weaker some others says domain)
      (transport-collected domain) _ paths

  services-collected : (domain : List (List ℕ)) (rules : Bool) (paths : List ResolutionPath) → ByServices said domain rules paths
      → Collected (λ heard. ByServices (by heard) domain rules paths)
  services-collected domain true paths is =
      both _ _ _
      (λ first second of also. record {
        by_rules = is.by_rules;
        by_transports = is.by_transports;
        from_rules = rules-weaker (by first) (by (first ++ second)) (λ q f. Contains-append_left first second (q, f)) domain is.by_rules of;
        from_transports = transports-weaker (by second) (by (first ++ second)) (λ q f. Contains-append_right first second (q, f)) domain
            is.by_transports also;
        order = is.order;
      })
      (rules-collected domain is.by_rules is.from_rules) (transports-collected domain is.by_transports is.from_transports)
  services-collected domain false paths is =
      let also = transports-collected domain is.by_transports is.from_transports in (
        also.0,
        also.1,
        record {
          by_rules = is.by_rules;
          by_transports = is.by_transports;
          from_rules = is.from_rules;
          from_transports = also.2;
          order = is.order;
        },
      )

  services-weaker : (some others : Saying) → ((q : Question) (f : Option AnswerValue) → some q f → others q f) → (domain : List (List ℕ))
      (rules : Bool) (paths : List ResolutionPath) → ByServices some domain rules paths → ByServices others domain rules paths
  services-weaker some others says domain true paths is = record {
    by_rules = is.by_rules;
    by_transports = is.by_transports;
    from_rules = rules-weaker some others says domain is.by_rules is.from_rules;
    from_transports = transports-weaker some others says domain is.by_transports is.from_transports;
    order = is.order;
  }
  services-weaker some others says domain false paths is = record {
    by_rules = is.by_rules;
    by_transports = is.by_transports;
    from_rules = is.from_rules;
    from_transports = transports-weaker some others says domain is.by_transports is.from_transports;
    order = is.order;
  }

  paths-collected : (domain : List (List ℕ)) (services rules : Bool) (paths : List ResolutionPath)
      → ArePaths said domain services rules paths → Collected (λ heard. ArePaths (by heard) domain services rules paths)
  paths-collected domain true rules paths is =
      both _ _ _
      (λ first second of also. record {
        by_services = is.by_services;
        own = is.own;
        from_services = services-weaker (by first) (by (first ++ second)) (λ q f. Contains-append_left first second (q, f)) domain rules
            is.by_services of;
        to_domain = one-weaker (by second) (by (first ++ second)) (λ q f. Contains-append_right first second (q, f)) domain None is.own also;
        order = is.order;
      })
      (services-collected domain rules is.by_services is.from_services) (one-collected domain None is.own is.to_domain)
  paths-collected domain false rules paths is =
      let also = one-collected domain None is.own is.to_domain in (
        also.0,
        also.1,
        record {
          by_services = is.by_services;
          own = is.own;
          from_services = is.from_services;
          to_domain = also.2;
          order = is.order;
        },
      )

  at-collected : (it : Host) (services rules : Bool) (paths : List ResolutionPath) → ArePathsAt said it services rules paths
      → Collected (λ heard. ArePathsAt (by heard) it services rules paths)
  at-collected (host.Domain domain) services rules paths is = paths-collected domain services rules paths is
  at-collected (host.V4 octets) services rules paths is = ([], All-nil (λ it. said it.0 it.1), is)
  at-collected (host.V6 octets) services rules paths is = ([], All-nil (λ it. said it.0 it.1), is)

  -- the paths of a request are so by the questions that were asked for them
  pub paths-heard : (request : Request) (paths : List ResolutionPath) → ArePathsOf said request paths → ArePathsBy said request paths
  paths-heard request paths is =
      let all = at-collected (target_of request) (is_none (port_of request)) (is_none (spoken_of request)) paths is in
      record { heard = all.0; was_said = all.1; are = all.2 }
