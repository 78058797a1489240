-- Paths from the host of a request to addresses, by answers of DNS (RFC 3263 4.1, 4.2, 5).
use Rattle.std.specs.Prelude.{◌≡◌, ℕ, min, ◌==◌, Bool, true, false, ◌&&◌, List, [], ◌∷◌, ◌++◌, map, Option, Some, None, IfSome, MatchOption, is_none, if◌then◌else◌}
use Rattle.std.specs.Arc.{arc_value}
use Rattle.std.specs.Bool.{MatchBool}
use Rattle.std.specs.List.{All, Contains, list_any}
use Rattle.std.specs.Option.{option_map}
use Rattle.std.specs.Str.{bytes_eq}
use Rattle.dns_answers.specs.Values.{AnswerValue}
use Rattle.dns_answers.specs.declared.records.Records.{Records}
use Rattle.dns_answers.specs.declared.records.Records.TheVariants as records
use Rattle.dns_message.specs.declared.kind.Kind.{Kind}
use Rattle.dns_message.specs.declared.kind.Kind.TheVariants as kind
use Rattle.dns_message.specs.declared.naptr.NaptrRecord.{NaptrRecord}
use Rattle.dns_message.specs.declared.question.Question.{Question}
use Rattle.dns_message.specs.declared.srv.SrvRecord.{SrvRecord}
use Rattle.ip_text.specs.declared.address.Address.{Address}
use Rattle.ip_text.specs.declared.address.Address.TheVariants as address
use Rattle.sip_uri.specs.Same.{same_transport}
use Rattle.sip_uri.specs.declared.host.Host.{Host}
use Rattle.sip_uri.specs.declared.host.Host.TheVariants as host
use Rattle.sip_uri.specs.declared.transport.Transport.{Transport}
use Rattle.sip_uri.specs.declared.transport.Transport.TheVariants.{Udp, Tcp, Sctp, Tls}
use Rattle.sip_selection.specs.Known.{rules_in, servers_in}
use Rattle.sip_selection.specs.Requests.{port_of, spoken_of, target_of}
use Rattle.sip_selection.specs.Rules.{service_transport}
use Rattle.sip_selection.specs.Services.{service_at}
use Rattle.sip_selection.specs.declared.request.Request.{Request}
use Rattle.sip_selection.specs.declared.target.Target.{Target}
use Rattle.resolution_paths.specs.declared.path.PathFound.{PathFound}
use Rattle.resolution_paths.specs.declared.path.ResolutionPath.{ResolutionPath}
use Rattle.resolution_paths.specs.declared.path.ServiceRecord.{ServiceRecord}
use Rattle.resolution_paths.specs.declared.paths.NamedBy.{NamedBy}

-- ---- lists

-- the lists that each of these gives, in their order, one behind the other
pub data Joined {X Y : Type 0} (gives : X → List Y → Type 0) : List X → List Y → Type 0 where
  none : Joined gives [] []
  more : {x : X} {xs : List X} {first others : List Y} → gives x first → Joined gives xs others
      → Joined gives (x ∷ xs) (first ++ others)

-- a list has one item, of which this is so
pub record IsOne {X : Type 0} (Is : X → Type 0) (xs : List X) : Type 0 where
  pub item : X
  pub only : xs ≡ item ∷ []
  pub is : Is item

-- a list has more behind what it had, of which this is so
pub record Adds {X : Type 0} (Are : List X → Type 0) (old new : List X) : Type 0 where
  pub added : List X
  pub behind : new ≡ old ++ added
  pub are : Are added

-- ---- how a service is named

-- a rule, and the life of the answer that has it
abbrev pub naming_of : NamedBy → NaptrRecord × ℕ
naming_of by = (by.rule.now, by.life)

-- the least of the lives of the answers that name a service and that have its records
abbrev pub shared_life : Option (NaptrRecord × ℕ) → ℕ → ℕ
shared_life None life = life
shared_life (Some (rule, other)) life = min other life

-- ---- the paths of a request, by what a source said when it was asked, also that it has no answer

module _ (said : Question → Option AnswerValue → Type 0) where
  -- what the answer gives that was said to a question; nothing where none was said
  pub record FromAnswer {X : Type 0} (question : Question) (gives : AnswerValue → List X → Type 0)
      (xs : List X) : Type 0 where
    pub found : Option AnswerValue
    pub was_said : said question found
    pub are : MatchOption found (xs ≡ []) (λ answer. gives answer xs)

  -- the answer to a question about a name, if one was said
  abbrev pub IsAnswerTo : List (List ℕ) → Kind → List AnswerValue → Type 0
  IsAnswerTo name kind =
      FromAnswer (record { name = name; kind = kind }) (λ answer answers. answers ≡ answer ∷ [])

  -- the answers that have the addresses of a name: to A, then to AAAA (RFC 3263 4.2)
  abbrev pub AreAddressesOf : List (List ℕ) → List AnswerValue → Type 0
  AreAddressesOf name = Joined (IsAnswerTo name) (kind.A ∷ kind.Aaaa ∷ [])

  -- a path to the addresses of a name, by an SRV record of a service, or without one
  pub record IsPathTo (name : List (List ℕ)) (service : Option ServiceRecord)
      (path : ResolutionPath) : Type 0 where
    pub by : path.service ≡ service
    pub addresses : AreAddressesOf name (map arc_value path.addresses.items)

  -- The one path by an SRV record of a service: to its target. The record is kept with the service,
  -- with the rule that names this, if one does, and with the life that their answers share
  -- (RFC 3263 4.2, RFC 2782).
  abbrev pub ByServer : Transport → List (List ℕ) → Option NaptrRecord → ℕ → SrvRecord
      → List ResolutionPath → Type 0
  ByServer transport service rule life server =
      IsOne (IsPathTo server.target (Some (record {
        transport = transport;
        service = service;
        rule = rule;
        server = server;
        life = life;
      })))

  -- The paths by a service: one by each of its SRV records, in their order. A rule may name the
  -- service; it stands beside the life of its answer (RFC 3263 4.2).
  abbrev pub ByService : Transport → List (List ℕ) → Option (NaptrRecord × ℕ)
      → List ResolutionPath → Type 0
  ByService transport service by =
      FromAnswer (record { name = service; kind = kind.Srv })
      (λ answer. Joined
      (ByServer transport service (option_map (λ it. it.0) by) (shared_life by answer.life))
      (servers_in answer.records))

  -- the paths by a NAPTR record, whose answer has this life: by the service that it names, if that
  -- is one of SIP (RFC 3263 4.1)
  abbrev pub ByRule : ℕ → NaptrRecord → List ResolutionPath → Type 0
  ByRule life rule paths =
      MatchOption (service_transport rule) (paths ≡ [])
      (λ transport. ByService transport rule.replacement (Some (rule, life)) paths)

  -- the paths by the NAPTR records of a domain, in their order (RFC 3263 4.1)
  abbrev pub ByRules : List (List ℕ) → List ResolutionPath → Type 0
  ByRules domain =
      FromAnswer (record { name = domain; kind = kind.Naptr })
      (λ answer. Joined (ByRule answer.life) (rules_in answer.records))

  -- the paths by the service of a domain that a transport alone names; a name that would be too
  -- long is none (RFC 3263 4.1)
  abbrev pub ByTransport : List (List ℕ) → Transport → List ResolutionPath → Type 0
  ByTransport domain transport paths =
      MatchOption (service_at domain transport).name (paths ≡ [])
      (λ service. ByService transport service None paths)

  -- the paths by the services that the transports alone name, one transport after the other
  -- (RFC 3263 4.1)
  abbrev pub ByTransports : List (List ℕ) → List ResolutionPath → Type 0
  ByTransports domain = Joined (ByTransport domain) (Udp ∷ Tcp ∷ Sctp ∷ Tls ∷ [])

  -- the paths by the services of a domain: first those that its NAPTR records name, where these
  -- count, then those that the transports alone name (RFC 3263 4.1)
  pub record ByServices (domain : List (List ℕ)) (rules : Bool) (paths : List ResolutionPath)
      : Type 0 where
    pub by_rules : List ResolutionPath
    pub by_transports : List ResolutionPath
    pub from_rules : MatchBool rules (ByRules domain by_rules) (by_rules ≡ [])
    pub from_transports : ByTransports domain by_transports
    pub order : paths ≡ by_rules ++ by_transports

  -- the paths of a domain: first those by its services, where these count, and last the one to its
  -- own addresses (RFC 3263 4.2)
  pub record ArePaths (domain : List (List ℕ)) (services rules : Bool)
      (paths : List ResolutionPath) : Type 0 where
    pub by_services : List ResolutionPath
    pub own : List ResolutionPath
    pub from_services : MatchBool services (ByServices domain rules by_services)
        (by_services ≡ [])
    pub to_domain : IsOne (IsPathTo domain None) own
    pub order : paths ≡ by_services ++ own

  -- the paths of a host; an address needs none
  abbrev pub ArePathsAt : Host → Bool → Bool → List ResolutionPath → Type 0
  ArePathsAt (host.Domain domain) services rules paths = ArePaths domain services rules paths
  ArePathsAt (host.V4 octets) services rules paths = paths ≡ []
  ArePathsAt (host.V6 octets) services rules paths = paths ≡ []

  -- The paths of a request, in the order in which they count: services count only where it writes
  -- no port, and NAPTR records only where it names no transport (RFC 3263 4.1, 4.2, 5).
  abbrev pub ArePathsOf : Request → List ResolutionPath → Type 0
  ArePathsOf request =
      ArePathsAt (target_of request) (is_none (port_of request)) (is_none (spoken_of request))

-- Paths are those of a request by these questions, and by what was said to each: its answer, or
-- that there is none.
pub record ArePathsBy (said : Question → Option AnswerValue → Type 0) (request : Request)
    (paths : List ResolutionPath) : Type 0 where
  pub heard : List (Question × Option AnswerValue)
  pub was_said : All (λ it. said it.0 it.1) heard
  pub are : ArePathsOf (λ question found. Contains heard (question, found)) request paths

-- ---- what one of these paths is

-- the rule that names a service, if there are both
abbrev pub rule_of : Option ServiceRecord → Option NaptrRecord
rule_of None = None
rule_of (Some it) = it.rule

-- an answer was said to a question about a name
abbrev pub IsSaidOf : (Question → Option AnswerValue → Type 0) → List (List ℕ) → AnswerValue
    → Type 0
IsSaidOf said name answer =
    (kind : Kind) × said (record { name = name; kind = kind }) (Some answer)

module _ (said : Question → Option AnswerValue → Type 0) (domain : List (List ℕ)) where
  -- a rule is one of the NAPTR records of the domain, whose answer has this life (RFC 3263 4.1)
  abbrev pub IsRuleOf : NaptrRecord × ℕ → Type 0
  IsRuleOf it =
      (answer : AnswerValue) × said (record { name = domain; kind = kind.Naptr }) (Some answer)
      × Contains (rules_in answer.records) it.0 × (answer.life ≡ it.1)

  -- The SRV records of this name are those of the domain's service by this transport: the transport
  -- alone names them, or a NAPTR record of the domain does (RFC 3263 4.1).
  abbrev pub IsNamed : Transport → List (List ℕ) → Option (NaptrRecord × ℕ) → Type 0
  IsNamed transport service None = (service_at domain transport).name ≡ Some service
  IsNamed transport service (Some it) =
      IsRuleOf it × (service_transport it.0 ≡ Some transport) × (it.0.replacement ≡ service)

  -- a record is one of a service of the domain (RFC 3263 4.2, RFC 2782)
  pub record IsServiceRecord (it : ServiceRecord) : Type 0 where
    pub by : Option (NaptrRecord × ℕ)
    pub rule : it.rule ≡ option_map (λ by. by.0) by
    pub named : IsNamed it.transport it.service by
    pub answer : AnswerValue
    pub is_said : said (record { name = it.service; kind = kind.Srv }) (Some answer)
    pub has : Contains (servers_in answer.records) it.server
    pub life : it.life ≡ shared_life by answer.life

  -- the name whose addresses a path leads to: the target of its SRV record, or the domain itself
  abbrev pub name_by : Option ServiceRecord → List (List ℕ)
  name_by None = domain
  name_by (Some it) = it.server.target

  -- A path of the domain, by a service only where services count, and by a NAPTR record only where
  -- these do: its SRV record is one of a service of the domain, and its addresses are answers about
  -- the name to which it leads.
  pub record IsPath (services rules : Bool) (path : ResolutionPath) : Type 0 where
    pub service : IfSome path.service IsServiceRecord
    pub addresses : All (λ it. IsSaidOf said (name_by path.service) (arc_value it))
        path.addresses.items
    pub by_service : IfSome path.service (λ it. services ≡ true)
    pub by_rule : IfSome (rule_of path.service) (λ it. rules ≡ true)

-- A path is one of a request: of the name that it asks for, by a service only where it writes no
-- port, and by a NAPTR record only where it names no transport (RFC 3263 4.1, 4.2, 5).
pub record IsPathOf (said : Question → Option AnswerValue → Type 0) (request : Request)
    (path : ResolutionPath) : Type 0 where
  pub name : List (List ℕ)
  pub named : target_of request ≡ host.Domain name
  pub is : IsPath said name (is_none (port_of request)) (is_none (spoken_of request)) path

-- ---- where a path leads

-- an answer has an address
abbrev pub has_address : Address → Records → Bool
has_address (address.V4 octets) (records.V4 others) = list_any (λ it. bytes_eq it octets) others
has_address (address.V6 octets) (records.V6 others) = list_any (λ it. bytes_eq it octets) others
has_address (address.V4 octets) (records.V6 others) = false
has_address (address.V6 octets) (records.V4 others) = false
has_address it (records.Srv servers) = false
has_address it (records.Naptr rules) = false

-- the life of the first of these answers that has an address
abbrev pub life_of : Address → List AnswerValue → Option ℕ
life_of it [] = None
life_of it (answer ∷ answers) =
    if has_address it answer.records then Some answer.life else life_of it answers

-- A target is one of a path's transport and port; the host itself is at whichever it is asked.
abbrev pub fits : Target → Option ServiceRecord → Bool
fits target None = true
fits target (Some it) =
    same_transport it.transport target.transport && it.server.port == target.port

-- the least of a life and that of the service, where there is one
abbrev pub least_life : Option ServiceRecord → ℕ → ℕ
least_life None life = life
least_life (Some it) life = min it.life life

-- for how many seconds the answers of a path may be kept that lead to a target, if they do
abbrev pub life_to : Target → ResolutionPath → Option ℕ
life_to target path =
    if fits target path.service
    then option_map (least_life path.service)
    (life_of target.address (map arc_value path.addresses.items))
    else None

-- a path that was found, and for how many seconds its answers may be kept
abbrev pub found_in : PathFound → ResolutionPath × ℕ
found_in it = (it.path.now, it.life)

-- the first path that leads to a target, and for how many seconds its answers may be kept
abbrev pub first_to : Target → List ResolutionPath → Option (ResolutionPath × ℕ)
first_to target [] = None
first_to target (path ∷ paths) =
    elim (life_to target path) [
      | None ↦ first_to target paths
      | Some life ↦ Some (path, life)
    ]
