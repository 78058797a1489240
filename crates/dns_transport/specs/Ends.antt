-- What the end of a query says.
use Rattle.std.specs.Prelude.{◌≡◌, ℕ, ◌≤◌, ◌<◌, ◌==◌, ⊤, Bool, true, false, not, List, length, take}
use Rattle.std.specs.List.{All, HoldsAt, filter, remove}
use Rattle.dns_transport.specs.Replies.{IsReplyInOtherLetters, IsReplyTo}
use Rattle.dns_transport.specs.WireTries.{id_of}
use Rattle.dns_transport.specs.declared.route.Route.{Route}
use Rattle.dns_transport.specs.declared.exchange.Exchange.{Exchange}
use Rattle.dns_transport.specs.declared.query.Query.{Query}
use Rattle.dns_transport.specs.declared.query.End.{End}
use Rattle.dns_transport.specs.declared.query.Outcome.{Outcome}
use Rattle.dns_transport.specs.declared.query.Outcome.TheVariants.{Reply, OtherLetters, Silent, Failed}
use Rattle.dns_transport.specs.declared.link.Step.{Step}
use Rattle.dns_transport.specs.declared.link.Step.TheVariants as step

-- what holds of the octets of a message that came at a step
abbrev pub IfMessage : Step → (List ℕ → Type 0) → Type 0
IfMessage step.Waits holds = ⊤
IfMessage step.More holds = ⊤
IfMessage (step.Message octets) holds = holds octets.items
IfMessage step.Failed holds = ⊤

-- a query is out over the link of this key
abbrev pub at_key : ℕ → Exchange → Bool
at_key key exchange = exchange.key == key

-- a query has this number
abbrev pub has_number : ℕ → Exchange → Bool
has_number number exchange = exchange.query.number == number

-- the queries of other numbers
abbrev pub without_number : ℕ → List Exchange → List Exchange
without_number number exchanges = filter (λ it. not (has_number number it)) exchanges

-- the header and the question of a query
abbrev pub front_of : Query → List ℕ
front_of query = take query.front query.octets.items

-- whether something holds of one of these
abbrev pub IsAnyOf : {X : Type 0} → (X → Type 0) → List X → Bool → Type 0
IsAnyOf holds xs true = (at : ℕ) × (at < length xs) × HoldsAt holds xs at
IsAnyOf holds xs false = All (λ it. holds it → ⊥) xs

-- a query has this number, and goes over this route
pub record IsOf (number : ℕ) (route : Route) (exchange : Exchange) : Type 0 where
  pub numbered : exchange.query.number ≡ number
  pub goes : exchange.query.route ≡ route

-- a query has this id, and goes over this route
pub record HasIdOver (route : Route) (id : ℕ) (exchange : Exchange) : Type 0 where
  pub goes : exchange.query.route ≡ route
  pub has : id_of exchange.query.octets.items ≡ id

-- A message that came over the link of a key, from where a route goes, is a reply to a query: this
-- one is out over that link, went that way, and is answered by these octets (RFC 5452 9.1).
pub record IsAnswered (key : ℕ) (route : Route) (message : List ℕ) (exchange : Exchange) : Type 0
  where
    pub over : exchange.key ≡ key
    pub goes : exchange.query.route ≡ route
    pub replies : IsReplyTo (front_of exchange.query) message

-- A message that came so would be a reply to a query, but for the letters that were drawn for its
-- name: its server may change letters.
pub record IsAnsweredInOtherLetters (key : ℕ) (route : Route) (message : List ℕ)
    (exchange : Exchange) : Type 0
  where
    pub over : exchange.key ≡ key
    pub goes : exchange.query.route ≡ route
    pub drawn : exchange.query.has_drawn_letters ≡ true
    pub replies : IsReplyInOtherLetters (front_of exchange.query) message

-- a message came from where a query went, which would be a reply to it but for its letters
pub record HeardOtherLetters (hears : Route → List ℕ → Type 0) (query : Query) : Type 0 where
  pub drawn : query.has_drawn_letters ≡ true
  pub message : List ℕ
  pub heard : hears query.route message
  pub replies : IsReplyInOtherLetters (front_of query) message

-- what a transport has: the system, and the queries that are out
pub record TransportView (S : Type 0) : Type 0 where
  pub system : S
  pub exchanges : List Exchange

-- the query at a place ended, and is out no more
pub record EndsAt (old new : List Exchange) (end : End) (at : ℕ) : Type 0 where
  pub inside : at < length old
  pub gone : new ≡ remove old at
  pub query : HoldsAt (λ it. end.query ≡ it.query) old at

-- What may be told of a query. A reply came from where the query went, over the transport that it
-- went over, and is one to its octets. It is silent where a time is shown that is not before its
-- deadline.
abbrev pub IsToldOf : (Route → List ℕ → Type 0) → (ℕ → Type 0) → End → Outcome → Type 0
IsToldOf hears shows end (Reply message) =
    hears end.query.route message.items × IsReplyTo (front_of end.query) message.items
IsToldOf hears shows end OtherLetters = HeardOtherLetters hears end.query
IsToldOf hears shows end Silent = (now : ℕ) × shows now × end.query.deadline ≤ now
IsToldOf hears shows end Failed = ⊤

-- one of the queries that were out ended, and what is told of it may be
pub record EndsOne (hears : Route → List ℕ → Type 0) (shows : ℕ → Type 0)
    (old new : List Exchange) (end : End) : Type 0 where
  pub at : ℕ
  pub ends : EndsAt old new end at
  pub told : IsToldOf hears shows end end.outcome
