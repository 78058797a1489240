-- What goes out for a query.
use Rattle.std.specs.Prelude.{◌≡◌, ◌⊎◌, ℕ, Bool, true, List, [], ◌∷◌, ◌++◌, drop, length, nat_le, Option, Some, None, if◌then◌else◌}
use Rattle.std.specs.Int.{to_be_bytes, w16}
use Rattle.std.specs.List.{All}
use Rattle.dns_transport.specs.CnameChains.{OpenValue}
use Rattle.dns_transport.specs.Deadlines.{IsAfter, time_over}
use Rattle.dns_transport.specs.Ends.{HasIdOver, IsAnyOf, IsOf, TransportView}
use Rattle.dns_transport.specs.Letters.{IsRespelled}
use Rattle.dns_transport.specs.QueryForms.{form_for, form_octets}
use Rattle.dns_transport.specs.declared.lookup.Lookup.{Lookup}
use Rattle.dns_transport.specs.declared.route.Route.{Route}
use Rattle.dns_transport.specs.declared.server.Server.{Server}
use Rattle.dns_transport.specs.declared.query_form.QueryForm.{QueryForm}
use Rattle.dns_transport.specs.declared.exchange.Exchange.{Exchange}
use Rattle.dns_transport.specs.declared.reply_times.ReplyTimes.{ReplyTimes}
use Rattle.dns_transport.specs.declared.server_wire.WireOptions.{WireOptions}

-- a message with another id in its first two octets (RFC 1035 4.1.1); what has fewer stays
abbrev pub with_id : ℕ → List ℕ → List ℕ
with_id id message =
    if nat_le 2 (length message) then to_be_bytes w16 id ++ drop 2 message else message

-- the octets that go out for what is asked, in a form and with an id of their own
abbrev pub sent_octets : QueryForm → ℕ → List ℕ → List ℕ
sent_octets form id asked = with_id id (form_octets form asked)

-- what is asked where a chain is open, if one is
abbrev pub asked_along : List ℕ → Option OpenValue → List ℕ
asked_along query None = query
asked_along query (Some chain) = chain.follow_up_query

-- what is asked for a query of the caller: what asks its chain on, or the query itself
abbrev pub asked_by : Lookup → List ℕ
asked_by lookup = asked_along lookup.query.items lookup.chain

-- the way to a server
abbrev pub way_to : Server → Bool → Route
way_to server over_tcp = record { server = server.address; over_tcp = over_tcp }

-- the octets that go out to a server, but for the cases of their letters
abbrev pub octets_to : Server → QueryForm → ℕ → Lookup → List ℕ
octets_to server form id lookup =
    sent_octets (form_for form (Some server)) id (asked_by lookup)

-- A query goes out for one of the caller, with these octets and this way, behind those that are
-- out. Its reply is waited for as long as the times say for this way.
pub record GoesOut (shows : ℕ → Type 0) (times : ReplyTimes) (number : ℕ) (octets : List ℕ)
    (way : Route) (old new : List Exchange) : Type 0 where
  pub exchange : Exchange
  pub out : new ≡ old ++ exchange ∷ []
  pub number_is : exchange.query.number ≡ number
  pub octets_are : exchange.query.octets.items ≡ octets
  pub way_is : exchange.query.route ≡ way
  pub waits : IsAfter shows (time_over times way.over_tcp) exchange.query.deadline

-- A server is asked: what is asked goes to it over TCP, or else over UDP, in the form for it, with
-- an id that no query has which is out the same way (RFC 5452 9.2). Over UDP the letters of the
-- name may have other cases, unless a server changes them.
pub record Asks {S : Type 0} (sends : S → List ℕ → Route → S → Type 0) (shows : ℕ → Type 0)
    (lookup : Lookup) (over_tcp : Bool) (options : WireOptions) (server : Server)
    (old new : TransportView S) : Type 0 where
  pub id : ℕ
  pub free : All (λ it. HasIdOver (way_to server over_tcp) id it → ⊥) old.exchanges
  pub octets : List ℕ
  pub respelled : IsRespelled (length (asked_by lookup))
      (octets_to server options.form id lookup) octets
  pub plain : (over_tcp ≡ true) ⊎ (lookup.is_plain ≡ true)
      → octets ≡ octets_to server options.form id lookup
  pub out : GoesOut shows options.reply_times lookup.number octets (way_to server over_tcp)
      old.exchanges new.exchanges
  pub sent : sends old.system octets (way_to server over_tcp) new.system

-- A server was asked, or what is asked is out over TCP to it already.
abbrev pub HasAsked : {S : Type 0} → (S → List ℕ → Route → S → Type 0) → (ℕ → Type 0) → Lookup
    → Bool → WireOptions → Option Server → TransportView S → TransportView S → Type 0
HasAsked sends shows lookup over_tcp options None old new = ⊥
HasAsked sends shows lookup over_tcp options (Some server) old new =
    Asks sends shows lookup over_tcp options server old new
    ⊎ ((over_tcp ≡ true) × IsAnyOf (IsOf lookup.number (way_to server true)) old.exchanges true)
