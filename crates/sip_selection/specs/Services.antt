-- The services of a name, and the targets that SRV records give (RFC 3263 4.1, 4.2, RFC 2782).
use Rattle.std.specs.Prelude.{ℕ, nat_lt, Bool, true, false, List, [], ◌∷◌, length, map, codes, Option, Some, None, slice_get, Ok, if◌then◌else◌}
use Rattle.std.specs.Option.{option_map_or}
use Rattle.dns_answers.specs.Values.{AnswerValue}
use Rattle.dns_name.specs.Labels.{wire_of}
use Rattle.dns_message.specs.declared.kind.Kind.{Kind}
use Rattle.dns_message.specs.declared.kind.Kind.TheVariants as kind
use Rattle.dns_message.specs.declared.srv.SrvRecord.{SrvRecord}
use Rattle.ip_text.specs.declared.address.Address.{Address}
use Rattle.sip_uri.specs.declared.transport.Transport.{Transport}
use Rattle.sip_uri.specs.declared.transport.Transport.TheVariants.{Udp, Tcp, Sctp, Tls}
use Rattle.srv_choice.specs.Outcomes.{is_root}
use Rattle.srv_choice.specs.declared.outcome.SrvOutcome.{SrvOutcome}
use Rattle.srv_choice.specs.declared.outcome.SrvOutcome.TheVariants.{Absent, Denied, Listed}
use Rattle.sip_selection.specs.Known.{Given, Needing, after, made, joined, answer_to, servers_in}
use Rattle.sip_selection.specs.FixedOrders.{addresses_by, order_by}
use Rattle.sip_selection.specs.declared.target.Target.{Target}
use Rattle.sip_selection.specs.declared.service.Service.{Service}

-- the labels in front of a domain, by the transport of the service (RFC 3263 4.1, RFC 2782)
abbrev pub service_label : Transport → List ℕ
service_label Udp = codes "_sip"
service_label Tcp = codes "_sip"
service_label Sctp = codes "_sip"
service_label Tls = codes "_sips"

-- the label of a transport in the name of a service; that of TLS is `_tcp` (RFC 2782, RFC 3263 4.1)
abbrev pub proto_label : Transport → List ℕ
proto_label Udp = codes "_udp"
proto_label Tcp = codes "_tcp"
proto_label Sctp = codes "_sctp"
proto_label Tls = codes "_tcp"

-- a name, if it has at most 255 octets
abbrev pub fitting : List (List ℕ) → Option (List (List ℕ))
fitting name = if nat_lt 255 (length (wire_of name)) then None else Some name

-- the service of a domain by a transport, and the name of its SRV records
abbrev pub service_at : List (List ℕ) → Transport → Service
service_at domain transport =
    record {
      transport = transport;
      name =
          fitting (service_label transport ∷ proto_label transport ∷ domain);
    }

-- ---- targets

-- the target of a transport, a port and an address
abbrev pub target_at : Transport → ℕ → Address → Target
target_at transport port address = record { transport = transport; address = address; port = port }

module _ (given : List Given) (kinds : List Kind) (fixed : Bool) where
  -- the targets of a name at a port that the answer to one kind of question gives (RFC 3263 4.2)
  abbrev pub kind_targets : Transport → ℕ → List (List ℕ) → Kind → Needing (List Target)
  kind_targets transport port name kind =
      made (λ answer. map (target_at transport port) (addresses_by fixed answer.records))
      (answer_to given (record { name = name; kind = kind }))

  -- the targets of a name at a port, one kind of address after the other
  abbrev pub targets_of : Transport → ℕ → List (List ℕ) → Needing (List Target)
  targets_of transport port name = joined (kind_targets transport port name) kinds

  -- the targets of a server, at its port; the root among several servers has none
  abbrev pub server_targets : Transport → SrvRecord → Needing (List Target)
  server_targets transport server =
      if is_root server.target then Ok [] else targets_of transport server.port server.target

  -- the targets of the server at an index of the list
  abbrev pub index_targets : Transport → List SrvRecord → ℕ → Needing (List Target)
  index_targets transport servers index =
      option_map_or (server_targets transport) (slice_get servers index) (Ok [])

-- ---- a service

-- what is known of a service: nothing, that it is not offered, or its targets and the place of the
-- next random word
pub data Offer : Type 0 where
  absent : Offer
  denied : Offer
  listed : List Target → ℕ → Offer

-- a service has targets
abbrev pub is_listed : Offer → Bool
is_listed absent = false
is_listed denied = false
is_listed (listed targets next) = true

-- a service is said not to be offered
abbrev pub is_denied : Offer → Bool
is_denied absent = false
is_denied denied = true
is_denied (listed targets next) = false

-- the targets of a service, if it has any
abbrev pub offered_targets : Offer → List Target
offered_targets absent = []
offered_targets denied = []
offered_targets (listed targets next) = targets

-- the index of the next random word after a service; absent and denied services use none
abbrev pub next_word : ℕ → Offer → ℕ
next_word word absent = word
next_word word denied = word
next_word word (listed targets next) = next

module _ (given : List Given) (kinds : List Kind) (fixed : Bool) where
  -- what a service offers, by what its SRV records say of it
  abbrev pub offer_of : Transport → List SrvRecord → SrvOutcome → Needing Offer
  offer_of transport servers Absent = Ok absent
  offer_of transport servers Denied = Ok denied
  offer_of transport servers (Listed indexes next) =
      made (λ targets. listed targets next)
      (joined (index_targets given kinds fixed transport servers) indexes)

  -- what the SRV records of a service offer, ordered by the words from an index on, or in the fixed
  -- order; where it has no name, there are none
  abbrev pub offer_by : List ℕ → Transport → ℕ → AnswerValue → Needing Offer
  offer_by words transport word answer =
      offer_of transport (servers_in answer.records)
      (order_by fixed (servers_in answer.records) words word)

  -- what the service of a name offers; without a name it is absent
  abbrev pub offer_named : List ℕ → Transport → ℕ → Option (List (List ℕ)) → Needing Offer
  offer_named words transport word None = Ok absent
  offer_named words transport word (Some name) =
      after (offer_by words transport word)
      (answer_to given (record { name = name; kind = kind.Srv }))

  -- what a service offers, ordered by the words from an index on
  abbrev pub offer_along : List ℕ → Service → ℕ → Needing Offer
  offer_along words service word = offer_named words service.transport word service.name

  -- What each of these services offers, one after the other: nothing, that it is not offered, or
  -- targets. The random words go on from each service to the next.
  abbrev pub offers_along : List ℕ → List Service → ℕ → Needing (List Offer)
  offers_along words [] word = Ok []
  offers_along words (service ∷ services) word =
      after (λ offer. made
      (λ others. offer ∷ others) (offers_along words services (next_word word offer)))
      (offer_along words service word)
