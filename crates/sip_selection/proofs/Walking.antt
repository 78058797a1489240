-- What is left of the services, from one to the next.
use Rattle.std.proofs.Common.{◌≡◌, ℕ, ◌+◌, ◌<◌, Bool, true, false, List, ◌∷◌, ◌++◌, drop, get_or, length, Some, Result, Ok, Err, IfOk, refl, sym, ap, ◌∙◌, append_assoc, ◌⊎◌, inl, inr, ◌≤◌, ◌*◌, arith}
use Rattle.std.specs.List.{flat_map}
use Rattle.std.proofs.lemmas.List.{drop_more}
use Rattle.dns_answers.specs.Values.{AnswerValue}
use Rattle.dns_message.specs.declared.kind.Kind.TheVariants as kind
use Rattle.dns_message.specs.declared.question.Question.{Question}
use Rattle.dns_message.specs.declared.srv.SrvRecord.{SrvRecord}
use Rattle.sip_uri.specs.declared.transport.Transport.{Transport}
use Rattle.srv_choice.specs.declared.outcome.SrvOutcome.{SrvOutcome}
use Rattle.srv_choice.specs.declared.outcome.SrvOutcome.TheVariants.{Absent, Denied, Listed}
use Rattle.sip_selection.specs.Callers.{kinds_of}
use Rattle.sip_selection.specs.Choice.{Settled}
use Rattle.sip_selection.specs.Known.{Given, Needing, after, made, joined, answer_to, servers_in}
use Rattle.sip_selection.specs.FixedOrders.{order_by}
use Rattle.sip_selection.specs.Services.{Offer, absent, denied, listed, offered_targets, next_word, index_targets, offer_by, offer_along, offers_along}
use Rattle.sip_selection.specs.Stages.{Extends, behind, ended, position_left, offer_left, servers_left, listing_left, servers_first, Walks}
use Rattle.sip_selection.specs.declared.caps.Caps.{Caps}
use Rattle.sip_selection.specs.declared.reason.Reason.{Reason}
use Rattle.sip_selection.specs.declared.stage.Context.{Context}
use Rattle.sip_selection.specs.declared.stage.Cursor.{Cursor}
use Rattle.sip_selection.specs.declared.stage.Listing.{Listing}
use Rattle.sip_selection.specs.declared.stage.ServiceStep.{ServiceStep}
use Rattle.sip_selection.specs.declared.stage.Position.{Position}
use Rattle.sip_selection.specs.declared.target.Target.{Target}
use Rattle.sip_selection.specs.declared.service.Service.{Service}
use Rattle.sip_selection.proofs.Needings.{after-made, after-after, after-each}
use Rattle.sip_selection.proofs.Reaching.{all-left}

module _ (caps : Caps) (words : List ℕ) (name : List (List ℕ)) (all : List Given) (services : List Service)
    (fallback : Result Transport Reason) where
  -- ---- one offer more

  listed-by : (position : Position) (found targets : List Target) (indexes : List ℕ) (next : ℕ) (others : List Offer) (any : Bool)
      → position.is_listed ≡ any
      → ended caps name all fallback position found (listed targets next ∷ others)
      ≡ ended caps name all fallback (behind position (Listed indexes next)) (found ++ targets) others
  listed-by position found targets indexes next others true e =
      rw e (ap (λ (l : List Target). Ok (Ok l)) (sym (append_assoc found targets (flat_map offered_targets others))))
  listed-by position found targets indexes next others false e =
      rw e (ap (λ (l : List Target). Ok (Ok l)) (sym (append_assoc found targets (flat_map offered_targets others))))

  module _ (position : Position) (found : List Target) where
    abbrev rest : ℕ → Needing (List Offer)
    rest word = offers_along all (kinds_of caps.families) caps.is_fixed words (drop (position.service + 1) services) word

    listed-left : (indexes : List ℕ) (next : ℕ) (targets : List Target)
        → offer_left caps words name all services fallback position found (Ok (listed targets next))
        ≡ position_left caps words name all services fallback (behind position (Listed indexes next)) (found ++ targets)
    listed-left indexes next targets =
        after-made (ended caps name all fallback position found) (λ others. listed targets next ∷ others) (rest next)
        ∙ after-each (λ others. ended caps name all fallback position found (listed targets next ∷ others))
        (ended caps name all fallback (behind position (Listed indexes next)) (found ++ targets))
        (λ others. listed-by position found targets indexes next others position.is_listed refl) (rest next)

    -- ---- what SRV records offer

    module _ (transport : Transport) (answer : AnswerValue) where
      abbrev servers : List SrvRecord
      servers = servers_in answer.records

      abbrev targets-of : List ℕ → Needing (List Target)
      targets-of indexes = joined (index_targets all (kinds_of caps.families) caps.is_fixed transport servers) indexes

      pub answer-listed : (indexes : List ℕ) (next : ℕ) → order_by caps.is_fixed servers words position.word ≡ Listed indexes next
          → offer_left caps words name all services fallback position found
          (offer_by all (kinds_of caps.families) caps.is_fixed words transport position.word answer)
          ≡ after (λ more. position_left caps words name all services fallback (behind position (Listed indexes next)) (found ++ more))
          (servers_left caps all transport servers indexes (record { server = 0; kind = 0 }))
      answer-listed indexes next is = rw (is, all-left caps transport servers all indexes)
          (after-made (λ offer. offer_left caps words name all services fallback position found (Ok offer))
          (λ targets. listed targets next) (targets-of indexes)
          ∙ after-each (λ targets. offer_left caps words name all services fallback position found (Ok (listed targets next)))
          (λ more. position_left caps words name all services fallback (behind position (Listed indexes next)) (found ++ more))
          (listed-left indexes next) (targets-of indexes))

    denied-by : (others : List Offer) (any : Bool) → position.is_denied ≡ any
        → ended caps name all fallback position found (denied ∷ others)
        ≡ ended caps name all fallback (behind position Denied) found others
    denied-by others true e = rw e refl
    denied-by others false e = rw e refl

    -- ---- what SRV records offer that list nothing

    module _ (transport : Transport) (answer : AnswerValue) where
      abbrev offered : Needing Offer
      offered = offer_by all (kinds_of caps.families) caps.is_fixed words transport position.word answer

      absent-left : order_by caps.is_fixed (servers_in answer.records) words position.word ≡ Absent
          → offer_left caps words name all services fallback position found offered
          ≡ position_left caps words name all services fallback (behind position Absent) found
      absent-left is = rw is (after-made (ended caps name all fallback position found) (λ others. absent ∷ others) (rest position.word)
          ∙ after-each (λ others. ended caps name all fallback position found (absent ∷ others))
          (ended caps name all fallback (behind position Absent) found) (λ others. refl) (rest position.word))

      denied-left : order_by caps.is_fixed (servers_in answer.records) words position.word ≡ Denied
          → offer_left caps words name all services fallback position found offered
          ≡ position_left caps words name all services fallback (behind position Denied) found
      denied-left is = rw is (after-made (ended caps name all fallback position found) (λ others. denied ∷ others) (rest position.word)
          ∙ after-each (λ others. ended caps name all fallback position found (denied ∷ others))
          (ended caps name all fallback (behind position Denied) found) (λ others. denied-by others position.is_denied refl)
          (rest position.word))

      pub answer-unlisted : (outcome : SrvOutcome) → (outcome ≡ Absent) ⊎ (outcome ≡ Denied)
          → outcome ≡ order_by caps.is_fixed (servers_in answer.records) words position.word
          → offer_left caps words name all services fallback position found offered
          ≡ position_left caps words name all services fallback (behind position outcome) found
      answer-unlisted outcome which is = elim which [
        | inl e ↦ rw e (absent-left (sym is ∙ e))
        | inr e ↦ rw e (denied-left (sym is ∙ e))
      ]

    -- ---- the next service

    pub service-left : (service : Service) → drop position.service services ≡ service ∷ drop (position.service + 1) services
        → position_left caps words name all services fallback position found
        ≡ offer_left caps words name all services fallback position found
        (offer_along all (kinds_of caps.families) caps.is_fixed words service position.word)
    service-left service there = rw there (after-after (ended caps name all fallback position found)
        (λ offer. made (λ others. offer ∷ others) (rest (next_word position.word offer)))
        (offer_along all (kinds_of caps.families) caps.is_fixed words service position.word))

    pub named-left : (service : Service) (owner : List (List ℕ)) → service.name ≡ Some owner → drop position.service services
        ≡ service ∷ drop (position.service + 1) services
        → (answer : AnswerValue) → answer_to all (record { name = owner; kind = kind.Srv }) ≡ Ok answer
        → position_left caps words name all services fallback position found
        ≡ offer_left caps words name all services fallback position found
        (offer_by all (kinds_of caps.families) caps.is_fixed words service.transport position.word answer)
    named-left service owner named there answer known = service-left service there ∙ rw (named, known) refl

-- ---- the servers of a service, and then the other services

module _ (caps : Caps) (words : List ℕ) (name : List (List ℕ)) (services : List Service) (listing : Listing) (position : Position)
    (before found : List Target) where
  pub listing-done : (from : Cursor) (all : List Given) → listing_left caps all listing from ≡ Ok found
      → (fallback : Result Transport Reason) (front : List Target)
      → servers_first caps words name all services fallback listing from position (front ++ before)
      ≡ position_left caps words name all services fallback position (front ++ (before ++ found))
  listing-done from all is fallback front =
      rw is (ap (position_left caps words name all services fallback position) (append_assoc front before found))

  pub listing-more : (from cursor : Cursor) (all : List Given)
      → listing_left caps all listing from ≡ made (λ more. found ++ more) (listing_left caps all listing cursor)
      → (fallback : Result Transport Reason) (front : List Target)
      → servers_first caps words name all services fallback listing from position (front ++ before)
      ≡ servers_first caps words name all services fallback listing cursor position (front ++ (before ++ found))
  listing-more from cursor all is fallback front = ap (after (on (front ++ before))) is
      ∙ after-made (on (front ++ before)) (λ more. found ++ more) (listing_left caps all listing cursor)
      ∙ after-each (λ more. on (front ++ before) (found ++ more)) (on (front ++ (before ++ found)))
      (λ more. ap (position_left caps words name all services fallback position) (sym (append_assoc (front ++ before) found more)
      ∙ ap (λ (l : List Target). l ++ more) (append_assoc front before found))) (listing_left caps all listing cursor)
    where
      on : List Target → List Target → Needing Settled
      on targets more = position_left caps words name all services fallback position (targets ++ more)

pub listing-asks : (caps : Caps) (words : List ℕ) (name : List (List ℕ)) (given : List Given) (services : List Service)
    (fallback : Result Transport Reason) (listing : Listing) (cursor : Cursor) (position : Position) (found : List Target)
    (question : Question) → listing_left caps given listing cursor ≡ Err question
    → servers_first caps words name given services fallback listing cursor position found ≡ Err question
listing-asks caps words name given services fallback listing cursor position found question is = rw is refl

-- ---- where a question is asked

-- of the servers that an answer lists
pub answer-asks : (caps : Caps) (words : List ℕ) (all : List Given) (transport : Transport) (answer : AnswerValue) (word : ℕ)
    (indexes : List ℕ) (next : ℕ) → order_by caps.is_fixed (servers_in answer.records) words word ≡ Listed indexes next
    → (question : Question)
    → servers_left caps all transport (servers_in answer.records) indexes (record { server = 0; kind = 0 }) ≡ Err question
    → offer_by all (kinds_of caps.families) caps.is_fixed words transport word answer ≡ Err question
answer-asks caps words all transport answer word indexes next is question unknown =
    rw is (ap (made (λ targets. listed targets next))
    (sym (all-left caps transport (servers_in answer.records) all indexes) ∙ unknown))

-- of the next service
pub service-asks : (caps : Caps) (words : List ℕ) (name : List (List ℕ)) (all : List Given) (services : List Service)
    (fallback : Result Transport Reason) (position : Position) (found : List Target) (service : Service)
    → drop position.service services ≡ service ∷ drop (position.service + 1) services
    → (question : Question) → offer_along all (kinds_of caps.families) caps.is_fixed words service position.word ≡ Err question
    → position_left caps words name all services fallback position found ≡ Err question
service-asks caps words name all services fallback position found service there question unknown =
    service-left caps words name all services fallback position found service there ∙ rw unknown refl

-- ---- a service that lists nothing

pub goes-on-unlisted : (position : Position) (outcome : SrvOutcome) → (outcome ≡ Absent) ⊎ (outcome ≡ Denied)
    → (behind position outcome).service ≡ position.service + 1
goes-on-unlisted position outcome which = elim which [
  | inl e ↦ rw e refl
  | inr e ↦ rw e refl
]

pub fits-unlisted : (position : Position) (outcome : SrvOutcome) → (outcome ≡ Absent) ⊎ (outcome ≡ Denied)
    → position.word ≤ 32 * position.service
    → (behind position outcome).word ≤ 32 * (behind position outcome).service
fits-unlisted position outcome which few = elim which [
  | inl e ↦ rw e (omega arith)
  | inr e ↦ rw e (omega arith)
]

-- ---- how far it comes

pub ok-each : {X E : Type 0} (P Q : X → Type 0) → ((x : X) → P x → Q x) → (result : Result X E) → IfOk result P → IfOk result Q
ok-each P Q each (Ok x) is = each x is
ok-each P Q each (Err e) is = tt

-- the same of two things that hold
pub ok-both : {X E : Type 0} (P Q R : X → Type 0) → ((x : X) → P x → Q x → R x) → (result : Result X E) → IfOk result P
    → IfOk result Q → IfOk result R
ok-both P Q R each (Ok x) first second = each x first second
ok-both P Q R each (Err e) first second = tt

abbrev pub AlongLeft : Type 0
AlongLeft = List Given → Result Transport Reason → List Target → Needing Settled

-- what is left the same, leads as far
pub walks-too : {Source Seat : Type 0} (context : Context Source Seat) (given : List Given) (services : List Service)
    (left left' : AlongLeft) (to : ServiceStep) (before now : List Target)
    → ((all : List Given) → Extends given all → (fallback : Result Transport Reason) (found : List Target)
    → left' all fallback found ≡ left all fallback found)
    → Walks context given services left to before now → Walks context given services left' to before now
walks-too context given services left left' to before now same walks = λ fallback front. (
  λ all extends. same all extends fallback (front ++ before) ∙ (walks fallback front).0 all extends,
  (walks fallback front).1,
)

pub next-service : (services : List Service) (position : Position) (at : ℕ) (service : Service) → position.service ≡ at
    → at < length services → service ≡ get_or services at service
    → drop position.service services ≡ service ∷ drop (position.service + 1) services
next-service services position at service here within is = rw here (drop_more services at service within ∙ ap
    (λ (w : Service). w ∷ drop (at + 1) services) (sym is))

-- what leads to the first service, and then the others
pub walks-then : {Source Seat : Type 0} (context : Context Source Seat) (given : List Given) (services : List Service)
    (left left' : AlongLeft) (to : ServiceStep) (before between now : List Target)
    → ((fallback : Result Transport Reason) (front : List Target) (all : List Given) → Extends given all
    → left' all fallback (front ++ before) ≡ left all fallback (front ++ between))
    → Walks context given services left to between now → Walks context given services left' to before now
walks-then context given services left left' to before between now first walks = λ fallback front. (
  λ all extends. first fallback front all extends ∙ (walks fallback front).0 all extends,
  (walks fallback front).1,
)
