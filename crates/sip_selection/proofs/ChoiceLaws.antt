-- What holds of each place where a request goes.
use Rattle.std.proofs.Common.{◌≡◌, ℕ, Bool, true, false, if◌then◌else◌, List, [], ◌∷◌, map, Option, None, Result, Ok, Err, IsTrue, All, Contains, refl, sym, subst, ap, ◌∙◌}
use Rattle.std.specs.Bool.{⊤}
use Rattle.std.proofs.lemmas.List.Elements.{All-filter, All-weaker}
use Rattle.dns_message.specs.declared.kind.Kind.TheVariants as kind
use Rattle.dns_message.specs.declared.question.Question.{Question}
use Rattle.sip_uri.specs.declared.host.Host.{Host}
use Rattle.sip_uri.specs.declared.host.Host.TheVariants as host
use Rattle.ip_text.specs.declared.address.Address.{Address}
use Rattle.ip_text.specs.declared.address.Address.TheVariants as address
use Rattle.sip_uri.specs.declared.transport.Transport.{Transport}
use Rattle.sip_uri.specs.declared.transport.Transport.TheVariants.{Tls}
use Rattle.sip_uri.specs.Same.{same_transport}
use Rattle.sip_selection.specs.Callers.{kinds_of, offers, sized}
use Rattle.sip_selection.specs.Choice.{targets, need, resolved, offered, is_tried, to_address, locate}
use Rattle.sip_selection.specs.Known.{Given, find_answer}
use Rattle.sip_selection.specs.Requests.{target_of, port_of, spoken_of, is_secure, meant_by, transport_of, default_transport}
use Rattle.sip_selection.specs.Rules.{is_usable}
use Rattle.sip_selection.specs.declared.caps.Caps.{Caps}
use Rattle.sip_selection.specs.declared.reason.Reason.{Reason}
use Rattle.sip_selection.specs.declared.reason.Reason.TheVariants as reason
use Rattle.sip_selection.specs.declared.request.Request.{Request}
use Rattle.sip_selection.specs.declared.target.Target.{Target}
use Rattle.sip_selection.proofs.Outcomes.{AllOver, Resolves, Missing, Sound, all_over, all_sound}
use Rattle.sip_selection.proofs.Sources.{IsAnswered}
use Rattle.std.proofs.lemmas.Bool.{and_parts}
use Rattle.sip_selection.proofs.Services.{filter-all, own_offered, secure_means_tls, tls_alone}

module _ (request : Request) (caps : Caps) (words : List ℕ) (given : List Given) where
  targets-of : (Q : List Target → Type 0) (R : Question → Type 0) (found : List Target) → locate request caps words given ≡ targets found
      → Resolves Q R (locate request caps words given) → Q found
  targets-of Q R found is holds = subst (Resolves Q R) is holds

  question-of : (Q : List Target → Type 0) (R : Question → Type 0) (question : Question) → locate request caps words given ≡ need question
      → Resolves Q R (locate request caps words given) → R question
  question-of Q R question is holds = subst (Resolves Q R) is holds

  -- ---- transports

  offered-by : (meant transport : Transport) (b : Bool) → offers caps meant ≡ b
      → (if b then Ok meant else Err reason.TransportUnsupported) ≡ Ok transport
      → (meant ≡ transport) × (offers caps transport ≡ true)
  offered-by meant transport true e is = let same : meant ≡ transport = cc in (same, subst (λ it. offers caps it ≡ true) same e)
  offered-by meant transport false e is = absurd cc

  -- a transport is that of what is meant, or in place of it, and one of the caller's
  record IsOffered (meant : Result Transport Reason) (transport : Transport) : Type 0 where
    it : Transport
    is : meant ≡ Ok it
    size : sized caps.is_large it ≡ transport
    offered : offers caps transport ≡ true

  offered-is : (meant : Result Transport Reason) (transport : Transport) → offered caps meant ≡ Ok transport
      → IsOffered meant transport
  offered-is (Ok it) transport is =
      let k = offered-by (sized caps.is_large it) transport (offers caps (sized caps.is_large it)) refl is in
      record { it = it; is = refl; size = k.0; offered = k.1 }
  offered-is (Err reason) transport is = absurd cc

  offered-over : AllOver request caps words given (λ transport. offers caps transport ≡ true)
  offered-over = record {
    by_rule = λ transport is. (and_parts (offers caps transport) _ is).0;
    own = All-filter (is_tried (is_secure request)) (λ transport. offers caps transport ≡ true) caps.transports
        (own_offered caps);
    meant = λ transport is. (offered-is (transport_of request) transport is).offered;
    usually = λ transport is. (offered-is (Ok (default_transport (is_secure request))) transport is).offered;
  }

  pub offered_all : (found : List Target) → locate request caps words given ≡ targets found
      → All (λ it. IsTrue (offers caps it.transport)) found
  offered_all found is =
      targets-of (All (λ it. offers caps it.transport ≡ true))
      (Missing request caps words given (λ transport. offers caps transport ≡ true)) found is
      (all_over request caps words given (λ transport. offers caps transport ≡ true) offered-over)

  module _ (secure : is_secure request ≡ true) where
    ruled-tls : (transport : Transport) → is_usable (is_secure request) caps transport ≡ true → transport ≡ Tls
    ruled-tls transport is =
        let tls : (if is_secure request then same_transport transport Tls else true) ≡ true = (and_parts (offers caps transport) _ is).1 in
        let here : same_transport transport Tls ≡ true = rw secure at tls in
        tls_alone transport here

    tried-tls : (transport : Transport) → is_tried (is_secure request) transport ≡ true → transport ≡ Tls
    tried-tls transport is =
        let here : same_transport transport Tls ≡ true = rw secure at is in
        tls_alone transport here

    meant-tls : (transport : Transport) → transport_of request ≡ Ok transport → transport ≡ Tls
    meant-tls transport is = secure_means_tls (spoken_of request) transport (ap (λ b. meant_by b (spoken_of request)) (sym secure) ∙ is)

    offered_default-tls : (transport : Transport) → meant_by (is_secure request) None ≡ Ok transport → transport ≡ Tls
    offered_default-tls transport is = secure_means_tls None transport (ap (λ b. meant_by b None) (sym secure) ∙ is)

    sized-tls : (large : Bool) → sized large Tls ≡ Tls
    sized-tls false = refl
    sized-tls true = refl

    tls-of : (meant : Result Transport Reason) (transport : Transport) → ((it : Transport) → meant ≡ Ok it → it ≡ Tls)
        → offered caps meant ≡ Ok transport → transport ≡ Tls
    tls-of meant transport means is =
        let k = offered-is meant transport is in
        sym k.size ∙ ap (sized caps.is_large) (means k.it k.is) ∙ sized-tls caps.is_large

    tls-over : AllOver request caps words given (λ transport. transport ≡ Tls)
    tls-over = record {
      by_rule = ruled-tls;
      own = filter-all (λ transport. transport ≡ Tls) (is_tried (is_secure request)) tried-tls caps.transports;
      meant = λ transport is. tls-of (transport_of request) transport meant-tls is;
      usually = λ transport is. tls-of (Ok (default_transport (is_secure request))) transport offered_default-tls is;
    }

    pub tls_all : (found : List Target) → locate request caps words given ≡ targets found → All (λ it. it.transport ≡ Tls) found
    tls_all found is =
        targets-of (All (λ it. it.transport ≡ Tls)) (Missing request caps words given (λ transport. transport ≡ Tls)) found is
        (all_over request caps words given (λ transport. transport ≡ Tls) tls-over)

  -- ---- addresses and questions

  any-over : AllOver request caps words given (λ transport. ⊤)
  any-over = record {
    by_rule = λ transport is. tt;
    own = λ i d lt. tt;
    meant = λ transport is. tt;
    usually = λ transport is. tt;
  }

  pub answered_all : (name : List (List ℕ)) → target_of request ≡ host.Domain name → (found : List Target)
      → locate request caps words given ≡ targets found
      → All (λ it. IsAnswered given (kinds_of caps.families) it.address) found
  answered_all name named found is =
      All-weaker (Sound request caps words given (λ transport. ⊤)) (λ it. IsAnswered given (kinds_of caps.families) it.address)
      (λ it sound. sound.1) found
      (targets-of (All (Sound request caps words given (λ transport. ⊤))) (Missing request caps words given (λ transport. ⊤)) found is
      (all_sound request caps words given (λ transport. ⊤) any-over name named))

  pub missing_is : (question : Question) → locate request caps words given ≡ need question
      → (find_answer given question ≡ None) × Contains (kind.Naptr ∷ kind.Srv ∷ kinds_of caps.families) question.kind
  missing_is question is =
      question-of (All (λ it. ⊤)) (Missing request caps words given (λ transport. ⊤)) question is
      (all_over request caps words given (λ transport. ⊤) any-over)

  -- ---- numeric targets

  abbrev IsAlone : Address → List Target → Type 0
  IsAlone address found = map (λ (it : Target). it.address) found ≡ address ∷ []

  alone : (address : Address) (port : Option ℕ) (transport : Result Transport Reason)
      → Resolves (IsAlone address) (λ question. ⊥) (resolved (to_address address port transport))
  alone address port (Ok transport) = refl
  alone address port (Err reason) = tt

  pub v4_alone : (octets : List ℕ) → target_of request ≡ host.V4 octets
      → Resolves (IsAlone (address.V4 octets)) (λ question. ⊥) (locate request caps words given)
  v4_alone octets is = rw is (alone (address.V4 octets) (port_of request) (offered caps (transport_of request)))

  pub v6_alone : (octets : List ℕ) → target_of request ≡ host.V6 octets
      → Resolves (IsAlone (address.V6 octets)) (λ question. ⊥) (locate request caps words given)
  v6_alone octets is = rw is (alone (address.V6 octets) (port_of request) (offered caps (transport_of request)))

  pub v4_only : (octets : List ℕ) → target_of request ≡ host.V4 octets → (found : List Target)
      → locate request caps words given ≡ targets found → IsAlone (address.V4 octets) found
  v4_only octets is found e = targets-of (IsAlone (address.V4 octets)) (λ question. ⊥) found e (v4_alone octets is)

  pub v6_only : (octets : List ℕ) → target_of request ≡ host.V6 octets → (found : List Target)
      → locate request caps words given ≡ targets found → IsAlone (address.V6 octets) found
  v6_only octets is found e = targets-of (IsAlone (address.V6 octets)) (λ question. ⊥) found e (v6_alone octets is)

  asks-nothing : (target : Host) → target_of request ≡ target → ((name : List (List ℕ)) → target ≡ host.Domain name → ⊥)
      → (question : Question) → locate request caps words given ≡ need question → ⊥
  asks-nothing (host.V4 octets) is numeric question e = question-of (IsAlone (address.V4 octets)) (λ question. ⊥) question e
      (v4_alone octets is)
  asks-nothing (host.V6 octets) is numeric question e = question-of (IsAlone (address.V6 octets)) (λ question. ⊥) question e
      (v6_alone octets is)
  asks-nothing (host.Domain name) is numeric question e = absurd (numeric name refl)

  pub nothing_asked : ((name : List (List ℕ)) → target_of request ≡ host.Domain name → ⊥) → (question : Question)
      → locate request caps words given ≡ need question → ⊥
  nothing_asked numeric question e = asks-nothing (target_of request) refl numeric question e
