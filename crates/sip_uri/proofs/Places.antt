-- Hosts are what their readers read, alone and with a port behind them.
use Rattle.std.proofs.Common.{◌≡◌, ℕ, ◌<◌, true, false, not, List, [], ◌∷◌, ◌++◌, length, drop, slice_index, Option, Some, None, refl, sym, ap, ◌∙◌, inl, inr, arith, eqb, append_assoc}
use Rattle.std.specs.List.{list_all, join_with_byte}
use Rattle.std.specs.Option.{option_map}
use Rattle.std.proofs.lemmas.Bool.{cases_Bool}
use Rattle.std.proofs.lemmas.Bool.Decides.{nat_tests}
use Rattle.std.proofs.lemmas.Option.{same_Some}
use Rattle.std.proofs.lemmas.List.{append-nil, length-append}
use Rattle.dns_name.specs.Texts.{IsDotted}
use Rattle.ip_text.specs.Parts.{before, behind}
use Rattle.ip_text.specs.Addresses.{V4Text}
use Rattle.sip_uri.specs.Hosts.{HostLabel, AreHostLabels, DomainText, HostText, is_label_octet}
use Rattle.ip_text.specs.Readers.{ipv4, ipv6}
use Rattle.sip_uri.specs.Readers.Hostnames.{is_hostname}
use Rattle.sip_uri.specs.Readers.Hosts.{plain_host, port_part, host_in_brackets, host_in_front, without_port, host}
use Rattle.sip_uri.specs.Views.{name_of}
use Rattle.sip_uri.specs.declared.host.Host.{Host}
use Rattle.sip_uri.specs.declared.host.Host.TheVariants.{V4, V6, Domain}
use Rattle.ip_text.proofs.Cutting.{lacks, back, joined, cut_back, at_first}
use Rattle.ip_text.proofs.Lists.{steps_of, mapped_from, either_of, all_weaker, all-append, all_of-append}
use Rattle.ip_text.proofs.V4Texts.{ipv4_read, ipv4_again, is_dotted_octet, ipv4_octets, some_in_ipv4}
use Rattle.ip_text.proofs.V6Texts.{ipv6_read, ipv6_again}
use Rattle.sip_uri.proofs.DomainTexts.{hostname_read, hostname_again}
use Rattle.sip_uri.proofs.HostTexts.{v4_lacks, v6_brackets}

-- ---- hostnames are no IPv4 texts

letter_in : (labels : List (List ℕ)) → AreHostLabels labels → list_all is_dotted_octet (join_with_byte 46 labels) ≡ true → ⊥
unfolding is_dotted_octet
letter_in [] are e = are
letter_in ([] ∷ []) are e = omega (arith, are.0.some)
letter_in ((x ∷ label) ∷ []) are e =
    let letter = are.1 in
    elim (cases_Bool (is_dotted_octet x)) [
      | inl is ↦ grind (arith, nat_tests, letter, is)
      | inr no' ↦ (let no : false ≡ true = rw no' at e in cc)
    ]
letter_in (label ∷ next ∷ labels) are e =
    letter_in (next ∷ labels) are.1 (all_of-append is_dotted_octet label (46 ∷ join_with_byte 46 (next ∷ labels)) e).1

dotted_letter : (labels : List (List ℕ)) (text : List ℕ) → AreHostLabels labels → IsDotted labels text
    → list_all is_dotted_octet text ≡ true → ⊥
dotted_letter labels text are (inl is) e = letter_in labels are (rw is at e)
dotted_letter labels text are (inr is) e =
    letter_in labels are (all_of-append is_dotted_octet (join_with_byte 46 labels) (46 ∷ []) (rw is at e)).0

no_address : (text : List ℕ) (name : List (List ℕ)) (o : Option (List ℕ)) → ipv4 text ≡ o → DomainText text name → ipv4 text ≡ None
no_address text name None e is = e
no_address text name (Some octets) e is =
    absurd (dotted_letter is.labels text is.are is.dotted (ipv4_octets text octets (ipv4_read text octets e)))

-- ---- the octets of hostnames

module _ (octet : ℕ) (other : is_label_octet octet ≡ false) (no_dot : eqb 46 octet ≡ false) where
  label_lacks : (label : List ℕ) → HostLabel label → lacks octet label ≡ true
  label_lacks label is = all_weaker is_label_octet (λ (x : ℕ). not (eqb x octet)) (λ x e. grind (arith, nat_tests)) label is.octets

  labels_lack : (labels : List (List ℕ)) → AreHostLabels labels → lacks octet (join_with_byte 46 labels) ≡ true
  labels_lack [] are = absurd are
  labels_lack (label ∷ []) are = label_lacks label are.0
  labels_lack (label ∷ next ∷ labels) are =
      all-append (λ (x : ℕ). not (eqb x octet)) label (46 ∷ join_with_byte 46 (next ∷ labels)) (label_lacks label are.0)
      (rw no_dot (labels_lack (next ∷ labels) are.1))

  dotted_lacks : (labels : List (List ℕ)) (text : List ℕ) → AreHostLabels labels → IsDotted labels text → lacks octet text ≡ true
  dotted_lacks labels text are (inl is) = rw is (labels_lack labels are)
  dotted_lacks labels text are (inr is) =
      rw is (all-append (λ (x : ℕ). not (eqb x octet)) (join_with_byte 46 labels) (46 ∷ []) (labels_lack labels are) (rw no_dot refl))

some_in_labels : (labels : List (List ℕ)) → AreHostLabels labels → 0 < length (join_with_byte 46 labels)
some_in_labels [] are = absurd are
some_in_labels (label ∷ []) are = are.0.some
some_in_labels (label ∷ next ∷ labels) are = omega (arith, are.0.some, length-append label (46 ∷ join_with_byte 46 (next ∷ labels)))

pub some_in_dotted : (labels : List (List ℕ)) (text : List ℕ) → AreHostLabels labels → IsDotted labels text → 0 < length text
some_in_dotted labels text are (inl is) = rw is (some_in_labels labels are)
some_in_dotted labels text are (inr is) =
    omega (arith, ap length is, length-append (join_with_byte 46 labels) (46 ∷ []), some_in_labels labels are)

-- ---- hosts without brackets

pub plain_read : (text : List ℕ) (h : Host) → plain_host text ≡ Some h → HostText text h
plain_read text h e =
    elim (either_of (option_map (λ (octets : List ℕ). V4 octets) (ipv4 text)) _ h e) [
      | inl four ↦ (let k = mapped_from (λ (octets : List ℕ). V4 octets) (ipv4 text) h four in rw (← k.2) (ipv4_read text k.0 k.1))
      | inr none ↦ elim (cases_Bool (is_hostname text)) [
        | inl is ↦ (let k : Some (Domain (name_of text)) ≡ Some h =
            rw is at none.1 in rw (← same_Some (Domain (name_of text)) h k) (hostname_read text is))
        | inr no' ↦ (let no : None ≡ Some h = rw no' at none.1 in absurd cc)
      ]
    ]

-- a host without brackets
pub record IsPlain (text : List ℕ) (h : Host) : Type 0 where
  pub some : 0 < length text
  pub no_bracket : lacks 91 text ≡ true
  pub no_colon : lacks 58 text ≡ true
  pub is : plain_host text ≡ Some h

pub plain_v4 : (text octets : List ℕ) → V4Text text octets → IsPlain text (V4 octets)
unfolding is_dotted_octet
plain_v4 text octets is = record {
  some = some_in_ipv4 text octets is;
  no_bracket = v4_lacks 91 text octets refl is;
  no_colon = v4_lacks 58 text octets refl is;
  is = rw (ipv4_again text octets is) refl;
}

pub plain_domain : (text : List ℕ) (name : List (List ℕ)) → DomainText text name → IsPlain text (Domain name)
plain_domain text name is =
    let k = hostname_again text name is in
    record {
      some = some_in_dotted is.labels text is.are is.dotted;
      no_bracket = dotted_lacks 91 refl refl is.labels text is.are is.dotted;
      no_colon = dotted_lacks 58 refl refl is.labels text is.are is.dotted;
      is = rw (no_address text name (ipv4 text) refl is, k.0, k.1) refl;
    }

pub first_no_bracket : (text rest : List ℕ) → 0 < length text → lacks 91 text ≡ true → eqb (slice_index (text ++ rest) 0) 91 ≡ false
first_no_bracket [] rest some e = absurd (omega arith)
first_no_bracket (x ∷ text) rest some e =
    elim (cases_Bool (eqb x 91)) [
      | inl is ↦ (let no : false ≡ true = rw is at e in absurd cc)
      | inr no' ↦ no'
    ]

plain_front : (text : List ℕ) (h : Host) (port : Option (List ℕ)) → IsPlain text h → host_in_front (text ++ back 58 port) ≡ Some (h, port)
plain_front text h port is =
    let k = cut_back 58 text port is.no_colon in
    rw (first_no_bracket text (back 58 port) is.some is.no_bracket) (rw (k.0, k.1) (rw is.is refl))

-- ---- a host and a port behind it

port_again : (port : Option (List ℕ)) → port_part (back 58 port) ≡ Some port
port_again None = refl
port_again (Some digits) = refl

port_read : (text : List ℕ) (port : Option (List ℕ)) → port_part text ≡ Some port → text ≡ back 58 port
port_read [] port e = ap (back 58) (same_Some None port e)
port_read (x ∷ text) port e =
    elim (cases_Bool (eqb x 58)) [
      | inl is ↦ (
          let colon : x ≡ 58 = grind (arith, nat_tests) in
          let same : Some text ≡ port = same_Some (Some text) port (rw is at e) in
          rw (← same, colon) refl)
      | inr no' ↦ (let no : None ≡ Some port = rw no' at e in absurd cc)
    ]

-- what is read of the front
pub record Placed (text : List ℕ) (h : Host) (port : Option (List ℕ)) : Type 0 where
  pub front : List ℕ
  pub is : HostText front h
  pub joined : text ≡ front ++ back 58 port

brackets_read : (text : List ℕ) (h : Host) (port : Option (List ℕ)) → host_in_brackets text ≡ Some (h, port) → Placed (91 ∷ text) h port
brackets_read text h port e =
    let after = steps_of _ (behind 93 text) (h, port) e in
    let part = steps_of _ (port_part after.0) (h, port) after.2 in
    let six = steps_of _ (ipv6 (before 93 text)) (h, port) part.2 in
    let same = same_Some (V6 six.0, part.0) (h, port) six.2 in
    let same_host : V6 six.0 ≡ h = ap (λ (p : Host × Option (List ℕ)). p.0) same in
    let same_port : part.0 ≡ port = ap (λ (p : Host × Option (List ℕ)). p.1) same in
    let cut : before 93 text ++ 93 ∷ after.0 ≡ text = rw after.1 at (joined 93 text) in
    let rest : after.0 ≡ back 58 port = port_read after.0 part.0 part.1 ∙ ap (back 58) same_port in
    record {
      front = 91 ∷ before 93 text ++ 93 ∷ [];
      is = rw (← same_host) (before 93 text, refl, ipv6_read (before 93 text) six.0 six.1);
      joined = sym (append_assoc (91 ∷ before 93 text) (93 ∷ []) (back 58 port) ∙ ap
          (λ (t : List ℕ). 91 ∷ (before 93 text ++ 93 ∷ t)) (sym rest) ∙ ap (λ (t : List ℕ). 91 ∷ t) cut);
    }

pub first_bracket : (text : List ℕ) → eqb (slice_index text 0) 91 ≡ true → text ≡ 91 ∷ drop 1 text
first_bracket [] e = absurd (let no : false ≡ true = e in cc)
first_bracket (x ∷ text) e = let is : x ≡ 91 = grind (arith, nat_tests) in rw is refl

pub front_read : (text : List ℕ) (h : Host) (port : Option (List ℕ)) → host_in_front text ≡ Some (h, port) → Placed text h port
front_read text h port e =
    elim (cases_Bool (eqb (slice_index text 0) 91)) [
      | inl is ↦ (
          let placed = brackets_read (drop 1 text) h port (rw is at e) in
          record { front = placed.front; is = placed.is; joined = first_bracket text is ∙ placed.joined })
      | inr no' ↦ (
          let k = steps_of (λ (found : Host). Some (found, behind 58 text)) (plain_host (before 58 text)) (h, port) (rw no' at e) in
          let same = same_Some (k.0, behind 58 text) (h, port) k.2 in
          let same_host : k.0 ≡ h = ap (λ (p : Host × Option (List ℕ)). p.0) same in
          let same_port : behind 58 text ≡ port = ap (λ (p : Host × Option (List ℕ)). p.1) same in
          record {
            front = before 58 text;
            is = rw same_host at (plain_read (before 58 text) k.0 k.1);
            joined = rw (← same_port) (sym (joined 58 text));
          })
    ]

pub front_again : (text : List ℕ) (h : Host) (port : Option (List ℕ)) → HostText text h
    → host_in_front (text ++ back 58 port) ≡ Some (h, port)
front_again text (V4 octets) port is = plain_front text (V4 octets) port (plain_v4 text octets is)
front_again text (Domain name) port is = plain_front text (Domain name) port (plain_domain text name is)
front_again text (V6 octets) port is =
    let inner : List ℕ = is.0 in
    let whole' : text ++ back 58 port ≡ 91 ∷ (inner ++ 93 ∷ back 58 port) =
    ap (λ (t : List ℕ). t ++ back 58 port) is.1 ∙ append_assoc (91 ∷ inner) (93 ∷ []) (back 58 port) in
    let k = at_first 93 inner (back 58 port) (v6_brackets inner octets is.2) in
    rw whole' (rw k.1 (rw (port_again port, k.0) (rw (ipv6_again inner octets is.2) refl)))

no_port : (found h : Host) (port : Option (List ℕ)) → without_port (found, port) ≡ Some h → (found ≡ h) × (port ≡ None)
no_port found h None e = (same_Some found h e, refl)
no_port found h (Some port) e = absurd cc

moved : (text front : List ℕ) (h found : Host) → text ≡ front → found ≡ h → HostText front found → HostText text h
moved text front h found e same is = rw (e, ← same) is

pub host_read : (text : List ℕ) (h : Host) → host text ≡ Some h → HostText text h
host_read text h e =
    let k = steps_of without_port (host_in_front text) h e in
    let same = no_port k.0.0 h k.0.1 k.2 in
    let placed = front_read text k.0.0 k.0.1 k.1 in
    let whole' : text ≡ placed.front =
    placed.joined ∙ ap (λ (o : Option (List ℕ)). placed.front ++ back 58 o) same.1 ∙ append-nil placed.front in
    moved text placed.front h k.0.0 whole' same.0 placed.is

pub host_again : (text : List ℕ) (h : Host) → HostText text h → host text ≡ Some h
host_again text h is =
    let k : host_in_front text ≡ Some (h, None) = rw append-nil at (front_again text h None is) in
    rw k refl
