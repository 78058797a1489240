-- The host and the port of a Via are what their readers read.
use Rattle.std.proofs.Common.{◌≡◌, ℕ, ◌<◌, true, false, List, [], ◌∷◌, ◌++◌, length, drop, slice_index, Option, Some, None, Ok, refl, sym, ap, ◌∙◌, inl, inr, arith, eqb, append_assoc}
use Rattle.std.specs.List.{list_all}
use Rattle.std.specs.Option.{option_map}
use Rattle.std.specs.Char.{is_ascii_digit}
use Rattle.std.proofs.lemmas.Bool.{cases_Bool}
use Rattle.std.proofs.lemmas.Bool.Decides.{nat_tests}
use Rattle.std.proofs.lemmas.Option.{same_Some}
use Rattle.ip_text.specs.Parts.{before, behind}
use Rattle.ip_text.specs.Addresses.{V6Text}
use Rattle.sip_uri.specs.Hosts.{HostText}
use Rattle.ip_text.specs.Readers.{ipv6}
use Rattle.sip_uri.specs.Readers.Hosts.{plain_host}
use Rattle.sip_uri.specs.Readers.Uris.{port_number}
use Rattle.sip_uri.specs.ViaClasses.{is_blank, is_in_host, is_in_port, row, behind_row}
use Rattle.sip_uri.specs.Readers.Vias.{behind_mark}
use Rattle.sip_uri.specs.Readers.ViaFronts.{closed_host, host_in_brackets, via_host, port_in, via_port}
use Rattle.sip_uri.specs.Vias.{ViaPort}
use Rattle.sip_uri.specs.declared.host.Host.{Host}
use Rattle.sip_uri.specs.declared.host.Host.TheVariants.{V4, V6, Domain}
use Rattle.sip_uri.specs.declared.refusal.UriRefusal.TheVariants.{BadPort}
use Rattle.ip_text.proofs.Cutting.{lacks, joined, at_first}
use Rattle.ip_text.proofs.Lists.{steps_of, mapped_from, all_weaker, same_Ok}
use Rattle.ip_text.proofs.V4Texts.{some_in_ipv4}
use Rattle.ip_text.proofs.V6Texts.{ipv6_read, ipv6_again}
use Rattle.sip_uri.proofs.HostOctets.{is_host_octet}
use Rattle.sip_uri.proofs.HostTexts.{host_octets, v6_brackets}
use Rattle.sip_uri.proofs.Places.{plain_read, some_in_dotted, IsPlain, plain_v4, plain_domain, first_no_bracket, first_bracket}
use Rattle.sip_uri.proofs.UriPieces.{number_read, number_again, from_ok_or}
use Rattle.sip_uri.proofs.ViaRows.{Ends, row_and, row_again, mark_read, mark_again, begins_apart}
use Rattle.sip_uri.proofs.ViaSteps.{Follows, rest_ends, blanks_end, no_mark_follows}

host_at : (text : List ℕ) (a b : Host) → a ≡ b → HostText text a → HostText text b
host_at text a b e is = rw e at is

port_at : (text : List ℕ) (a b : Option ℕ) → a ≡ b → ViaPort text a → ViaPort text b
port_at text a b e is = rw e at is

-- ---- the host

pub record ViaHostRead (text : List ℕ) (h : Host) (rest : List ℕ) : Type 0 where
  pub host : List ℕ
  pub is : HostText host h
  pub text_is : text ≡ host ++ rest

closed_read : (after class : List ℕ) (o : Option (List ℕ)) (h : Host) (rest : List ℕ) → closed_host after class o ≡ Some (h, rest)
    → (octets : List ℕ) × (o ≡ Some octets) × (V6 octets ≡ h) × (after ≡ rest)
closed_read after (x ∷ class) o h rest e = absurd cc
closed_read after [] None h rest e = absurd cc
closed_read after [] (Some octets) h rest e =
    let same = same_Some (V6 octets, after) (h, rest) e in
    (octets, refl, ap (λ (p : Host × List ℕ). p.0) same, ap (λ (p : Host × List ℕ). p.1) same)

brackets_read : (text : List ℕ) (h : Host) (rest : List ℕ) → host_in_brackets text ≡ Some (h, rest) → ViaHostRead (91 ∷ text) h rest
unfolding host_in_brackets
brackets_read text h rest e =
    let after = steps_of (λ (a : List ℕ). closed_host a (row is_in_host a) (ipv6 (before 93 text))) (behind 93 text) (h, rest) e in
    let k = closed_read after.0 (row is_in_host after.0) (ipv6 (before 93 text)) h rest after.2 in
    let cut : before 93 text ++ 93 ∷ after.0 ≡ text = rw after.1 at (joined 93 text) in
    record {
      host = 91 ∷ before 93 text ++ 93 ∷ [];
      is = host_at (91 ∷ before 93 text ++ 93 ∷ []) (V6 k.0) h k.2 (before 93 text, refl, ipv6_read (before 93 text) k.0 k.1);
      text_is = sym
          (append_assoc (91 ∷ before 93 text) (93 ∷ []) rest ∙ ap (λ (t : List ℕ). 91 ∷ (before 93 text ++ 93 ∷ t)) (sym k.3) ∙ ap
          (λ (t : List ℕ). 91 ∷ t) cut);
    }

pub via_host_read : (text : List ℕ) (h : Host) (rest : List ℕ) → via_host text ≡ Some (h, rest) → ViaHostRead text h rest
unfolding via_host
via_host_read text h rest e =
    elim (cases_Bool (eqb (slice_index text 0) 91)) [
      | inl is ↦ (
          let k = brackets_read (drop 1 text) h rest (rw is at e) in
          record { host = k.host; is = k.is; text_is = first_bracket text is ∙ k.text_is })
      | inr no' ↦ (
          let k = mapped_from
          (λ (found : Host). (found, behind_row is_in_host text)) (plain_host (row is_in_host text)) (h, rest) (rw no' at e) in
          let h' = ap (λ (p : Host × List ℕ). p.0) k.2 in
          let r' = ap (λ (p : Host × List ℕ). p.1) k.2 in
          record {
            host = row is_in_host text;
            is = host_at (row is_in_host text) k.0 h h' (plain_read (row is_in_host text) k.0 k.1);
            text_is = sym (row_and is_in_host text) ∙ ap (λ (t : List ℕ). row is_in_host text ++ t) r';
          })
    ]

-- in a host without a colon stands nothing that ends it
in_host : (text : List ℕ) → list_all is_host_octet text ≡ true → lacks 58 text ≡ true → list_all is_in_host text ≡ true
unfolding is_host_octet
in_host [] e e' = refl
in_host (x ∷ text) e e' =
    elim (cases_Bool (is_host_octet x)) [
      | inl is ↦ elim (cases_Bool (eqb x 58)) [
        | inl colon ↦ (let no : false ≡ true = rw colon at e' in absurd cc)
        | inr other ↦
            (let good : is_in_host x ≡ true = grind (arith, nat_tests, is, other) in rw good (in_host text (rw is at e) (rw other at e')))
      ]
      | inr bad ↦ (let no : false ≡ true = rw bad at e in absurd cc)
    ]

plain_via : (text : List ℕ) (h : Host) (rest : List ℕ) → HostText text h → IsPlain text h → Ends is_in_host rest
    → via_host (text ++ rest) ≡ Some (h, rest)
unfolding via_host
plain_via text h rest is plain ends =
    let k = row_again is_in_host text rest (in_host text (host_octets text h is) plain.no_colon) ends in
    rw (first_no_bracket text rest plain.some plain.no_bracket) (rw (k.0, k.1) (rw plain.is refl))

bracket_via : (inner octets rest : List ℕ) → V6Text inner octets → Ends is_in_host rest
    → host_in_brackets (inner ++ 93 ∷ rest) ≡ Some (V6 octets, rest)
unfolding host_in_brackets
bracket_via inner octets rest is ends =
    let k = at_first 93 inner rest (v6_brackets inner octets is) in
    let none = (row_again is_in_host [] rest refl ends).0 in
    rw k.1 (rw (none, k.0) (rw (ipv6_again inner octets is) refl))

pub via_host_again : (text : List ℕ) (h : Host) (rest : List ℕ) → HostText text h → Ends is_in_host rest
    → via_host (text ++ rest) ≡ Some (h, rest)
unfolding via_host
via_host_again text (V4 octets) rest is ends = plain_via text (V4 octets) rest is (plain_v4 text octets is) ends
via_host_again text (Domain name) rest is ends = plain_via text (Domain name) rest is (plain_domain text name is) ends
via_host_again text (V6 octets) rest is ends =
    let whole : text ++ rest ≡ 91 ∷ (is.0 ++ 93 ∷ rest) = ap (λ (t : List ℕ). t ++ rest) is.1 ∙ append_assoc (91 ∷ is.0) (93 ∷ []) rest in
    rw whole (bracket_via is.0 octets rest is.2 ends)

pub some_in_host : (text : List ℕ) (h : Host) → HostText text h → 0 < length text
some_in_host text (V4 octets) is = some_in_ipv4 text octets is
some_in_host text (Domain name) is = some_in_dotted is.labels text is.are is.dotted
some_in_host text (V6 octets) is = omega (arith, ap length is.1)

-- ---- the port

pub record ViaPortRead (text : List ℕ) (port : Option ℕ) (rest : List ℕ) : Type 0 where
  pub written : List ℕ
  pub is : ViaPort written port
  pub text_is : text ≡ written ++ rest

port_read : (text : List ℕ) (o : Option (List ℕ)) (port : Option ℕ) (rest : List ℕ) → behind_mark 58 text ≡ o
    → port_in text o ≡ Ok (port, rest) → ViaPortRead text port rest
port_read text None port rest e read =
    let same = same_Ok (None, text) (port, rest) read in
    record {
      written = [];
      is = port_at [] None port (ap (λ (p : Option ℕ × List ℕ). p.0) same) refl;
      text_is =
          ap (λ (p : Option ℕ × List ℕ). p.1) same;
    }
port_read text (Some digits) port rest e read =
    let found = from_ok_or (option_map (λ (p : ℕ). (Some p, behind_row is_in_port digits)) (port_number (row is_in_port digits))) BadPort
    (port, rest) read in
    let k = mapped_from (λ (p : ℕ). (Some p, behind_row is_in_port digits)) (port_number (row is_in_port digits)) (port, rest) found in
    let mark = mark_read 58 text digits e in
    let written : List ℕ = mark.front ++ 58 ∷ (mark.behind ++ row is_in_port digits) in
    let cut : digits ≡ row is_in_port digits ++ rest =
    sym (row_and is_in_port digits) ∙ ap (λ (t : List ℕ). row is_in_port digits ++ t) (ap (λ (p : Option ℕ × List ℕ). p.1) k.2) in
    record {
      written = written;
      is = port_at written (Some k.0) port (ap (λ (p : Option ℕ × List ℕ). p.0) k.2) (
        mark.front,
        mark.behind,
        row is_in_port digits,
        mark.front_blank,
        mark.behind_blank,
        number_read (row is_in_port digits) k.0 k.1,
        refl,
      );
      text_is = mark.joined ∙ ap (λ (t : List ℕ). mark.front ++ 58 ∷ (mark.behind ++ t)) cut ∙ ap
          (λ (t : List ℕ). mark.front ++ 58 ∷ t) (sym (append_assoc mark.behind (row is_in_port digits) rest)) ∙ sym
          (append_assoc mark.front (58 ∷ (mark.behind ++ row is_in_port digits)) rest);
    }

pub via_port_read : (text : List ℕ) (port : Option ℕ) (rest : List ℕ) → via_port text ≡ Ok (port, rest) → ViaPortRead text port rest
unfolding via_port
via_port_read text port rest e = port_read text (behind_mark 58 text) port rest refl e

pub via_port_again : (text : List ℕ) (port : Option ℕ) (rest : List ℕ) → ViaPort text port → Follows rest
    → via_port (text ++ rest) ≡ Ok (port, rest)
unfolding via_port
via_port_again text None rest is f = rw is (rw (no_mark_follows 58 refl rest f) refl)
via_port_again text (Some port) rest (front, behind', digits, front_blank, behind_blank, number, e) f =
    let whole : text ++ rest ≡ front ++ 58 ∷ (behind' ++ (digits ++ rest)) =
    ap (λ (t : List ℕ). t ++ rest) e ∙ append_assoc front (58 ∷ (behind' ++ digits)) rest ∙ ap
    (λ (t : List ℕ). front ++ 58 ∷ t) (append_assoc behind' digits rest) in
    let starts = begins_apart is_ascii_digit is_blank (λ x e. grind (arith, nat_tests, e)) digits rest number.some number.digits in
    let mark = mark_again 58 refl front behind' (digits ++ rest) front_blank behind_blank starts in
    let in_port = all_weaker is_ascii_digit is_in_port (λ x e. grind (arith, nat_tests, e)) digits number.digits in
    let k = row_again is_in_port digits rest in_port (rest_ends is_in_port refl (λ x e. grind (arith, nat_tests, e)) rest f) in
    rw whole (rw mark (rw (k.0, k.1) (rw (number_again digits port number) refl)))

-- what may follow a host
pub port_follows : (text : List ℕ) (port : Option ℕ) (rest : List ℕ) → ViaPort text port → Follows rest → Ends is_in_host (text ++ rest)
port_follows text None rest is f = rw is (rest_ends is_in_host refl (λ x e. grind (arith, nat_tests, e)) rest f)
port_follows text (Some port) rest is f =
    let whole : text ++ rest ≡ is.0 ++ 58 ∷ ((is.1 ++ is.2) ++ rest) =
    ap (λ (t : List ℕ). t ++ rest) is.6 ∙ append_assoc is.0 (58 ∷ (is.1 ++ is.2)) rest in
    rw whole (blanks_end is_in_host refl (λ x e. grind (arith, nat_tests, e)) is.0 (58 ∷ ((is.1 ++ is.2) ++ rest)) is.3 refl)
