-- A text spells a URI exactly where its reader reads that URI.
use Rattle.std.proofs.Common.{◌≡◌, ℕ, ◌≤◌, Bool, true, false, not, List, ◌∷◌, ◌++◌, length, Option, Some, None, Result, Ok, Err, refl, sym, ap, ◌∙◌, inl, inr, eqb, append_assoc}
use Rattle.std.specs.Char.{is_ascii_digit}
use Rattle.ip_text.specs.Parts.{before, behind}
use Rattle.sip_uri.specs.Uris.{params_text, headers_text, UriText, HasScheme}
use Rattle.sip_uri.specs.Readers.Uris.{is_secure, both, behind_scheme, behind_user, place_of, said_by, check_headers, uri_parts}
use Rattle.sip_uri.specs.declared.host.Host.{Host}
use Rattle.sip_uri.specs.declared.transport.Spoken.{Spoken}
use Rattle.sip_uri.specs.declared.uri.SipUri.{SipUri}
use Rattle.sip_uri.specs.declared.refusal.UriRefusal.{UriRefusal}
use Rattle.sip_uri.specs.declared.refusal.UriRefusal.TheVariants.{BadScheme}
use Rattle.ip_text.proofs.Cutting.{lacks, joined, cut_back}
use Rattle.ip_text.proofs.Lists.{all-append, same_Ok}
use Rattle.sip_uri.proofs.HostOctets.{is_host_octet}
use Rattle.sip_uri.proofs.Faults.{IsOfOctets, of_octets, uri_fault, or_fault}
use Rattle.sip_uri.proofs.ParamBlocks.{ParamsRead, said_read, said_again, block_of, block_text, block_lacks}
use Rattle.sip_uri.proofs.UriPieces.{bind_of, SchemeRead, scheme_read, scheme_again, UserRead, behind_user_read, user_again, PlaceRead, place_read, place_again, host_lacks, port_lacks}
use Rattle.sip_uri.proofs.UriHeaders.{HeadersRead, check_read, check_again, headers_of, headers_back, headers_no_at}

-- ---- what is read is spelled

-- the pieces that were read, of which the text is made
record Pieces (text : List ℕ) (uri : SipUri) : Type 0 where
  rest : List ℕ
  scheme : SchemeRead text uri.secure rest
  left : List ℕ
  user : UserRead rest left
  place : PlaceRead (before 59 (before 63 left)) uri.host uri.port
  params : ParamsRead (behind 59 (before 63 left)) uri.transport uri.maddr
  headers : HeadersRead (behind 63 left)

pieces_of : (text : List ℕ) (secure : Bool) (rest left : List ℕ) (h : Host) (port : Option ℕ) (transport : Option Spoken)
    (maddr : Option Host) (uri : SipUri)
    → behind_scheme text ≡ Ok (secure, rest) → behind_user rest ≡ Ok left → place_of (before 59 (before 63 left)) ≡ Ok (h, port)
    → said_by (behind 59 (before 63 left)) ≡ Ok (transport, maddr)
    → check_headers (behind 63 left) ≡ Ok tt → record { secure = secure; host = h; port = port; transport = transport; maddr = maddr } ≡ uri
    → Pieces text uri
pieces_of text secure rest left h port transport maddr uri one two three four five same =
    rw (← same) (record {
      rest = rest;
      scheme = scheme_read text secure rest one;
      left = left;
      user = behind_user_read rest left two;
      place = place_read (before 59 (before 63 left)) h port three;
      params = said_read (behind 59 (before 63 left)) transport maddr four;
      headers = check_read (behind 63 left) five;
    })

read_pieces : (text : List ℕ) (uri : SipUri) → uri_parts text ≡ Ok uri → Pieces text uri
unfolding uri_parts
read_pieces text uri e =
    let front = bind_of _ (behind_scheme text) uri e in
    let rest = bind_of _ (behind_user front.0.1) uri front.2 in
    let place = bind_of _ (place_of (before 59 (before 63 rest.0))) uri rest.2 in
    let by = bind_of _ (said_by (behind 59 (before 63 rest.0))) uri place.2 in
    let none = bind_of _ (check_headers (behind 63 rest.0)) uri by.2 in
    let same = same_Ok _ uri none.2 in
    pieces_of text front.0.0 front.0.1 rest.0 place.0.0 place.0.1 by.0.0 by.0.1 uri front.1 rest.1 place.1 by.1 none.1 same

spelled : (text : List ℕ) (uri : SipUri) → length text ≤ 1024 → Pieces text uri → UriText text uri
spelled text uri short p =
    let left : List ℕ = p.left in
    let front : List ℕ = before 63 left in
    -- the parameters and the headers
    let cut : (front ++ headers_text p.headers.headers) ≡ left = ap (λ (t : List ℕ). front ++ t) (sym p.headers.text_is) ∙ joined 63 left in
    let cut' : (before 59 front ++ params_text p.params.params) ≡ front =
    ap (λ (t : List ℕ). before 59 front ++ t) (sym p.params.text) ∙ joined 59 front in
    let end : List ℕ = p.place.end in
    let placed : before 59 front ≡ p.place.front ++ end = p.place.text_is in
    let whole : left ≡ p.place.front ++ (end ++ (params_text p.params.params ++ headers_text p.headers.headers)) =
    sym cut ∙ ap (λ (t : List ℕ). t ++ headers_text p.headers.headers)
    (sym cut' ∙ ap (λ (t : List ℕ). t ++ params_text p.params.params) placed)
    ∙ append_assoc (p.place.front ++ end) (params_text p.params.params) (headers_text p.headers.headers)
    ∙ append_assoc p.place.front end (params_text p.params.params ++ headers_text p.headers.headers) in
    record {
      scheme = p.scheme.scheme;
      user = p.user.user;
      host = p.place.front;
      port = end;
      params = p.params.params;
      headers = p.headers.headers;
      joined = p.scheme.text_is ∙ ap
          (λ (t : List ℕ). p.scheme.scheme ++ 58 ∷ t) (p.user.text_is ∙ ap (λ (t : List ℕ). p.user.user ++ t) whole);
      short = short;
      is_scheme = p.scheme.is;
      is_user = p.user.is;
      is_host = p.place.is;
      is_port = p.place.port_is;
      are_params = p.params.are;
      apart = p.params.apart;
      transport = p.params.transport_is;
      maddr = p.params.maddr_is;
      are_headers = p.headers.are;
    }

pub uri_read : (text : List ℕ) (uri : SipUri) → length text ≤ 1024 → uri_parts text ≡ Ok uri → UriText text uri
uri_read text uri short e = spelled text uri short (read_pieces text uri e)

-- ---- what is spelled is read

module _ (text : List ℕ) (uri : SipUri) (is : UriText text uri) where
  place_text : List ℕ
  place_text = is.host ++ is.port

  front_text : List ℕ
  front_text = place_text ++ params_text is.params

  left_text : List ℕ
  left_text = front_text ++ headers_text is.headers

  place_lacks : (octet : ℕ) → is_host_octet octet ≡ false → eqb 58 octet ≡ false → is_ascii_digit octet ≡ false
      → lacks octet place_text ≡ true
  unfolding place_text
  place_lacks octet other colon digit =
      all-append (λ (x : ℕ). not (eqb x octet)) is.host is.port (host_lacks octet other is.host uri.host is.is_host)
      (port_lacks octet colon digit is.port uri.port is.is_port)

  front_lacks_63 : lacks 63 front_text ≡ true
  unfolding front_text is_host_octet
  front_lacks_63 =
      all-append (λ (x : ℕ). not (eqb x 63)) place_text (params_text is.params) (place_lacks 63 refl refl refl)
      (block_lacks 63 refl refl refl refl refl is.params is.are_params)

  left_lacks_64 : lacks 64 left_text ≡ true
  unfolding left_text front_text is_host_octet
  left_lacks_64 =
      all-append (λ (x : ℕ). not (eqb x 64)) front_text (headers_text is.headers)
      (all-append (λ (x : ℕ). not (eqb x 64)) place_text (params_text is.params) (place_lacks 64 refl refl refl)
      (block_lacks 64 refl refl refl refl refl is.params is.are_params))
      (headers_no_at is.headers is.are_headers)

  cut_headers : (before 63 left_text ≡ front_text) × (behind 63 left_text ≡ headers_of is.headers)
  unfolding left_text
  cut_headers = rw headers_back (cut_back 63 front_text (headers_of is.headers) front_lacks_63)

  cut_params : (before 59 front_text ≡ place_text) × (behind 59 front_text ≡ block_of is.params)
  unfolding front_text is_host_octet
  cut_params = rw block_text (cut_back 59 place_text (block_of is.params) (place_lacks 59 refl refl refl))

  whole_text : text ≡ is.scheme ++ 58 ∷ (is.user ++ left_text)
  unfolding left_text front_text place_text
  whole_text =
      is.joined ∙ ap
      (λ (t : List ℕ). is.scheme ++ 58 ∷ (is.user ++ t))
      (sym (append_assoc (place_text) (params_text is.params) (headers_text is.headers) ∙ append_assoc is.host is.port
      (params_text is.params ++ headers_text is.headers)))

  at_place : place_of place_text ≡ Ok (uri.host, uri.port)
  unfolding place_text
  at_place = place_again is.host is.port uri.host uri.port is.is_host is.is_port

  pub uri_again : uri_parts text ≡ Ok uri
  unfolding uri_parts
  uri_again =
      let one = scheme_again is.scheme uri.secure (is.user ++ left_text) is.is_scheme in
      let two = user_again left_text left_lacks_64 is.user is.is_user in
      let three : place_of place_text ≡ Ok (uri.host, uri.port) = at_place in
      let four = said_again is.params uri.transport uri.maddr is.are_params is.apart is.transport is.maddr in
      let five = check_again is.headers is.are_headers in
      ap uri_parts whole_text ∙ rw one
      (rw two (rw (cut_headers.0, cut_headers.1) (rw (cut_params.0, cut_params.1) (rw three (rw four (rw five refl))))))

-- ---- where its scheme is bad

scheme_fault : (text : List ℕ) (fault : UriRefusal) → behind_scheme text ≡ Err fault → BadScheme ≡ fault
unfolding behind_scheme
scheme_fault text fault e = or_fault (both (is_secure (before 58 text)) (behind 58 text)) BadScheme fault e

pub uri_octets : (text : List ℕ) (fault : UriRefusal) → uri_parts text ≡ Err fault → IsOfOctets fault
uri_octets text fault e =
    elim (uri_fault text fault e) [
      | inl front ↦ rw (← scheme_fault text fault front) tt
      | inr later ↦ of_octets fault later
    ]

pub bad_scheme : (text : List ℕ) → uri_parts text ≡ Err BadScheme → HasScheme text → ⊥
bad_scheme text e has =
    elim (uri_fault text BadScheme e) [
      | inl front ↦ (
          let again = scheme_again has.scheme has.secure has.rest has.is_scheme in
          let no : ◌≡◌ {A = Result (Bool × List ℕ) UriRefusal} (Err BadScheme) (Ok (has.secure, has.rest)) =
          sym front ∙ ap behind_scheme has.joined ∙ again in
          cc)
      | inr later ↦ later
    ]

scheme_lacks : (text : List ℕ) → (HasScheme text → ⊥) → (o : Option (Bool × List ℕ))
    → both (is_secure (before 58 text)) (behind 58 text) ≡ o → behind_scheme text ≡ Err BadScheme
unfolding behind_scheme
scheme_lacks text none None is = rw is refl
scheme_lacks text none (Some found) is =
    let read = scheme_read text found.0 found.1 (rw is refl) in
    absurd (none (record { scheme = read.scheme; rest = found.1; secure = found.0; joined = read.text_is; is_scheme = read.is }))

pub bad_scheme_again : (text : List ℕ) → (HasScheme text → ⊥) → uri_parts text ≡ Err BadScheme
unfolding uri_parts
bad_scheme_again text none = rw (scheme_lacks text none (both (is_secure (before 58 text)) (behind 58 text)) refl) refl
