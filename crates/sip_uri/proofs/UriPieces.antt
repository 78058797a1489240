-- The pieces of a URI are what their readers read.
use Rattle.std.proofs.Common.{◌≡◌, ℕ, zero, suc, ◌<◌, ◌≤◌, Bool, true, false, not, List, [], ◌∷◌, ◌++◌, Option, Some, None, Result, Ok, Err, refl, sym, ap, ◌∙◌, inl, inr, arith, eqb, append_assoc}
use Rattle.std.specs.Option.{option_map, ok_or}
use Rattle.std.specs.Char.{is_ascii_digit, to_ascii_lowercase}
use Rattle.std.proofs.lemmas.Bool.{cases_Bool}
use Rattle.std.proofs.lemmas.Bool.Decides.{nat_tests}
use Rattle.std.proofs.lemmas.Option.{same_Some}
use Rattle.std.proofs.lemmas.List.{append-nil}
use Rattle.dns_name.specs.Labels.{small_letters}
use Rattle.ip_text.specs.Numbers.{decimal, decimal_within}
use Rattle.ip_text.specs.Parts.{before, behind}
use Rattle.sip_uri.specs.Classes.{is_user_octet, is_password_octet}
use Rattle.sip_uri.specs.Hosts.{HostText}
use Rattle.sip_uri.specs.Readers.Runs.{is_some_run}
use Rattle.sip_uri.specs.Uris.{IsSomeRun, SchemeText, UserText, nobody, alone, with_password, PortNumber, PortText}
use Rattle.sip_uri.specs.Readers.Hosts.{host_in_front}
use Rattle.sip_uri.specs.Readers.Params.{is_same}
use Rattle.sip_uri.specs.Readers.Uris.{is_password, is_userinfo, is_secure, both, behind_scheme, without_user, behind_user, from_one, port_number, port_of, place_of}
use Rattle.sip_uri.specs.Readers.Uris as reader
use Rattle.sip_uri.specs.declared.host.Host.{Host}
use Rattle.sip_uri.specs.declared.refusal.UriRefusal.{UriRefusal}
use Rattle.sip_uri.specs.declared.refusal.UriRefusal.TheVariants.{BadScheme, BadUser, BadHost, BadPort}
use Rattle.ip_text.proofs.Cutting.{lacks, back, joined, cut_back, at_first}
use Rattle.ip_text.proofs.Cutting as cutting
use Rattle.ip_text.proofs.Lists.{steps_of, all_weaker, all-append, same_Ok}
use Rattle.sip_uri.proofs.RunTexts.{run_read, run_again, some_read, some_again, run_lacks}
use Rattle.sip_uri.proofs.DomainTexts.{both_of}
use Rattle.sip_uri.proofs.HostOctets.{is_host_octet}
use Rattle.sip_uri.proofs.HostTexts.{host_octets}
use Rattle.sip_uri.proofs.Places.{front_read, front_again}
use Rattle.sip_uri.proofs.ParamTexts.{same_names, names_same, names_other}

pub bind_of : {A B : Type 0} (f : A → Result B UriRefusal) (r : Result A UriRefusal) (y : B) → reader.◌>>=◌ r f ≡ Ok y → (x : A)
    × (r ≡ Ok x) × (f x ≡ Ok y)
bind_of f (Ok x) y e = (x, refl, e)
bind_of f (Err fault) y e = absurd cc

pub from_ok_or : {A : Type 0} (o : Option A) (fault : UriRefusal) (x : A) → ok_or o fault ≡ Ok x → o ≡ Some x
from_ok_or None fault x e = absurd cc
from_ok_or (Some y) fault x e = ap (λ (z : _). Some z) (same_Ok y x e)

-- ---- the scheme

lower_lacks : (text : List ℕ) → lacks 58 (small_letters text) ≡ true → lacks 58 text ≡ true
lower_lacks [] e = refl
lower_lacks (x ∷ text) e =
    elim (cases_Bool (eqb (to_ascii_lowercase x) 58)) [
      | inl is ↦ (let no : false ≡ true = rw is at e in absurd cc)
      | inr no' ↦ (let other : eqb x 58 ≡ false = grind (arith, nat_tests) in rw other (lower_lacks text (rw no' at e)))
    ]

scheme_lacks : (text : List ℕ) (secure : Bool) → SchemeText text secure → lacks 58 text ≡ true
scheme_lacks text false is = lower_lacks text (rw is refl)
scheme_lacks text true is = lower_lacks text (rw is refl)

abbrev sip : List ℕ
sip = 115 ∷ 105 ∷ 112 ∷ []

abbrev sips : List ℕ
sips = 115 ∷ 105 ∷ 112 ∷ 115 ∷ []

secure_read : (text : List ℕ) (secure : Bool) → is_secure text ≡ Some secure → SchemeText text secure
secure_read text secure e =
    elim (cases_Bool (is_same text sip)) [
      | inl is ↦ (let k : false ≡ secure = same_Some false secure (rw is at e) in rw (← k) (same_names text sip is))
      | inr no' ↦ elim (cases_Bool (is_same text sips)) [
        | inl is ↦ (let k : true ≡ secure = same_Some true secure (rw (no', is) at e) in rw (← k) (same_names text sips is))
        | inr no'' ↦ (let no : None ≡ Some secure = rw (no', no'') at e in absurd cc)
      ]
    ]

secure_again : (text : List ℕ) (secure : Bool) → SchemeText text secure → is_secure text ≡ Some secure
secure_again text false is = rw (names_same text sip is) refl
secure_again text true is =
    let other : is_same text sip ≡ false =
    names_other text sip
    (λ same. let no : ◌≡◌ {A = List ℕ} (115 ∷ 105 ∷ 112 ∷ 115 ∷ []) (115 ∷ 105 ∷ 112 ∷ []) = sym is ∙ same in cc) in
    rw (other, names_same text sips is) refl

pub record SchemeRead (text : List ℕ) (secure : Bool) (rest : List ℕ) : Type 0 where
  pub scheme : List ℕ
  pub is : SchemeText scheme secure
  pub text_is : text ≡ scheme ++ 58 ∷ rest

both_are : {A B : Type 0} (a : Option A) (b : Option B) (x : A) (y : B) → both a b ≡ Some (x, y) → (a ≡ Some x) × (b ≡ Some y)
both_are None b x y e = absurd cc
both_are (Some a) None x y e = absurd cc
both_are {A} {B} (Some a) (Some b) x y e =
    let same = same_Some (a, b) (x, y) e in
    (ap (λ (p : A × B). Some p.0) same, ap (λ (p : A × B). Some p.1) same)

pub scheme_read : (text : List ℕ) (secure : Bool) (rest : List ℕ) → behind_scheme text ≡ Ok (secure, rest) → SchemeRead text secure rest
unfolding behind_scheme
scheme_read text secure rest e =
    let k = both_are (is_secure (before 58 text)) (behind 58 text) secure rest
    (from_ok_or (both (is_secure (before 58 text)) (behind 58 text)) BadScheme (secure, rest) e) in
    record {
      scheme = before 58 text;
      is = secure_read (before 58 text) secure k.0;
      text_is = sym (rw k.1 at (joined 58 text));
    }

pub scheme_again : (scheme : List ℕ) (secure : Bool) (rest : List ℕ) → SchemeText scheme secure
    → behind_scheme (scheme ++ 58 ∷ rest) ≡ Ok (secure, rest)
unfolding behind_scheme
scheme_again scheme secure rest is =
    let k = at_first 58 scheme rest (scheme_lacks scheme secure is) in
    rw (k.0, k.1) (rw (secure_again scheme secure is) refl)

-- ---- the user

password_read : (user : List ℕ) (o : Option (List ℕ)) → IsSomeRun is_user_octet user → is_password o ≡ true
    → UserText ((user ++ back 58 o) ++ 64 ∷ [])
password_read user None is e = alone user is (rw append-nil refl)
password_read user (Some password) is e =
    with_password user password is (run_read is_password_octet password e) (append_assoc user (58 ∷ password) (64 ∷ []))

user_read : (text : List ℕ) → is_userinfo text ≡ true → UserText (text ++ 64 ∷ [])
user_read text e =
    let k = both_of (is_some_run is_user_octet (before 58 text)) (is_password (behind 58 text)) e in
    rw (joined 58 text) at (password_read (before 58 text) (behind 58 text) (some_read is_user_octet (before 58 text) k.0) k.1)

pub record UserRead (text rest : List ℕ) : Type 0 where
  pub user : List ℕ
  pub is : UserText user
  pub text_is : text ≡ user ++ rest

without_read : (text rest : List ℕ) (o : Option (List ℕ)) → behind 64 text ≡ o → without_user text (before 64 text) o ≡ Ok rest
    → UserRead text rest
without_read text rest None e read = record { user = []; is = nobody refl; text_is = same_Ok text rest read }
without_read text rest (Some found) e read =
    elim (cases_Bool (is_userinfo (before 64 text))) [
      | inl is ↦ (
          let same : found ≡ rest = same_Ok found rest (rw is at read) in
          let cut : before 64 text ++ 64 ∷ found ≡ text = rw e at (joined 64 text) in
          record {
            user = before 64 text ++ 64 ∷ [];
            is = user_read (before 64 text) is;
            text_is = sym (append_assoc (before 64 text) (64 ∷ []) rest ∙ ap (λ (t : List ℕ). before 64 text ++ 64 ∷ t) (sym same) ∙ cut);
          })
      | inr bad ↦ (let no : Err BadUser ≡ Ok rest = rw bad at read in absurd cc)
    ]

pub behind_user_read : (text rest : List ℕ) → behind_user text ≡ Ok rest → UserRead text rest
unfolding behind_user
behind_user_read text rest e = without_read text rest (behind 64 text) refl e

module _ (rest : List ℕ) (no_at : lacks 64 rest ≡ true) where
  named_again : (user : List ℕ) → is_userinfo user ≡ true → lacks 64 user ≡ true → behind_user (user ++ 64 ∷ rest) ≡ Ok rest
  unfolding behind_user
  named_again user is lack = let k = at_first 64 user rest lack in rw (k.0, k.1) (rw is refl)

  pub user_again : (user : List ℕ) → UserText user → behind_user (user ++ rest) ≡ Ok rest
  unfolding behind_user
  user_again user (nobody is) = rw (is, (cutting.alone 64 rest no_at).1) refl
  user_again user (alone name run is) =
      let k = cut_back 58 name None (run_lacks is_user_octet 58 refl refl refl name run.run) in
      let k' = rw append-nil at k in
      let good : is_userinfo name ≡ true = rw (k'.0, k'.1) (rw (some_again is_user_octet refl name run) refl) in
      let whole : user ++ rest ≡ name ++ 64 ∷ rest = ap (λ (t : List ℕ). t ++ rest) is ∙ append_assoc name (64 ∷ []) rest in
      ap behind_user whole ∙ named_again name good (run_lacks is_user_octet 64 refl refl refl name run.run)
  user_again user (with_password name password run run' is) =
      let k = at_first 58 name password (run_lacks is_user_octet 58 refl refl refl name run.run) in
      let front : List ℕ = name ++ 58 ∷ password in
      let good : is_userinfo front ≡ true =
      rw (k.0, k.1) (rw (some_again is_user_octet refl name run) (run_again is_password_octet refl password run')) in
      let lack : lacks 64 front ≡ true =
      all-append (λ (x : ℕ). not (eqb x 64)) name (58 ∷ password) (run_lacks is_user_octet 64 refl refl refl name run.run)
      (run_lacks is_password_octet 64 refl refl refl password run') in
      let whole : user ++ rest ≡ front ++ 64 ∷ rest =
      ap (λ (t : List ℕ). t ++ rest) is ∙ append_assoc name (58 ∷ (password ++ 64 ∷ [])) rest ∙ ap
      (λ (t : List ℕ). name ++ 58 ∷ t) (append_assoc password (64 ∷ []) rest) ∙ sym (append_assoc name (58 ∷ password) (64 ∷ rest)) in
      ap behind_user whole ∙ named_again front good lack

-- ---- the port

one_or_more : (number port : ℕ) → from_one number ≡ Some port → (number ≡ port) × (0 < port)
one_or_more zero port e = absurd cc
one_or_more (suc number) port e = let same = same_Some (suc number) port e in (same, omega arith)

pub number_read : (text : List ℕ) (port : ℕ) → port_number text ≡ Some port → PortNumber text port
unfolding port_number
number_read text port e =
    let k = steps_of from_one (decimal_within 65535 text) port e in
    let same = one_or_more k.0 port k.2 in
    let read = k.1 in
    record {
      some = grind (arith, nat_tests, read);
      digits = grind (arith, nat_tests, read);
      is = (let n : k.0 ≡ decimal text = grind (arith, nat_tests, read) in sym same.0 ∙ n);
      from = same.1;
      upto = (let n : k.0 ≤ 65535 = grind (arith, nat_tests, read) in omega (arith, same.0));
    }

pub number_again : (text : List ℕ) (port : ℕ) → PortNumber text port → port_number text ≡ Some port
unfolding port_number
number_again text zero is = absurd (omega (arith, is.from))
number_again text (suc port) is =
    let read : decimal_within 65535 text ≡ Some (suc port) = grind (arith, nat_tests, is.some, is.digits, is.is, is.upto) in
    rw read refl

numbered : (text : List ℕ) (o : Option ℕ) → port_number text ≡ o → (port : Option ℕ) → option_map (λ (p : ℕ). Some p) o ≡ Some port
    → PortText (58 ∷ text) port
numbered text None read port e = absurd cc
numbered text (Some number) read port e =
    let same : Some number ≡ port = same_Some (Some number) port e in
    rw (← same) (text, refl, number_read text number read)

pub port_read : (digits : Option (List ℕ)) (port : Option ℕ) → port_of digits ≡ Ok port → PortText (back 58 digits) port
unfolding port_of
port_read None port e = rw (← same_Ok None port e) refl
port_read (Some text) port e =
    numbered text (port_number text) refl port (from_ok_or (option_map (λ (p : ℕ). Some p) (port_number text)) BadPort port e)

pub record PortDigits (text : List ℕ) (port : Option ℕ) : Type 0 where
  pub digits : Option (List ℕ)
  pub text_is : text ≡ back 58 digits
  pub is : port_of digits ≡ Ok port

pub port_again : (text : List ℕ) (port : Option ℕ) → PortText text port → PortDigits text port
unfolding port_of
port_again text None is = record { digits = None; text_is = is; is = refl }
port_again text (Some port) is = record { digits = Some is.0; text_is = is.1; is = rw (number_again is.0 port is.2) refl }

-- ---- the host and the port

pub record PlaceRead (text : List ℕ) (h : Host) (port : Option ℕ) : Type 0 where
  pub front : List ℕ
  pub end : List ℕ
  pub is : HostText front h
  pub port_is : PortText end port
  pub text_is : text ≡ front ++ end

host_at : (text : List ℕ) (a b : Host) → a ≡ b → HostText text a → HostText text b
host_at text a b e is = rw e at is

port_at : (text : List ℕ) (a b : Option ℕ) → a ≡ b → PortText text a → PortText text b
port_at text a b e is = rw e at is

pub place_read : (text : List ℕ) (h : Host) (port : Option ℕ) → place_of text ≡ Ok (h, port) → PlaceRead text h port
unfolding place_of
place_read text h port e =
    let found = bind_of _ (ok_or (host_in_front text) BadHost) (h, port) e in
    let p = bind_of _ (port_of found.0.1) (h, port) found.2 in
    let same = same_Ok (found.0.0, p.0) (h, port) p.2 in
    let h' = ap (λ (x : Host × Option ℕ). x.0) same in
    let p' = ap (λ (x : Host × Option ℕ). x.1) same in
    let placed = front_read text found.0.0 found.0.1 (from_ok_or (host_in_front text) BadHost found.0 found.1) in
    record {
      front = placed.front;
      end = back 58 found.0.1;
      is = host_at placed.front found.0.0 h h' placed.is;
      port_is = port_at (back 58 found.0.1) p.0 port p' (port_read found.0.1 p.0 p.1);
      text_is = placed.joined;
    }

pub place_again : (front end : List ℕ) (h : Host) (port : Option ℕ) → HostText front h → PortText end port
    → place_of (front ++ end) ≡ Ok (h, port)
unfolding place_of
place_again front end h port is is' =
    let digits = port_again end port is' in
    let found : host_in_front (front ++ end) ≡ Some (h, digits.digits) =
    ap (λ (t : List ℕ). host_in_front (front ++ t)) digits.text_is ∙ front_again front h digits.digits is in
    rw found (rw digits.is refl)

-- ---- octets that stand in no host and no port

pub host_lacks : (octet : ℕ) → is_host_octet octet ≡ false → (text : List ℕ) (h : Host) → HostText text h → lacks octet text ≡ true
unfolding is_host_octet
host_lacks octet other text h is =
    all_weaker is_host_octet (λ (x : ℕ). not (eqb x octet)) (λ x e. grind (arith, nat_tests)) text (host_octets text h is)

pub port_lacks : (octet : ℕ) → eqb 58 octet ≡ false → is_ascii_digit octet ≡ false → (text : List ℕ) (port : Option ℕ) → PortText text port
    → lacks octet text ≡ true
port_lacks octet colon other text None is = rw is refl
port_lacks octet colon other text (Some port) is =
    rw is.1 (rw colon (all_weaker is_ascii_digit (λ (x : ℕ). not (eqb x octet)) (λ x e. grind (arith, nat_tests)) is.0 is.2.digits))
