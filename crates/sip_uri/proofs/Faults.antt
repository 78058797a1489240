-- The faults of a text's parts: those of its octets are neither of its length nor want of memory, and those behind its
-- front are not of the front.
use Rattle.std.proofs.Common.{◌≡◌, ℕ, List, [], ◌∷◌, ◌++◌, Option, Some, None, Result, Ok, Err, ◌⊎◌, inl, inr}
use Rattle.std.specs.Prelude.{⊤}
use Rattle.std.specs.Option.{option_map, ok_or}
use Rattle.std.specs.List.{list_all}
use Rattle.std.proofs.lemmas.Bool.{cases_Bool}
use Rattle.ip_text.specs.Parts.{before, behind, parted}
use Rattle.sip_uri.specs.Readers.Params.{is_param, stands_in, fault_behind, params_fault}
use Rattle.sip_uri.specs.Readers.Uris.{is_userinfo, is_header, behind_scheme, without_user, behind_user, port_number, port_of, place_of, said_unless, said_by, check_headers, uri_parts}
use Rattle.sip_uri.specs.Readers.Uris as reader
use Rattle.sip_uri.specs.Readers.Hosts.{host_in_front}
use Rattle.sip_uri.specs.declared.refusal.UriRefusal.{UriRefusal}
use Rattle.sip_uri.specs.declared.refusal.UriRefusal.TheVariants.{TooLong, BadScheme, BadUser, BadHost, BadPort, BadParam, RepeatedParam, BadHeader, BadVia, Memory}

-- a fault of the octets of a text
abbrev pub IsOfOctets : UriRefusal → Type 0
IsOfOctets TooLong = ⊥
IsOfOctets BadScheme = ⊤
IsOfOctets BadUser = ⊤
IsOfOctets BadHost = ⊤
IsOfOctets BadPort = ⊤
IsOfOctets BadParam = ⊤
IsOfOctets RepeatedParam = ⊤
IsOfOctets BadHeader = ⊤
IsOfOctets BadVia = ⊤
IsOfOctets Memory = ⊥

-- a fault of what stands behind the scheme of a URI, or the protocol of a Via
abbrev pub IsLater : UriRefusal → Type 0
IsLater TooLong = ⊥
IsLater BadScheme = ⊥
IsLater BadUser = ⊤
IsLater BadHost = ⊤
IsLater BadPort = ⊤
IsLater BadParam = ⊤
IsLater RepeatedParam = ⊤
IsLater BadHeader = ⊤
IsLater BadVia = ⊥
IsLater Memory = ⊥

pub of_octets : (fault : UriRefusal) → IsLater fault → IsOfOctets fault
of_octets TooLong is = is
of_octets BadScheme is = tt
of_octets BadUser is = tt
of_octets BadHost is = tt
of_octets BadPort is = tt
of_octets BadParam is = tt
of_octets RepeatedParam is = tt
of_octets BadHeader is = tt
of_octets BadVia is = tt
of_octets Memory is = is

-- an answer whose fault, if it has one, is a later one
abbrev pub OfLater : {A : Type 0} → Result A UriRefusal → Type 0
OfLater (Ok x) = ⊤
OfLater (Err fault) = IsLater fault

-- the same where there may be a fault alone
OrLater : Option UriRefusal → Type 0
OrLater None = ⊤
OrLater (Some fault) = IsLater fault

pub then_later : {A B : Type 0} (r : Result A UriRefusal) (f : A → Result B UriRefusal) → OfLater r → ((x : A) → OfLater (f x))
    → OfLater (reader.◌>>=◌ r f)
then_later (Ok x) f one two = two x
then_later (Err fault) f one two = one

pub or_later : {A : Type 0} (o : Option A) (fault : UriRefusal) → IsLater fault → OfLater (ok_or o fault)
or_later None fault is = is
or_later (Some x) fault is = tt

without_later : (text user : List ℕ) (o : Option (List ℕ)) → OfLater (without_user text user o)
without_later text user None = tt
without_later text user (Some rest) =
    elim (cases_Bool (is_userinfo user)) [
      | inl is ↦ rw is tt
      | inr bad ↦ rw bad tt
    ]

port_later : (o : Option (List ℕ)) → OfLater (port_of o)
unfolding port_of
port_later None = tt
port_later (Some text) = or_later (option_map (λ (p : ℕ). Some p) (port_number text)) BadPort tt

fault_later : (earlier params : List (List ℕ)) → OrLater (fault_behind earlier params)
unfolding OrLater
fault_later earlier [] = tt
fault_later earlier (param ∷ params) =
    elim (cases_Bool (is_param param)) [
      | inl good ↦ elim (cases_Bool (stands_in earlier param)) [
        | inl again ↦ rw (good, again) tt
        | inr new ↦ rw (good, new) (fault_later (earlier ++ param ∷ []) params)
      ]
      | inr bad ↦ rw bad tt
    ]

unless_later : (params : List (List ℕ)) (o : Option UriRefusal) → OrLater o → OfLater (said_unless params o)
unfolding OrLater
unless_later params None is = tt
unless_later params (Some fault) is = is

said_later : (o : Option (List ℕ)) → OfLater (said_by o)
unfolding said_by
said_later None = tt
said_later (Some text) = unless_later (parted 59 text) (params_fault (parted 59 text)) (fault_later [] (parted 59 text))

headers_later : (o : Option (List ℕ)) → OfLater (check_headers o)
unfolding check_headers
headers_later None = tt
headers_later (Some text) =
    elim (cases_Bool (list_all is_header (parted 38 text))) [
      | inl is ↦ rw is tt
      | inr bad ↦ rw bad tt
    ]

user_later : (text : List ℕ) → OfLater (behind_user text)
unfolding behind_user
user_later text = without_later text (before 64 text) (behind 64 text)

place_later : (text : List ℕ) → OfLater (place_of text)
unfolding place_of
place_later text =
    then_later (ok_or (host_in_front text) BadHost) _ (or_later (host_in_front text) BadHost tt)
    (λ found. then_later (port_of found.1) _ (port_later found.1) (λ port. tt))

-- the fault of two steps is that of the first, or a later one
pub either_of : {A B : Type 0} (r : Result A UriRefusal) (f : A → Result B UriRefusal) → ((x : A) → OfLater (f x)) → (fault : UriRefusal)
    → reader.◌>>=◌ r f ≡ Err fault → (r ≡ Err fault) ⊎ IsLater fault
either_of (Ok x) f later fault e = inr (rw e at (later x))
either_of (Err first) f later fault e = inl cc

pub uri_fault : (text : List ℕ) (fault : UriRefusal) → uri_parts text ≡ Err fault → (behind_scheme text ≡ Err fault) ⊎ IsLater fault
unfolding uri_parts
uri_fault text =
    either_of (behind_scheme text) _ (λ front.
    then_later (behind_user front.1) _ (user_later front.1) (λ rest.
    then_later (place_of (before 59 (before 63 rest))) _ (place_later (before 59 (before 63 rest))) (λ place.
    then_later (said_by (behind 59 (before 63 rest))) _ (said_later (behind 59 (before 63 rest))) (λ by.
    then_later (check_headers (behind 63 rest)) _ (headers_later (behind 63 rest)) (λ none. tt)))))

pub param_later : {A B : Type 0} (fault : UriRefusal) → (fault ≡ BadParam × A) ⊎ (fault ≡ RepeatedParam × B) → IsLater fault
param_later fault (inl is) = rw is.0 tt
param_later fault (inr is) = rw is.0 tt

-- no fault but one is that of an absent value
pub or_fault : {A : Type 0} (o : Option A) (named fault : UriRefusal) → ok_or o named ≡ Err fault → named ≡ fault
or_fault None named fault e = cc
or_fault (Some x) named fault e = absurd cc

-- an answer that hands on a fault of a kind is none of another kind
pub handed_on : {A : Type 0} (Of : UriRefusal → Type 0) (r : Result A UriRefusal) (x fault other : UriRefusal) → r ≡ Err x → x ≡ fault
    → Of fault → (Of other → ⊥) → r ≡ Err other → ⊥
handed_on Of r x fault other e same is apart e' =
    let here : other ≡ fault = cc in
    apart (rw here is)

pub handed_is : {A : Type 0} (r : Result A UriRefusal) (x fault other : UriRefusal) → r ≡ Err x → x ≡ fault → r ≡ Err other → fault ≡ other
handed_is r x fault other e same e' = cc

pub same_Err : {A : Type 0} (fault other : UriRefusal) → ◌≡◌ {A = Result A UriRefusal} (Err fault) (Err other) → fault ≡ other
same_Err fault other e = cc
