-- Where the leftmost fault of a text stands that is no SIP URI, or no Via (RFC 3261 25.1).
use Rattle.std.specs.Prelude.{◌≡◌, ℕ, ◌+◌, ◌<◌, ◌≤◌, ◌==◌, ◌⊎◌, Bool, not, ◌&&◌, if◌then◌else◌, List, [], ◌∷◌, ◌++◌, codes, drop, length, take}
use Rattle.std.specs.List.{list_any}
use Rattle.sip_uri.specs.Uris.{UriText}
use Rattle.sip_uri.specs.Vias.{ViaText}
use Rattle.sip_uri.specs.declared.uri.SipUri.{SipUri}
use Rattle.sip_uri.specs.declared.via.Via.{Via}

-- a text is a SIP URI
abbrev pub IsUri : List ℕ → Type 0
IsUri text = (uri : SipUri) × UriText text uri

-- a text is a Via
abbrev pub IsVia : List ℕ → Type 0
IsVia text = (via : Via) × ViaText text via

-- an end of a word, all of it or nothing among them, and a tail make a beginning a text of a kind
abbrev pub HasEnd : (List ℕ → Type 0) → List ℕ → List ℕ → List ℕ → Type 0
HasEnd Is word tail front =
    (dropped : ℕ) × (dropped ≤ length word) × Is (front ++ (drop dropped word ++ tail))

-- the same, of one of these words
abbrev pub HasEndAmong : (List ℕ → Type 0) → List (List ℕ) → List ℕ → List ℕ → Type 0
HasEndAmong Is [] tail front = ⊥
HasEndAmong Is (word ∷ words) tail front =
    HasEnd Is word tail front ⊎ HasEndAmong Is words tail front

-- a text has `@`
abbrev pub has_at : List ℕ → Bool
has_at text = list_any (λ (octet : ℕ). octet == 64) text

-- a beginning ends in front of the first `@` of its text: it has none, and what follows it does
abbrev pub is_in_user : List ℕ → List ℕ → Bool
is_in_user front rest = has_at rest && not (has_at front)

-- Words whose ends are what a beginning of a URI may lack: of a port or an escape, of a header, of
-- the scheme and a name, of an IPv6 address, and of one that ends as one of IPv4.
abbrev pub uri_words : List (List ℕ)
uri_words =
    codes "11" ∷ codes "11=" ∷ codes "sips:a.a" ∷ codes "::]" ∷ codes "1.1.1]" ∷ []

-- the same of a Via: of a port, of a quoted string, of the protocol and a name, of an IPv6 address,
-- and of one that ends as one of IPv4
abbrev pub via_words : List (List ℕ)
via_words =
    codes "1" ∷ codes "a\"" ∷ codes "SIP/2.0/UDP a.a" ∷ codes "::]" ∷ codes "1.1.1]" ∷ []

-- what a URI needs behind such an end: `@` and a host, where a user is not yet over
abbrev pub uri_tail : List ℕ → List ℕ → List ℕ
uri_tail front rest = if is_in_user front rest then codes "@a" else []

-- A beginning of a text, with what follows it, can go on as a URI: an end of one of the words makes
-- it one, with `@a` behind that in front of the first `@`, since a user stands there.
abbrev pub CanBeUri : List ℕ → List ℕ → Type 0
CanBeUri front rest = HasEndAmong IsUri uri_words (uri_tail front rest) front

-- A beginning of a text can go on as a Via: an end of one of the words makes it one.
abbrev pub CanBeVia : List ℕ → List ℕ → Type 0
CanBeVia front rest = HasEndAmong IsVia via_words [] front

-- how far a text can go on: each beginning up to there can, and with one octet more it cannot, if
-- there is one
pub record IsReach (GoesOn : List ℕ → List ℕ → Type 0) (text : List ℕ) (at : ℕ) : Type 0 where
  pub within : at ≤ length text
  pub goes_on : (count : ℕ) → 0 < count → count ≤ at → GoesOn (take count text) (drop count text)
  pub stops : at < length text → GoesOn (take (at + 1) text) (drop (at + 1) text) → ⊥

-- where a fault stands of a text that is to be of a kind: behind the beginning up to which it can
-- go on, but of more than 1,024 octets the first one too many is at fault
pub data IsFault (GoesOn : List ℕ → List ℕ → Type 0) (text : List ℕ) (at : ℕ) : Type 0 where
  too_long : 1024 < length text → at ≡ 1024 → IsFault GoesOn text at
  behind : length text ≤ 1024 → IsReach GoesOn text at → IsFault GoesOn text at

-- where the leftmost fault of a text stands that is no URI
abbrev pub IsUriFault : List ℕ → ℕ → Type 0
IsUriFault text at = IsFault CanBeUri text at

-- where the leftmost fault of a text stands that is no Via
abbrev pub IsViaFault : List ℕ → ℕ → Type 0
IsViaFault text at = IsFault CanBeVia text at
