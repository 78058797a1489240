-- Hosts of URIs and Vias as texts (RFC 3261 25.1).
use Rattle.std.specs.Prelude.{◌≡◌, ℕ, ◌-◌, ◌<◌, ◌≤◌, ◌==◌, Bool, ◌||◌, IsTrue, List, [], ◌∷◌, ◌++◌, length, map, slice_index, ⊤}
use Rattle.std.specs.List.{list_all}
use Rattle.std.specs.Char.{is_ascii_alphanumeric, is_ascii_alphabetic}
use Rattle.dns_name.specs.Labels.{small_letters, wire_of}
use Rattle.dns_name.specs.Texts.{IsDotted}
use Rattle.ip_text.specs.Addresses.{V4Text, V6Text}
use Rattle.sip_uri.specs.declared.host.Host.{Host}
use Rattle.sip_uri.specs.declared.host.Host.TheVariants.{V4, V6, Domain}

-- an octet is a letter, a digit or a hyphen
abbrev pub is_label_octet : ℕ → Bool
is_label_octet octet = is_ascii_alphanumeric octet || octet == 45

-- a label of a hostname: 1 to 63 letters, digits and hyphens, with a letter or digit in front and
-- at the end (RFC 3261 25.1, RFC 1035 2.3.4)
pub record HostLabel (label : List ℕ) : Type 0 where
  pub some : 0 < length label
  pub short : length label ≤ 63
  pub octets : IsTrue (list_all is_label_octet label)
  pub first : IsTrue (is_ascii_alphanumeric (slice_index label 0))
  pub last : IsTrue (is_ascii_alphanumeric (slice_index label (length label - 1)))

-- labels of a hostname: one or more, the last of which begins with a letter
abbrev pub AreHostLabels : List (List ℕ) → Type 0
AreHostLabels [] = ⊥
AreHostLabels (label ∷ []) = HostLabel label × IsTrue (is_ascii_alphabetic (slice_index label 0))
AreHostLabels (label ∷ next ∷ labels) = HostLabel label × AreHostLabels (next ∷ labels)

-- a text is a hostname: labels with dots between them, and optionally one after the last, which
-- spell a name of at most 255 octets
pub record DomainText (text : List ℕ) (name : List (List ℕ)) : Type 0 where
  pub labels : List (List ℕ)
  pub are : AreHostLabels labels
  pub dotted : IsDotted labels text
  pub named : name ≡ map small_letters labels
  pub short : length (wire_of name) ≤ 255

-- a text is a host: an IPv4 address, an IPv6 address in brackets, or a hostname
abbrev pub HostText : List ℕ → Host → Type 0
HostText text (V4 octets) = V4Text text octets
HostText text (V6 octets) = (inner : List ℕ) × (text ≡ 91 ∷ inner ++ 93 ∷ []) × V6Text inner octets
HostText text (Domain name) = DomainText text name

-- a host is a name
abbrev pub IsNamed : Host → Type 0
IsNamed (V4 octets) = ⊥
IsNamed (V6 octets) = ⊥
IsNamed (Domain name) = ⊤
