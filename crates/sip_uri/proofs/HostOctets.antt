-- The octets of a host.
use Rattle.std.proofs.Common.{◌≡◌, ℕ, zero, suc, Bool, true, false, ◌||◌, List, [], ◌∷◌, refl, inl, inr, arith, eqb}
use Rattle.std.specs.List.{list_all, join_with_byte}
use Rattle.std.specs.Char.{is_ascii_alphanumeric}
use Rattle.std.specs.Str.{IsUtf8, IsAscii}
use Rattle.std.proofs.lemmas.Bool.{cases_Bool}
use Rattle.std.proofs.lemmas.Bool.Decides.{nat_tests}
use Rattle.std.proofs.lemmas.Str.{IsUtf8-from_ascii}
use Rattle.dns_name.specs.Texts.{IsDotted}
use Rattle.sip_uri.specs.Hosts.{HostLabel, AreHostLabels, DomainText, is_label_octet}
use Rattle.sip_uri.specs.Readers.Hostnames.{is_hostname}
use Rattle.ip_text.proofs.Lists.{all_weaker, all-append}
use Rattle.sip_uri.proofs.DomainTexts.{hostname_read}
use Rattle.sip_uri.specs.Views.{name_of}

-- a letter, a digit or one of `-.:[]`
unfoldable pub is_host_octet : ℕ → Bool
is_host_octet octet = is_ascii_alphanumeric octet || eqb octet 45 || eqb octet 46 || eqb octet 58 || eqb octet 91 || eqb octet 93

label_octets : (label : List ℕ) → HostLabel label → list_all is_host_octet label ≡ true
unfolding is_host_octet
label_octets label is = all_weaker is_label_octet is_host_octet (λ x e. grind (arith, nat_tests)) label is.octets

joined_octets : (labels : List (List ℕ)) → AreHostLabels labels → list_all is_host_octet (join_with_byte 46 labels) ≡ true
unfolding is_host_octet
joined_octets [] are = absurd are
joined_octets (label ∷ []) are = label_octets label are.0
joined_octets (label ∷ next ∷ labels) are =
    all-append is_host_octet label (46 ∷ join_with_byte 46 (next ∷ labels)) (label_octets label are.0) (joined_octets (next ∷ labels) are.1)

dotted_octets : (labels : List (List ℕ)) (text : List ℕ) → AreHostLabels labels → IsDotted labels text → list_all is_host_octet text ≡ true
unfolding is_host_octet
dotted_octets labels text are (inl e) = rw e (joined_octets labels are)
dotted_octets labels text are (inr e) = rw e (all-append is_host_octet (join_with_byte 46 labels) (46 ∷ []) (joined_octets labels are) refl)

pub hostname_octets : (text : List ℕ) (name : List (List ℕ)) → DomainText text name → list_all is_host_octet text ≡ true
hostname_octets text name is = dotted_octets is.labels text is.are is.dotted

are_ascii : (text : List ℕ) → list_all is_host_octet text ≡ true → IsAscii text
unfolding is_host_octet
are_ascii [] e i = omega arith
are_ascii (x ∷ text) e zero =
    elim (cases_Bool (is_host_octet x)) [
      | inl is ↦ grind (arith, nat_tests, is)
      | inr no' ↦ (let no : false ≡ true = rw no' at e in absurd cc)
    ]
are_ascii (x ∷ text) e (suc i) =
    elim (cases_Bool (is_host_octet x)) [
      | inl is ↦ are_ascii text (rw is at e) i
      | inr no' ↦ (let no : false ≡ true = rw no' at e in absurd cc)
    ]

pub hostname_utf8 : (text : List ℕ) → is_hostname text ≡ true → IsUtf8 text
hostname_utf8 text e = IsUtf8-from_ascii text (are_ascii text (hostname_octets text (name_of text) (hostname_read text e)))
