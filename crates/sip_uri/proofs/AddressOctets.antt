-- What is read as an address is what the reader of addresses gives, as a function on lists.
use Rattle.std.proofs.Common.{◌≡◌, ℕ, List, Option, Some, None, IfSome, sym, refl, ◌∙◌}
use Rattle.ip_text.specs.Addresses.{V4Text, V6Text}
use Rattle.ip_text.specs.Readers.{ipv4, ipv6}
use Rattle.ip_text.proofs.V4Texts.{ipv4_read, ipv4_again}
use Rattle.ip_text.proofs.V6Texts.{ipv6_read, ipv6_again}

no_ipv4 : (text : List ℕ) (read : Option (List ℕ)) → ipv4 text ≡ read
    → ((octets : List ℕ) → V4Text text octets → ◌≡◌ {A = Option (List ℕ)} None (Some octets)) → None ≡ ipv4 text
no_ipv4 text None e spelled = sym e
no_ipv4 text (Some octets) e spelled = spelled octets (ipv4_read text octets e) ∙ sym e

pub is_ipv4 : (text : List ℕ) (found : Option (List ℕ)) → IfSome found (λ octets. V4Text text octets)
    → ((octets : List ℕ) → V4Text text octets → found ≡ Some octets) → found ≡ ipv4 text
is_ipv4 text None is spelled = no_ipv4 text (ipv4 text) refl spelled
is_ipv4 text (Some octets) is spelled = sym (ipv4_again text octets is)

no_ipv6 : (text : List ℕ) (read : Option (List ℕ)) → ipv6 text ≡ read
    → ((octets : List ℕ) → V6Text text octets → ◌≡◌ {A = Option (List ℕ)} None (Some octets)) → None ≡ ipv6 text
no_ipv6 text None e spelled = sym e
no_ipv6 text (Some octets) e spelled = spelled octets (ipv6_read text octets e) ∙ sym e

pub is_ipv6 : (text : List ℕ) (found : Option (List ℕ)) → IfSome found (λ octets. V6Text text octets)
    → ((octets : List ℕ) → V6Text text octets → found ≡ Some octets) → found ≡ ipv6 text
is_ipv6 text None is spelled = no_ipv6 text (ipv6 text) refl spelled
is_ipv6 text (Some octets) is spelled = sym (ipv6_again text octets is)
