-- A text is one for at most one address.
use Rattle.std.proofs.Common.{◌≡◌, ℕ, true, false, List, [], ◌∷◌, ◌++◌, length, Option, Some, None, IfSome, sym, ap, ◌∙◌, inl, inr, arith}
use Rattle.std.specs.List.{join_with_byte}
use Rattle.std.proofs.lemmas.Option.{same_Some}
use Rattle.ip_text.specs.declared.address.Address.{Address}
use Rattle.ip_text.specs.declared.address.Address.TheVariants.{V4, V6}
use Rattle.ip_text.specs.Addresses.{V4Text, AreGroups, V6Text, whole, shortened, AddressText}
use Rattle.ip_text.specs.Readers.{ipv4, ipv6}
use Rattle.ip_text.proofs.Lists.{all_of-append}
use Rattle.ip_text.proofs.V4Texts.{ipv4_read, ipv4_again, is_dotted_octet, ipv4_octets, four_octets}
use Rattle.ip_text.proofs.V6Texts.{ipv6_read, ipv6_again}

-- a text with a colon in it is no IPv4 text
colon_in : (text front rest octets : List ℕ) → text ≡ front ++ 58 ∷ rest → V4Text text octets → ⊥
unfolding is_dotted_octet
colon_in text front rest octets is four =
    let k = all_of-append is_dotted_octet front (58 ∷ rest) (rw is at (ipv4_octets text octets four)) in
    let no : false ≡ true = k.1 in
    cc

groups_with_colon : (texts : List (List ℕ)) (text octets four : List ℕ) → AreGroups true texts octets → length octets ≡ 16
    → text ≡ join_with_byte 58 texts → V4Text text four → ⊥
groups_with_colon [] text octets four are len is other = are
groups_with_colon (group ∷ []) text octets four (inl are) len is other = omega (arith, ap length are.is, len)
groups_with_colon (group ∷ []) text octets four (inr are) len is other = omega (arith, four_octets group octets are.1, len)
groups_with_colon (group ∷ next ∷ texts) text octets four are len is other =
    colon_in text group (join_with_byte 58 (next ∷ texts)) four is other

pub apart : (text four six : List ℕ) → V4Text text four → V6Text text six → ⊥
apart text four six is (whole groups len) = groups_with_colon groups.groups text six four groups.are len groups.joined is
apart text four six is (shortened left right front end joined one two short same) = colon_in text left (58 ∷ right) four joined is

pub of_ipv4 : (text octets : List ℕ) → ipv4 text ≡ Some octets → (address : Address) → AddressText text address
    → Some (V4 octets) ≡ Some address
of_ipv4 text octets e (V4 other) is = ap (λ (o : List ℕ). Some (V4 o)) (same_Some octets other (sym e ∙ ipv4_again text other is))
of_ipv4 text octets e (V6 other) is = absurd (apart text octets other (ipv4_read text octets e) is)

pub of_ipv6 : (text octets : List ℕ) → ipv4 text ≡ None → ipv6 text ≡ Some octets → (address : Address) → AddressText text address
    → Some (V6 octets) ≡ Some address
of_ipv6 text octets none e (V4 other) is = absurd (let no : None ≡ Some other = sym none ∙ ipv4_again text other is in cc)
of_ipv6 text octets none e (V6 other) is = ap (λ (o : List ℕ). Some (V6 o)) (same_Some octets other (sym e ∙ ipv6_again text other is))

pub of_nothing : (text : List ℕ) → ipv4 text ≡ None → ipv6 text ≡ None → (address : Address) → AddressText text address → ⊥
of_nothing text none none' (V4 other) is = (let no : None ≡ Some other = sym none ∙ ipv4_again text other is in absurd cc)
of_nothing text none none' (V6 other) is = (let no : None ≡ Some other = sym none' ∙ ipv6_again text other is in absurd cc)

-- what a reader gives is what the text spells
pub ipv4_found : (text : List ℕ) (found : Option (List ℕ)) → found ≡ ipv4 text → IfSome found (λ octets. V4Text text octets)
ipv4_found text None e = tt
ipv4_found text (Some octets) e = ipv4_read text octets (sym e)

pub ipv6_found : (text : List ℕ) (found : Option (List ℕ)) → found ≡ ipv6 text → IfSome found (λ octets. V6Text text octets)
ipv6_found text None e = tt
ipv6_found text (Some octets) e = ipv6_read text octets (sym e)
