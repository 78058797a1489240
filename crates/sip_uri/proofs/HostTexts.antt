-- Hosts are what their readers read.
use Rattle.std.proofs.Common.{◌≡◌, ℕ, Bool, true, false, not, List, [], ◌∷◌, refl, inl, inr, arith, eqb}
use Rattle.std.specs.List.{list_all, join_with_byte}
use Rattle.std.specs.Char.{is_ascii_hexdigit}
use Rattle.std.proofs.lemmas.Bool.Decides.{nat_tests}
use Rattle.ip_text.specs.Addresses.{V4Text, GroupText, AreGroups, SideText, V6Text, whole, shortened}
use Rattle.sip_uri.specs.Hosts.{HostText}
use Rattle.sip_uri.specs.declared.host.Host.{Host}
use Rattle.sip_uri.specs.declared.host.Host.TheVariants.{V4, V6, Domain}
use Rattle.ip_text.proofs.Cutting.{lacks}
use Rattle.ip_text.proofs.Lists.{all_weaker, all-append}
use Rattle.ip_text.proofs.V4Texts.{is_dotted_octet, ipv4_octets}
use Rattle.sip_uri.proofs.HostOctets.{is_host_octet, hostname_octets}

-- ---- the octets of addresses

v4_octets : (text octets : List ℕ) → V4Text text octets → list_all is_host_octet text ≡ true
unfolding is_dotted_octet is_host_octet
v4_octets text octets is = all_weaker is_dotted_octet is_host_octet (λ x e. grind (arith, nat_tests)) text (ipv4_octets text octets is)

group_octets : (text octets : List ℕ) → GroupText text octets → list_all is_host_octet text ≡ true
unfolding is_host_octet
group_octets text octets is = all_weaker is_ascii_hexdigit is_host_octet (λ x e. grind (arith, nat_tests)) text is.digits

groups_octets : (closing : Bool) (texts : List (List ℕ)) (octets : List ℕ) → AreGroups closing texts octets
    → list_all is_host_octet (join_with_byte 58 texts) ≡ true
unfolding is_host_octet
groups_octets closing [] octets are = absurd are
groups_octets closing (text ∷ []) octets (inl is) = group_octets text octets is
groups_octets closing (text ∷ []) octets (inr four) = v4_octets text octets four.1
groups_octets closing (text ∷ next ∷ texts) octets are =
    all-append is_host_octet text (58 ∷ join_with_byte 58 (next ∷ texts)) (group_octets text are.0 are.2)
    (groups_octets closing (next ∷ texts) are.1 are.3)

side_octets : (closing : Bool) (text octets : List ℕ) → SideText closing text octets → list_all is_host_octet text ≡ true
side_octets closing text octets (inl none) = rw none.0 refl
side_octets closing text octets (inr is) = rw is.joined (groups_octets closing is.groups octets is.are)

v6_octets : (text octets : List ℕ) → V6Text text octets → list_all is_host_octet text ≡ true
unfolding is_host_octet
v6_octets text octets (whole is len) = rw is.joined (groups_octets true is.groups octets is.are)
v6_octets text octets (shortened left right front end is one two short same) =
    rw is (all-append is_host_octet left (58 ∷ 58 ∷ right) (side_octets false left front one) (side_octets true right end two))

pub host_octets : (text : List ℕ) (host : Host) → HostText text host → list_all is_host_octet text ≡ true
unfolding is_host_octet
host_octets text (V4 octets) is = v4_octets text octets is
host_octets text (V6 octets) is = rw is.1 (all-append is_host_octet is.0 (93 ∷ []) (v6_octets is.0 octets is.2) refl)
host_octets text (Domain name) is = hostname_octets text name is

-- ---- brackets and colons

-- in an IPv6 text stands no bracket
group_brackets : (text octets : List ℕ) → GroupText text octets → lacks 93 text ≡ true
group_brackets text octets is = all_weaker is_ascii_hexdigit (λ (x : ℕ). not (eqb x 93)) (λ x e. grind (arith, nat_tests)) text is.digits

pub v4_lacks : (octet : ℕ) (text octets : List ℕ) → is_dotted_octet octet ≡ false → V4Text text octets → lacks octet text ≡ true
unfolding is_dotted_octet
v4_lacks octet text octets other is =
    all_weaker is_dotted_octet (λ (x : ℕ). not (eqb x octet)) (λ x e. grind (arith, nat_tests)) text (ipv4_octets text octets is)

abbrev lacks_bracket : ℕ → Bool
lacks_bracket x = not (eqb x 93)

groups_brackets : (closing : Bool) (texts : List (List ℕ)) (octets : List ℕ) → AreGroups closing texts octets
    → lacks 93 (join_with_byte 58 texts) ≡ true
unfolding is_dotted_octet
groups_brackets closing [] octets are = absurd are
groups_brackets closing (text ∷ []) octets (inl is) = group_brackets text octets is
groups_brackets closing (text ∷ []) octets (inr four) = v4_lacks 93 text octets refl four.1
groups_brackets closing (text ∷ next ∷ texts) octets are =
    all-append lacks_bracket text (58 ∷ join_with_byte 58 (next ∷ texts)) (group_brackets text are.0 are.2)
    (groups_brackets closing (next ∷ texts) are.1 are.3)

side_brackets : (closing : Bool) (text octets : List ℕ) → SideText closing text octets → lacks 93 text ≡ true
side_brackets closing text octets (inl none) = rw none.0 refl
side_brackets closing text octets (inr is) = rw is.joined (groups_brackets closing is.groups octets is.are)

pub v6_brackets : (text octets : List ℕ) → V6Text text octets → lacks 93 text ≡ true
v6_brackets text octets (whole is len) = rw is.joined (groups_brackets true is.groups octets is.are)
v6_brackets text octets (shortened left right front end is one two short same) =
    rw is (all-append lacks_bracket left (58 ∷ 58 ∷ right) (side_brackets false left front one) (side_brackets true right end two))
