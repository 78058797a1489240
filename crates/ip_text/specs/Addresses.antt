-- IPv4 and IPv6 addresses as texts (RFC 3261 25.1, RFC 4291 2.2).
use Rattle.std.specs.Prelude.{◌≡◌, ℕ, ◌+◌, ◌-◌, ◌/◌, ◌%◌, ◌<◌, ◌≤◌, Bool, true, false, IsTrue, List, [], ◌∷◌, ◌++◌, length, replicate, ◌⊎◌}
use Rattle.std.specs.List.{AllByRecursion, list_all, join_with_byte}
use Rattle.std.specs.Char.{is_ascii_digit, is_ascii_hexdigit}
use Rattle.ip_text.specs.Numbers.{decimal, hexadecimal}
use Rattle.ip_text.specs.declared.address.Address.{Address}
use Rattle.ip_text.specs.declared.address.Address.TheVariants.{V4, V6}

-- a text is one to three digits, leading zeros among them, that spell a number of at most 255
pub record NumberText (text : List ℕ) (number : ℕ) : Type 0 where
  pub some : 0 < length text
  pub short : length text ≤ 3
  pub digits : IsTrue (list_all is_ascii_digit text)
  pub is : number ≡ decimal text
  pub low : number ≤ 255

-- a text is four numbers of at most 255, of one to three digits, with dots between them (RFC 3261
-- 25.1)
pub data V4Text (text octets : List ℕ) : Type 0 where
  numbers : (first second third fourth : List ℕ) (a b c d : ℕ)
      → text ≡ first ++ 46 ∷ (second ++ 46 ∷ (third ++ 46 ∷ fourth))
      → NumberText first a → NumberText second b → NumberText third c → NumberText fourth d
      → octets ≡ a ∷ b ∷ c ∷ d ∷ []
      → V4Text text octets

-- a text is one to four hexadecimal digits, which spell two octets
pub record GroupText (text octets : List ℕ) : Type 0 where
  pub some : 0 < length text
  pub short : length text ≤ 4
  pub digits : IsTrue (list_all is_ascii_hexdigit text)
  pub is : octets ≡ hexadecimal text / 256 ∷ hexadecimal text % 256 ∷ []

-- Texts are one or more groups, with the octets that they spell. Where it is allowed, an IPv4 text
-- takes the place of the last two groups.
abbrev pub AreGroups : Bool → List (List ℕ) → List ℕ → Type 0
AreGroups closing [] octets = ⊥
AreGroups closing (text ∷ []) octets = GroupText text octets ⊎ (IsTrue closing × V4Text text octets)
AreGroups closing (text ∷ next ∷ texts) octets =
    (group : List ℕ) × (others : List ℕ) × GroupText text group
    × AreGroups closing (next ∷ texts) others × (octets ≡ group ++ others)

-- a text is groups with colons between them
pub record GroupsText (closing : Bool) (text octets : List ℕ) : Type 0 where
  pub groups : List (List ℕ)
  pub joined : text ≡ join_with_byte 58 groups
  pub are : AreGroups closing groups octets

-- a text is one side of two colons: groups with colons between them, or nothing
abbrev pub SideText : Bool → List ℕ → List ℕ → Type 0
SideText closing text octets = ((text ≡ []) × (octets ≡ [])) ⊎ GroupsText closing text octets

-- a text is an IPv6 address: eight groups; or at most seven, with two colons in place of the groups
-- of zero that are missing
pub data V6Text (text octets : List ℕ) : Type 0 where
  whole : GroupsText true text octets → length octets ≡ 16 → V6Text text octets
  shortened : (left right front end : List ℕ)
      → text ≡ left ++ 58 ∷ 58 ∷ right
      → SideText false left front → SideText true right end
      → length front + length end ≤ 14
      → octets ≡ front ++ replicate (16 - (length front + length end)) 0 ++ end
      → V6Text text octets

-- a text is an address, an IPv6 one without brackets
abbrev pub AddressText : List ℕ → Address → Type 0
AddressText text (V4 octets) = V4Text text octets
AddressText text (V6 octets) = V6Text text octets

-- what the type of an address keeps: 4 or 16 octets, each below 256
abbrev pub AddressFits : Address → Type 0
AddressFits (V4 octets) = (length octets ≡ 4) × AllByRecursion (λ octet. octet < 256) octets
AddressFits (V6 octets) = (length octets ≡ 16) × AllByRecursion (λ octet. octet < 256) octets
