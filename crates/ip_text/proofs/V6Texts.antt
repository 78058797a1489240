-- IPv6 texts are what their reader reads.
use Rattle.std.proofs.Common.{◌≡◌, ℕ, ◌+◌, ◌-◌, ◌/◌, ◌%◌, ◌<◌, ◌≤◌, Bool, true, false, not, List, [], ◌∷◌, ◌++◌, length, replicate, Option, Some, None, refl, sym, ap, ◌∙◌, inl, inr, arith, eqb, append_assoc}
use Rattle.std.specs.List.{list_all, AllByRecursion, join_with_byte}
use Rattle.std.specs.Option.{option_map, option_and_then}
use Rattle.std.specs.Char.{is_ascii_hexdigit}
use Rattle.std.proofs.lemmas.Bool.{cases_Bool}
use Rattle.std.proofs.lemmas.Bool.Decides.{nat_tests}
use Rattle.std.proofs.lemmas.Option.{same_Some}
use Rattle.std.proofs.lemmas.List.{append-nil}
use Rattle.std.proofs.lemmas.List.Splits.{join_with_byte-slice_split}
use Rattle.ip_text.specs.Numbers.{hexadecimal}
use Rattle.ip_text.specs.Parts.{parted}
use Rattle.ip_text.specs.Addresses.{V4Text, GroupText, AreGroups, GroupsText, SideText, V6Text, whole, shortened}
use Rattle.ip_text.specs.Readers.{hexadecimal_group, ipv4, group, last_group, groups, side, filled, sixteen, behind_colons, with_front, around_colons, ipv6, ipv6_around}
use Rattle.ip_text.proofs.Colons.{around, colons_are, front_nothing, front_twice}
use Rattle.ip_text.proofs.Cutting.{lacks, alone, parts-joined}
use Rattle.ip_text.proofs.Lists.{steps_of, mapped_from, either_of, all_weaker}
use Rattle.ip_text.proofs.V4Texts.{ipv4_read, ipv4_again, is_dotted_octet, ipv4_octets, some_in_ipv4}

-- ---- groups

pub group_read : (text octets : List ℕ) → group text ≡ Some octets → GroupText text octets
group_read text octets e =
    let k = mapped_from (λ (number : ℕ). number / 256 ∷ number % 256 ∷ []) (hexadecimal_group text) octets e in
    let read = k.1 in
    record {
      some = grind (arith, nat_tests, read);
      short = grind (arith, nat_tests, read);
      digits = grind (arith, nat_tests, read);
      is = (let n : k.0 ≡ hexadecimal text =
          grind (arith, nat_tests, read) in sym k.2 ∙ ap (λ (number : ℕ). number / 256 ∷ number % 256 ∷ []) n);
    }

group_again : (text octets : List ℕ) → GroupText text octets → group text ≡ Some octets
group_again text octets is =
    let read : hexadecimal_group text ≡ Some (hexadecimal text) = grind (arith, nat_tests, is.some, is.short, is.digits) in
    rw (read, is.is) refl

pub digits_lack : (octet : ℕ) (text : List ℕ) → is_ascii_hexdigit octet ≡ false → list_all is_ascii_hexdigit text ≡ true
    → lacks octet text ≡ true
digits_lack octet text other digits =
    all_weaker is_ascii_hexdigit (λ (x : ℕ). not (eqb x octet)) (λ x e. grind (arith, nat_tests)) text digits

pub no_ipv4 : (text octets : List ℕ) → GroupText text octets → ipv4 text ≡ None
unfolding ipv4
no_ipv4 text octets is = rw ((alone 46 text (digits_lack 46 text refl is.digits)).1) refl

pub last_read : (closing : Bool) (text octets : List ℕ) → last_group closing text ≡ Some octets → AreGroups closing (text ∷ []) octets
last_read false text octets e = inl (group_read text octets e)
last_read true text octets e =
    elim (either_of (ipv4 text) (group text) octets e) [
      | inl four ↦ inr (refl, ipv4_read text octets four)
      | inr none ↦ inl (group_read text octets none.1)
    ]

pub last_again : (closing : Bool) (text octets : List ℕ) → AreGroups closing (text ∷ []) octets → last_group closing text ≡ Some octets
last_again false text octets (inl is) = group_again text octets is
last_again false text octets (inr four) = absurd (let no : false ≡ true = four.0 in cc)
last_again true text octets (inl is) = rw (no_ipv4 text octets is) (group_again text octets is)
last_again true text octets (inr four) = rw (ipv4_again text octets four.1) refl

pub groups_read : (closing : Bool) (texts : List (List ℕ)) (octets : List ℕ) → groups closing texts ≡ Some octets
    → AreGroups closing texts octets
groups_read closing [] octets e = absurd cc
groups_read closing (text ∷ []) octets e = last_read closing text octets e
groups_read closing (text ∷ next ∷ texts) octets e =
    let first = steps_of _ (group text) octets e in
    let others = mapped_from (λ (more : List ℕ). first.0 ++ more) (groups closing (next ∷ texts)) octets first.2 in
    (first.0, others.0, group_read text first.0 first.1, groups_read closing (next ∷ texts) others.0 others.1, sym others.2)

groups_again : (closing : Bool) (texts : List (List ℕ)) (octets : List ℕ) → AreGroups closing texts octets
    → groups closing texts ≡ Some octets
groups_again closing [] octets are = absurd are
groups_again closing (text ∷ []) octets are = last_again closing text octets are
groups_again closing (text ∷ next ∷ texts) octets are =
    rw (group_again text are.0 are.2, groups_again closing (next ∷ texts) are.1 are.3, are.4) refl

-- ---- groups with colons between them

-- what stands between colons
abbrev pub IsPart : List ℕ → Type 0
IsPart text = (0 < length text) × (lacks 58 text ≡ true)

pub part_of_ipv4 : (text octets : List ℕ) → V4Text text octets → IsPart text
unfolding is_dotted_octet
part_of_ipv4 text octets four = (
  some_in_ipv4 text octets four,
  all_weaker is_dotted_octet (λ (x : ℕ). not (eqb x 58)) (λ x e. grind (arith, nat_tests)) text (ipv4_octets text octets four),
)

last_part : (closing : Bool) (text octets : List ℕ) → AreGroups closing (text ∷ []) octets → IsPart text
last_part closing text octets (inl is) = (is.some, digits_lack 58 text refl is.digits)
last_part closing text octets (inr four) = part_of_ipv4 text octets four.1

are_parts : (closing : Bool) (texts : List (List ℕ)) (octets : List ℕ) → AreGroups closing texts octets → (0 < length texts)
    × AllByRecursion IsPart texts
are_parts closing [] octets are = absurd are
are_parts closing (text ∷ []) octets are = (omega arith, (last_part closing text octets are, tt))
are_parts closing (text ∷ next ∷ texts) octets are =
    (omega arith, ((are.2.some, digits_lack 58 text refl are.2.digits), (are_parts closing (next ∷ texts) are.1 are.3).1))

lack_colons : (texts : List (List ℕ)) → AllByRecursion IsPart texts → AllByRecursion (λ (text : List ℕ). lacks 58 text ≡ true) texts
lack_colons [] each = tt
lack_colons (text ∷ texts) each = (each.0.1, lack_colons texts each.1)

pub text_read : (closing : Bool) (text octets : List ℕ) → groups closing (parted 58 text) ≡ Some octets → GroupsText closing text octets
text_read closing text octets e = record {
  groups = parted 58 text;
  joined = sym (join_with_byte-slice_split 58 text);
  are = groups_read closing (parted 58 text) octets e;
}

pub text_again : (closing : Bool) (text octets : List ℕ) → GroupsText closing text octets → groups closing (parted 58 text) ≡ Some octets
text_again closing text octets is =
    let parts = are_parts closing is.groups octets is.are in
    let cut : parted 58 text ≡ is.groups = ap (parted 58) is.joined ∙ parts-joined 58 is.groups parts.0 (lack_colons is.groups parts.1) in
    rw cut (groups_again closing is.groups octets is.are)

pub side_read : (closing : Bool) (text octets : List ℕ) → side closing text ≡ Some octets → SideText closing text octets
side_read closing [] octets e = inl (refl, sym (same_Some [] octets e))
side_read closing (x ∷ text) octets e =
    let some : eqb (length (x ∷ text)) 0 ≡ false = grind (arith, nat_tests) in
    inr (text_read closing (x ∷ text) octets (rw some at e))

last_nothing : (closing : Bool) → last_group closing [] ≡ None
unfolding ipv4
last_nothing false = refl
last_nothing true = refl

pub side_again : (closing : Bool) (text octets : List ℕ) → SideText closing text octets → side closing text ≡ Some octets
side_again closing text octets (inl none) = rw (none.0, none.1) refl
side_again closing [] octets (inr is) =
    absurd (let no : None ≡ Some octets = sym (last_nothing closing) ∙ text_again closing [] octets is in cc)
side_again closing (x ∷ text) octets (inr is) =
    let some : eqb (length (x ∷ text)) 0 ≡ false = grind (arith, nat_tests) in
    rw some (text_again closing (x ∷ text) octets is)

-- ---- two colons in a row

pub behind_read : (text right : List ℕ) → behind_colons text ≡ Some right → text ≡ 58 ∷ 58 ∷ right
behind_read [] right e = absurd cc
behind_read (x ∷ []) right e = absurd cc
behind_read (x ∷ y ∷ text) right e =
    let first : x ≡ 58 = grind (arith, nat_tests) in
    let second : y ≡ 58 = grind (arith, nat_tests) in
    let same : text ≡ right = grind (arith, nat_tests) in
    rw (first, second, same) refl

no_colon : (x : ℕ) (text : List ℕ) → eqb x 58 ≡ false → behind_colons (x ∷ text) ≡ None
no_colon x [] e = refl
no_colon x (y ∷ text) e = rw e refl

pub colon_alone : (y : ℕ) (text : List ℕ) → eqb y 58 ≡ false → behind_colons (58 ∷ y ∷ text) ≡ None
colon_alone y text e = rw e refl

moved : (x : ℕ) (text l r left right : List ℕ) → x ∷ l ≡ left → r ≡ right → text ≡ l ++ 58 ∷ 58 ∷ r → x ∷ text ≡ left ++ 58 ∷ 58 ∷ right
moved x text l r left right same same' e = rw (← same, ← same') (ap (λ (t : List ℕ). x ∷ t) e)

found_here : (text found left right : List ℕ) → [] ≡ left → found ≡ right → text ≡ 58 ∷ 58 ∷ found → text ≡ left ++ 58 ∷ 58 ∷ right
found_here text found left right same same' e = rw (← same, ← same') e

module _ (x : ℕ) (text left right : List ℕ) (further : (l r : List ℕ) → around_colons text ≡ Some (l, r) → text ≡ l ++ 58 ∷ 58 ∷ r) where
  colons_here : (o : Option (List ℕ)) → behind_colons (x ∷ text) ≡ o → around x text o ≡ Some (left, right)
      → x ∷ text ≡ left ++ 58 ∷ 58 ∷ right
  colons_here None none e =
      let k = mapped_from (with_front (x ∷ [])) (around_colons text) (left, right) e in
      moved x text k.0.0 k.0.1 left right (ap (λ (s : List ℕ × List ℕ). s.0) k.2) (ap (λ (s : List ℕ × List ℕ). s.1) k.2)
      (further k.0.0 k.0.1 k.1)
  colons_here (Some found) is e =
      let same : ◌≡◌ {A = List ℕ × List ℕ} ([], found) (left, right) = same_Some ([], found) (left, right) e in
      found_here (x ∷ text) found left right (ap (λ (s : List ℕ × List ℕ). s.0) same) (ap (λ (s : List ℕ × List ℕ). s.1) same)
      (behind_read (x ∷ text) found is)

pub colons_read : (text left right : List ℕ) → around_colons text ≡ Some (left, right) → text ≡ left ++ 58 ∷ 58 ∷ right
colons_read [] left right e = absurd cc
colons_read (x ∷ text) left right e =
    colons_here x text left right (λ l r k. colons_read text l r k) (behind_colons (x ∷ text)) refl (sym (colons_are x text) ∙ e)

-- ---- a text of parts has no two colons in a row

pub past_part : (part rest : List ℕ) → lacks 58 part ≡ true
    → around_colons (part ++ rest) ≡ option_map (with_front part) (around_colons rest)
past_part [] rest e = sym (front_nothing (around_colons rest))
past_part (x ∷ part) rest e =
    elim (cases_Bool (eqb x 58)) [
      | inl is ↦ (let no : false ≡ true = rw is at e in absurd cc)
      | inr no' ↦ (
          let further = past_part part rest (rw no' at e) in
          colons_are x (part ++ rest) ∙ rw (no_colon x (part ++ rest) no') (rw further (front_twice (x ∷ []) part (around_colons rest))))
    ]

-- a text whose first octet is no colon
abbrev Starts : List ℕ → Type 0
Starts text = (x : ℕ) × (rest : List ℕ) × (eqb x 58 ≡ false) × (text ≡ x ∷ rest)

part_starts : (part rest : List ℕ) → IsPart part → Starts (part ++ rest)
part_starts [] rest is = absurd (omega arith)
part_starts (x ∷ part) rest is =
    elim (cases_Bool (eqb x 58)) [
      | inl is' ↦ (let no : false ≡ true = rw is' at is.1 in absurd cc)
      | inr no' ↦ (x, part ++ rest, no', refl)
    ]

past_colon : (text : List ℕ) → Starts text → around_colons (58 ∷ text) ≡ option_map (with_front (58 ∷ [])) (around_colons text)
past_colon text starts =
    let k = starts.3 in
    colons_are 58 text ∙ rw k (rw (colon_alone starts.0 starts.1 starts.2) refl)

past_parts : (texts : List (List ℕ)) (rest : List ℕ) → 0 < length texts → AllByRecursion IsPart texts
    → Starts (join_with_byte 58 texts ++ rest)
    × (around_colons (join_with_byte 58 texts ++ rest) ≡ option_map (with_front (join_with_byte 58 texts)) (around_colons rest))
past_parts [] rest some each = absurd (omega arith)
past_parts (text ∷ []) rest some each = (part_starts text rest each.0, past_part text rest each.0.1)
past_parts (text ∷ next ∷ texts) rest some each =
    let others : List ℕ = join_with_byte 58 (next ∷ texts) in
    let k = past_parts (next ∷ texts) rest (omega arith) each.1 in
    let whole' : (text ++ 58 ∷ others) ++ rest ≡ text ++ (58 ∷ (others ++ rest)) = append_assoc text (58 ∷ others) rest in
    let after : around_colons (58 ∷ (others ++ rest)) ≡ option_map (with_front (58 ∷ others)) (around_colons rest) =
    past_colon (others ++ rest) k.0 ∙ rw k.1 (front_twice (58 ∷ []) others (around_colons rest)) in (
      rw whole' (part_starts text (58 ∷ (others ++ rest)) each.0),
      rw whole' (past_part text (58 ∷ (others ++ rest)) each.0.1 ∙ rw after (front_twice text (58 ∷ others) (around_colons rest))),
    )

pub no_colons : (closing : Bool) (text octets : List ℕ) → GroupsText closing text octets → around_colons text ≡ None
no_colons closing text octets is =
    let parts = are_parts closing is.groups octets is.are in
    let k = (past_parts is.groups [] parts.0 parts.1).1 in
    rw is.joined (rw append-nil at k)

pub colons_again : (left front right : List ℕ) → SideText false left front → around_colons (left ++ 58 ∷ 58 ∷ right) ≡ Some (left, right)
colons_again left front right (inl none) = rw (none.0) refl
colons_again left front right (inr is) =
    let parts = are_parts false is.groups front is.are in
    let k = (past_parts is.groups (58 ∷ 58 ∷ right) parts.0 parts.1).1 in
    rw is.joined (k ∙ ap (λ (l : List ℕ). Some (l, right)) (append-nil (join_with_byte 58 is.groups)))

-- ---- the whole text

around_read : (text octets : List ℕ) (o : Option (List ℕ × List ℕ)) → around_colons text ≡ o → ipv6_around text o ≡ Some octets
    → V6Text text octets
around_read text octets None none e =
    let k = steps_of sixteen (groups true (parted 58 text)) octets e in
    let sized = k.2 in
    let len : length k.0 ≡ 16 = grind (arith, nat_tests, sized) in
    let same : k.0 ≡ octets = grind (arith, nat_tests, sized) in
    whole (rw same at (text_read true text k.0 k.1)) (rw same at len)
around_read text octets (Some sides) is e =
    let k = steps_of
    (λ (front : List ℕ). option_and_then (λ (end : List ℕ). filled front end) (side true sides.1)) (side false sides.0) octets e in
    let m = steps_of (λ (end : List ℕ). filled k.0 end) (side true sides.1) octets k.2 in
    let full = m.2 in
    let short : length k.0 + length m.0 ≤ 14 = grind (arith, nat_tests, full) in
    let same : octets ≡ k.0 ++ replicate (16 - (length k.0 + length m.0)) 0 ++ m.0 = grind (arith, nat_tests, full) in
    shortened sides.0 sides.1 k.0 m.0 (colons_read text sides.0 sides.1 is) (side_read false sides.0 k.0 k.1)
    (side_read true sides.1 m.0 m.1) short same

pub ipv6_read : (text octets : List ℕ) → ipv6 text ≡ Some octets → V6Text text octets
ipv6_read text octets e = around_read text octets (around_colons text) refl e

pub ipv6_again : (text octets : List ℕ) → V6Text text octets → ipv6 text ≡ Some octets
ipv6_again text octets (whole is len) =
    rw (no_colons true text octets is) (rw (text_again true text octets is) (grind (arith, nat_tests, len)))
ipv6_again text octets (shortened left right front end is one two short same) =
    let full : filled front end ≡ Some octets = rw same (grind (arith, nat_tests, short)) in
    rw (is, colons_again left front right one) (rw (side_again false left front one, side_again true right end two) full)
