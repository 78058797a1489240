-- IPv4 texts are what their reader reads.
use Rattle.std.proofs.Common.{◌≡◌, ℕ, ◌<◌, Bool, true, false, not, ◌||◌, List, [], ◌∷◌, ◌++◌, length, Some, refl, sym, ap, arith, eqb}
use Rattle.std.specs.List.{list_all}
use Rattle.std.specs.Char.{is_ascii_digit}
use Rattle.std.proofs.lemmas.Bool.Decides.{nat_tests}
use Rattle.std.proofs.lemmas.Option.{same_Some}
use Rattle.std.proofs.lemmas.List.{length-append}
use Rattle.ip_text.specs.Parts.{before, behind}
use Rattle.ip_text.specs.Addresses.{NumberText, V4Text, numbers}
use Rattle.ip_text.specs.Readers.{ipv4_number, ipv4}
use Rattle.ip_text.proofs.Cutting.{lacks, joined, at_first}
use Rattle.ip_text.proofs.Lists.{steps_of, all_weaker, all-append}

pub number_read : (text : List ℕ) (number : ℕ) → ipv4_number text ≡ Some number → NumberText text number
number_read text number e = record {
  some = grind (arith, nat_tests);
  short = grind (arith, nat_tests);
  digits = grind (arith, nat_tests);
  is = grind (arith, nat_tests);
  low = grind (arith, nat_tests);
}

pub number_again : (text : List ℕ) (number : ℕ) → NumberText text number → ipv4_number text ≡ Some number
number_again text number is = grind (arith, nat_tests, is.some, is.short, is.digits, is.is, is.low)

digits_lack : (octet : ℕ) (text : List ℕ) → is_ascii_digit octet ≡ false → list_all is_ascii_digit text ≡ true → lacks octet text ≡ true
digits_lack octet text other digits = all_weaker is_ascii_digit (λ (x : ℕ). not (eqb x octet)) (λ x e. grind (arith, nat_tests)) text digits

pub ipv4_read : (text octets : List ℕ) → ipv4 text ≡ Some octets → V4Text text octets
unfolding ipv4
ipv4_read text octets e =
    let one = steps_of _ (behind 46 text) octets e in
    let two = steps_of _ (behind 46 one.0) octets one.2 in
    let three = steps_of _ (behind 46 two.0) octets two.2 in
    let a = steps_of _ (ipv4_number (before 46 text)) octets three.2 in
    let b = steps_of _ (ipv4_number (before 46 one.0)) octets a.2 in
    let c = steps_of _ (ipv4_number (before 46 two.0)) octets b.2 in
    let d = steps_of _ (ipv4_number three.0) octets c.2 in
    let third : before 46 two.0 ++ 46 ∷ three.0 ≡ two.0 = rw three.1 at (joined 46 two.0) in
    let second : before 46 one.0 ++ 46 ∷ two.0 ≡ one.0 = rw two.1 at (joined 46 one.0) in
    let first : before 46 text ++ 46 ∷ one.0 ≡ text = rw one.1 at (joined 46 text) in
    numbers (before 46 text) (before 46 one.0) (before 46 two.0) three.0 a.0 b.0 c.0 d.0 (rw (third, second) (sym first))
    (number_read _ a.0 a.1) (number_read _ b.0 b.1) (number_read _ c.0 c.1) (number_read _ d.0 d.1)
    (sym (same_Some (a.0 ∷ b.0 ∷ c.0 ∷ d.0 ∷ []) octets d.2))

pub ipv4_again : (text octets : List ℕ) → V4Text text octets → ipv4 text ≡ Some octets
unfolding ipv4
ipv4_again text octets (numbers first second third fourth a b c d is one two three four octets-is) =
    let dot : is_ascii_digit 46 ≡ false = refl in
    let k = at_first 46 first (second ++ 46 ∷ (third ++ 46 ∷ fourth)) (digits_lack 46 first dot one.digits) in
    let l = at_first 46 second (third ++ 46 ∷ fourth) (digits_lack 46 second dot two.digits) in
    let m = at_first 46 third fourth (digits_lack 46 third dot three.digits) in
    rw (is, k.1) (rw (l.1)
    (rw (m.1) (rw (
      k.0,
      l.0,
      m.0,
      number_again first a one,
      number_again second b two,
      number_again third c three,
      number_again fourth d four,
      octets-is,
    ) refl)))

-- ---- the octets of an IPv4 text

unfoldable pub is_dotted_octet : ℕ → Bool
is_dotted_octet octet = is_ascii_digit octet || eqb octet 46

pub ipv4_octets : (text octets : List ℕ) → V4Text text octets → list_all is_dotted_octet text ≡ true
unfolding is_dotted_octet
ipv4_octets text octets (numbers first second third fourth a b c d is one two three four octets-is) =
    let digits : (part : List ℕ) → list_all is_ascii_digit part ≡ true → list_all is_dotted_octet part ≡ true =
    λ part e. all_weaker is_ascii_digit is_dotted_octet (λ x k. grind (arith, nat_tests)) part e in
    let end = all-append is_dotted_octet third (46 ∷ fourth) (digits third three.digits) (digits fourth four.digits) in
    let end' = all-append is_dotted_octet second (46 ∷ (third ++ 46 ∷ fourth)) (digits second two.digits) end in
    rw is (all-append is_dotted_octet first (46 ∷ (second ++ 46 ∷ (third ++ 46 ∷ fourth))) (digits first one.digits) end')

pub some_in_ipv4 : (text octets : List ℕ) → V4Text text octets → 0 < length text
some_in_ipv4 text octets (numbers first second third fourth a b c d is one two three four octets-is) =
    omega (arith, ap length is, length-append first (46 ∷ (second ++ 46 ∷ (third ++ 46 ∷ fourth))))

pub four_octets : (text octets : List ℕ) → V4Text text octets → length octets ≡ 4
four_octets text octets (numbers first second third fourth a b c d is one two three four octets-is) = ap length octets-is
