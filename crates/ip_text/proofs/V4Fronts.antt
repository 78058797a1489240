-- An IPv4 text is what is read of it number by number.
use Rattle.std.proofs.Common.{◌≡◌, ℕ, false, List, [], ◌∷◌, ◌++◌, length, Option, Some, None, refl, sym, ap, ◌∙◌, arith, eqb, if◌then◌else◌}
use Rattle.std.specs.Option.{option_and_then}
use Rattle.std.specs.Char.{is_ascii_digit}
use Rattle.std.proofs.lemmas.Bool.Decides.{nat_tests}
use Rattle.std.proofs.lemmas.Option.{same_Some}
use Rattle.std.proofs.lemmas.List.{append-nil}
use Rattle.ip_text.specs.Addresses.{NumberText, V4Text, numbers}
use Rattle.ip_text.specs.Parts.{row, behind_row, behind_front}
use Rattle.ip_text.specs.Readers.{ipv4_number, number_in_front, dotted_number, ipv4}
use Rattle.ip_text.proofs.Lists.{steps_of, mapped_from}
use Rattle.ip_text.proofs.Rows.{Ends, row_and, row_of}
use Rattle.ip_text.proofs.V4Texts.{number_read, number_again, ipv4_read, ipv4_again}

-- ---- a number in front

pub front_again : (first rest : List ℕ) (number : ℕ) → NumberText first number → Ends is_ascii_digit rest
    → number_in_front (first ++ rest) ≡ Some (number, rest)
front_again first rest number is ends =
    let k = row_of is_ascii_digit first rest is.digits ends in
    rw (k.0, k.1, number_again first number is) refl

dotted_again : (first rest : List ℕ) (number : ℕ) → NumberText first number → Ends is_ascii_digit rest
    → dotted_number (46 ∷ (first ++ rest)) ≡ Some (number, rest)
dotted_again first rest number is ends = front_again first rest number is ends

pub record FrontRead (text : List ℕ) (number : ℕ) (rest : List ℕ) : Type 0 where
  pub first : List ℕ
  pub joined : text ≡ first ++ rest
  pub is : NumberText first number

pub front_read : (text : List ℕ) (found : ℕ × List ℕ) → number_in_front text ≡ Some found → FrontRead text found.0 found.1
front_read text found e =
    let k = mapped_from (λ (number : ℕ). (number, behind_row is_ascii_digit text)) (ipv4_number (row is_ascii_digit text)) found e in
    record {
      first = row is_ascii_digit text;
      joined = sym (row_and is_ascii_digit text) ∙ ap (λ (l : List ℕ). row is_ascii_digit text ++ l) (ap (λ (p : ℕ × List ℕ). p.1) k.2);
      is = number_read (row is_ascii_digit text) found.0 (k.1 ∙ ap (λ (p : ℕ × List ℕ). Some (p.0)) k.2);
    }

pub behind_mark : (mark : ℕ) (text rest : List ℕ) → behind_front mark text ≡ Some rest → text ≡ mark ∷ rest
behind_mark mark [] rest e = absurd cc
behind_mark mark (x ∷ text) rest e =
    let first : x ≡ mark = grind (arith, nat_tests) in
    let same : text ≡ rest = grind (arith, nat_tests) in
    rw (first, same) refl

dotted_read : (text : List ℕ) (found : ℕ × List ℕ) → dotted_number text ≡ Some found
    → (rest : List ℕ) × (text ≡ 46 ∷ rest) × FrontRead rest found.0 found.1
dotted_read text found e =
    let k = steps_of number_in_front (behind_front 46 text) found e in
    (k.0, behind_mark 46 text k.0 k.1, front_read k.0 found k.2)

-- ---- four numbers

abbrev ended : ℕ → ℕ → ℕ → ℕ × List ℕ → Option (List ℕ)
ended a b c fourth = if eqb (length fourth.1) 0 then Some (a ∷ b ∷ c ∷ fourth.0 ∷ []) else None

abbrev from_third : ℕ → ℕ → ℕ × List ℕ → Option (List ℕ)
from_third a b third = option_and_then (ended a b third.0) (dotted_number third.1)

abbrev from_second : ℕ → ℕ × List ℕ → Option (List ℕ)
from_second a second = option_and_then (from_third a second.0) (dotted_number second.1)

abbrev from_first : ℕ × List ℕ → Option (List ℕ)
from_first first = option_and_then (from_second first.0) (dotted_number first.1)

abbrev pub by_numbers : List ℕ → Option (List ℕ)
by_numbers text = option_and_then from_first (number_in_front text)

numbers_again : (text octets : List ℕ) → V4Text text octets → by_numbers text ≡ Some octets
numbers_again text octets (numbers first second third fourth a b c d is one two three four octets-is) =
    let k = front_again first (46 ∷ (second ++ 46 ∷ (third ++ 46 ∷ fourth))) a one refl in
    let l = dotted_again second (46 ∷ (third ++ 46 ∷ fourth)) b two refl in
    let m = dotted_again third (46 ∷ fourth) c three refl in
    let n : dotted_number (46 ∷ fourth) ≡ Some (d, []) = rw append-nil at (dotted_again fourth [] d four tt) in
    rw is (rw k (rw l (rw m (rw n (rw octets-is refl)))))

nothing_left : (rest : List ℕ) (a b c d : ℕ) (octets : List ℕ) → ended a b c (d, rest) ≡ Some octets
    → (rest ≡ []) × (a ∷ b ∷ c ∷ d ∷ [] ≡ octets)
nothing_left [] a b c d octets e = (refl, same_Some (a ∷ b ∷ c ∷ d ∷ []) octets e)
nothing_left (x ∷ rest) a b c d octets e =
    let some : eqb (length (x ∷ rest)) 0 ≡ false = grind (arith, nat_tests) in
    absurd (let no : None ≡ Some octets = rw some at e in cc)

numbers_read : (text octets : List ℕ) → by_numbers text ≡ Some octets → V4Text text octets
numbers_read text octets e =
    let one = steps_of from_first (number_in_front text) octets e in
    let two = steps_of (from_second one.0.0) (dotted_number one.0.1) octets one.2 in
    let three = steps_of (from_third one.0.0 two.0.0) (dotted_number two.0.1) octets two.2 in
    let four = steps_of (ended one.0.0 two.0.0 three.0.0) (dotted_number three.0.1) octets three.2 in
    let end = nothing_left four.0.1 one.0.0 two.0.0 three.0.0 four.0.0 octets four.2 in
    let a = front_read text one.0 one.1 in
    let b = dotted_read one.0.1 two.0 two.1 in
    let c = dotted_read two.0.1 three.0 three.1 in
    let d = dotted_read three.0.1 four.0 four.1 in
    let last : d.0 ≡ d.2.first = d.2.joined ∙ rw (end.0) (append-nil d.2.first) in
    let third : c.0 ≡ c.2.first ++ 46 ∷ d.2.first = c.2.joined
    ∙ ap (λ (l : List ℕ). c.2.first ++ l) (d.1 ∙ ap (λ (l : List ℕ). 46 ∷ l) last) in
    let second : b.0 ≡ b.2.first ++ 46 ∷ (c.2.first ++ 46 ∷ d.2.first) =
    b.2.joined ∙ ap (λ (l : List ℕ). b.2.first ++ l) (c.1 ∙ ap (λ (l : List ℕ). 46 ∷ l) third) in
    let first : text ≡ a.first ++ 46 ∷ (b.2.first ++ 46 ∷ (c.2.first ++ 46 ∷ d.2.first)) =
    a.joined ∙ ap (λ (l : List ℕ). a.first ++ l) (b.1 ∙ ap (λ (l : List ℕ). 46 ∷ l) second) in
    numbers a.first b.2.first c.2.first d.2.first one.0.0 two.0.0 three.0.0 four.0.0 first a.is b.2.is c.2.is d.2.is (sym end.1)

same_answers : {A : Type 0} (o p : Option A) → ((x : A) → o ≡ Some x → p ≡ Some x) → ((x : A) → p ≡ Some x → o ≡ Some x) → o ≡ p
same_answers None None there back = refl
same_answers None (Some x) there back = back x refl
same_answers (Some x) p there back = sym (there x refl)

pub numbers_are : (text : List ℕ) → by_numbers text ≡ ipv4 text
numbers_are text =
    same_answers (by_numbers text) (ipv4 text) (λ octets e. ipv4_again text octets (numbers_read text octets e))
    (λ octets e. numbers_again text octets (ipv4_read text octets e))
