-- Status lines.
use Rattle.std.proofs.Common.{◌≡◌, ℕ, ◌+◌, ◌-◌, ◌*◌, ◌≤◌, true, false, not, ◌&&◌, ◌||◌, nat_lt, List, [], ◌∷◌, ◌++◌, Option, Some, None, refl, sym, ap, ◌∙◌, inl, inr, arith, eqb}
use Rattle.std.specs.Char.{is_ascii_digit}
use Rattle.std.specs.Prelude.{codes}
use Rattle.std.specs.Option.{option_map}
use Rattle.std.proofs.lemmas.Bool.{cases_Bool}
use Rattle.std.proofs.lemmas.Bool.Decides.{nat_tests}
use Rattle.std.proofs.lemmas.Option.{same_Some}
use Rattle.sip_options.specs.Readers.Numbers.{status_of, status_in_front}
use Rattle.sip_options.specs.Readers.Words.{BeginsWord, BeginsLine}
use Rattle.sip_options.specs.Replies.{StatusLine}
use Rattle.sip_options.proofs.WordTexts.{word_rest, one_line}

-- what a mapped answer was made of
mapped_from : {A B : Type 0} (f : A → B) (o : Option A) (y : B) → option_map f o ≡ Some y → (x : A) × (o ≡ Some x) × (f x ≡ y)
mapped_from f None y e = absurd cc
mapped_from f (Some x) y e = (x, refl, cc)

-- a text begins with a status between spaces
pub record StatusRead (text : List ℕ) (status : ℕ) (reason : List ℕ) : Type 0 where
  pub first : ℕ
  pub second : ℕ
  pub third : ℕ
  pub joined : text ≡ 32 ∷ first ∷ second ∷ third ∷ 32 ∷ reason
  from : 49 ≤ first
  upto : first ≤ 54
  second_digit : is_ascii_digit second ≡ true
  third_digit : is_ascii_digit third ≡ true
  is : status ≡ 100 * (first - 48) + 10 * (second - 48) + (third - 48)

-- digits are those of a status
record AreDigits (a b d status : ℕ) : Type 0 where
  from : 49 ≤ a
  upto : a ≤ 54
  second_digit : is_ascii_digit b ≡ true
  third_digit : is_ascii_digit d ≡ true
  is : status ≡ 100 * (a - 48) + 10 * (b - 48) + (d - 48)

digits_read : (a b d status : ℕ) → status_of a b d ≡ Some status → AreDigits a b d status
digits_read a b d status e =
    elim (cases_Bool (nat_lt a 49 || nat_lt 54 a || not (is_ascii_digit b) || not (is_ascii_digit d))) [
      | inl bad ↦ (let no : None ≡ Some status = rw bad at e in absurd cc)
      | inr good ↦ (
          let found : Some (10 * (10 * (a - 48) + (b - 48)) + (d - 48)) ≡ Some status = rw good at e in
          let value : 10 * (10 * (a - 48) + (b - 48)) + (d - 48) ≡ status = cc in
          record {
            from = grind (arith, nat_tests);
            upto = grind (arith, nat_tests);
            second_digit = grind (arith, nat_tests);
            third_digit = grind (arith, nat_tests);
            is = omega arith;
          })
    ]

digits_again : (a b d : ℕ) → 49 ≤ a → a ≤ 54 → is_ascii_digit b ≡ true → is_ascii_digit d ≡ true
    → status_of a b d ≡ Some (100 * (a - 48) + 10 * (b - 48) + (d - 48))
digits_again a b d from upto second third =
    let good : nat_lt a 49 || nat_lt 54 a || not (is_ascii_digit b) || not (is_ascii_digit d) ≡ false = grind (arith, nat_tests) in
    let value : 10 * (10 * (a - 48) + (b - 48)) + (d - 48) ≡ 100 * (a - 48) + 10 * (b - 48) + (d - 48) = omega arith in
    rw good (ap (λ (n : ℕ). Some n) value)

pub front_read : (text : List ℕ) (status : ℕ) (reason : List ℕ) → status_in_front text ≡ Some (status, reason)
    → StatusRead text status reason
front_read [] status reason e = absurd cc
front_read (a ∷ []) status reason e = absurd cc
front_read (a ∷ b ∷ []) status reason e = absurd cc
front_read (a ∷ b ∷ d ∷ []) status reason e = absurd cc
front_read (a ∷ b ∷ d ∷ f ∷ []) status reason e = absurd cc
front_read (a ∷ b ∷ d ∷ f ∷ g ∷ more) status reason e =
    elim (cases_Bool (eqb a 32 && eqb g 32)) [
      | inl is ↦ (
          let k = mapped_from (λ (s : ℕ). (s, more)) (status_of b d f) (status, reason) (rw is at e) in
          let digits = digits_read b d f k.0 k.1 in
          let first : a ≡ 32 = grind (arith, nat_tests) in
          let next : g ≡ 32 = grind (arith, nat_tests) in
          let value : k.0 ≡ status = ap (λ (p : ℕ × List ℕ). p.0) k.2 in
          let rest : more ≡ reason = ap (λ (p : ℕ × List ℕ). p.1) k.2 in
          record {
            first = b;
            second = d;
            third = f;
            joined = cc (first, next, rest);
            from = digits.from;
            upto = digits.upto;
            second_digit = digits.second_digit;
            third_digit = digits.third_digit;
            is = sym value ∙ digits.is;
          })
      | inr no' ↦ (let no : ◌≡◌ {A = Option (ℕ × List ℕ)} None (Some (status, reason)) = rw no' at e in absurd cc)
    ]

-- the status and what follows it, in what follows the version
pub line_status : (text : List ℕ) (status : ℕ) (rest behind : List ℕ) → StatusLine text status rest
    → BeginsWord (codes "SIP/2.0") text behind
    → (reason : List ℕ) × (status_in_front behind ≡ Some (status, reason)) × BeginsLine reason rest
line_status text status rest behind is begins =
    let after : List ℕ = is.reason ++ 13 ∷ 10 ∷ rest in
    let own : BeginsWord (codes "SIP/2.0") text (32 ∷ is.first ∷ is.second ∷ is.third ∷ 32 ∷ after) =
    record { front = is.version; is = is.is_version; joined = is.joined } in
    let same : behind ≡ 32 ∷ is.first ∷ is.second ∷ is.third ∷ 32 ∷ after =
    word_rest (codes "SIP/2.0") text behind (32 ∷ is.first ∷ is.second ∷ is.third ∷ 32 ∷ after) begins own in
    let digits = digits_again is.first is.second is.third is.from is.upto is.second_digit is.third_digit in
    let read : status_in_front (32 ∷ is.first ∷ is.second ∷ is.third ∷ 32 ∷ after) ≡ Some (status, after) =
    rw digits (ap (λ (s : ℕ). Some (s, after)) (sym is.is)) in
    (after, ap status_in_front same ∙ read, record { line = is.reason; is = is.is_reason; joined = refl })

pub versionless : (text : List ℕ) (status : ℕ) (rest : List ℕ) → StatusLine text status rest
    → (behind : List ℕ) × BeginsWord (codes "SIP/2.0") text behind
versionless text status rest is = (
  32 ∷ is.first ∷ is.second ∷ is.third ∷ 32 ∷ (is.reason ++ 13 ∷ 10 ∷ rest),
  record { front = is.version; is = is.is_version; joined = is.joined },
)

pub line_made : (text behind : List ℕ) (status : ℕ) (reason rest : List ℕ) → BeginsWord (codes "SIP/2.0") text behind
    → status_in_front behind ≡ Some (status, reason) → BeginsLine reason rest → StatusLine text status rest
line_made text behind status reason rest begins e line =
    let k = front_read behind status reason e in
    let tail : behind ≡ 32 ∷ k.first ∷ k.second ∷ k.third ∷ 32 ∷ (line.line ++ 13 ∷ 10 ∷ rest) =
    k.joined ∙ ap (λ (u : List ℕ). 32 ∷ k.first ∷ k.second ∷ k.third ∷ 32 ∷ u) line.joined in
    record {
      version = begins.front;
      first = k.first;
      second = k.second;
      third = k.third;
      reason = line.line;
      joined = begins.joined ∙ ap (λ (u : List ℕ). begins.front ++ u) tail;
      is_version = begins.is;
      from = k.from;
      upto = k.upto;
      second_digit = k.second_digit;
      third_digit = k.third_digit;
      is = k.is;
      is_reason = line.is;
    }

pub second_of : (a b : ℕ) (x y : List ℕ) → ◌≡◌ {A = Option (ℕ × List ℕ)} (Some (a, x)) (Some (b, y)) → x ≡ y
second_of a b x y e = ap (λ (p : ℕ × List ℕ). p.1) (same_Some _ _ e)

pub line_at : (a b rest : List ℕ) → a ≡ b → BeginsLine a rest → BeginsLine b rest
line_at a b rest e is = rw e at is

-- a message has one status line
pub one_status : (text : List ℕ) (a b : ℕ) (x y : List ℕ) → StatusLine text a x → StatusLine text b y → (a ≡ b) × (x ≡ y)
one_status text a b x y is is' =
    let behind = versionless text a x is in
    let k = line_status text a x behind.0 is behind.1 in
    let l = line_status text b y behind.0 is' behind.1 in
    let same : ◌≡◌ {A = Option (ℕ × List ℕ)} (Some (a, k.0)) (Some (b, l.0)) = sym k.1 ∙ l.1 in
    let status : a ≡ b = ap (λ (p : ℕ × List ℕ). p.0) (same_Some _ _ same) in
    let reason : k.0 ≡ l.0 = second_of a b k.0 l.0 same in
    (status, one_line l.0 x y (line_at k.0 l.0 x reason k.2) l.2)
