-- White space and words.
use Rattle.std.proofs.Common.{◌≡◌, ℕ, Bool, true, false, List, [], ◌∷◌, ◌++◌, length, take, drop, Option, Some, None, IfSome, IfNone, refl, sym, ap, ◌∙◌, inl, inr, arith}
use Rattle.std.specs.Cmp.Lexicographic.{same_text, other_text}
use Rattle.std.specs.Char.{to_ascii_lowercase}
use Rattle.std.specs.Option.{MatchOption}
use Rattle.std.proofs.lemmas.Bool.{cases_Bool}
use Rattle.std.proofs.lemmas.Bool.Decides.{nat_tests}
use Rattle.std.proofs.lemmas.List.{append-nil, length-map, take-append-drop, take_at, drop_at}
use Rattle.std.specs.Str.{bytes_eq}
use Rattle.sip_options.specs.Readers.Words.{BeginsWord, BeginsWhiteWord, BeginsLine}
use Rattle.sip_options.specs.Texts.{Many, Ends, IsOctet, IsWhite, IsWord, IsAlone, is_white, is_in_line}
use Rattle.sip_options.proofs.Octets.{no_octet, same_cut}

-- ---- what a clause says of an answer that is there, or is not

pub none_given : {A : Type 0} (o : Option A) (P : Type 0) → P → IfNone o P
none_given None P p = p
none_given (Some x) P p = tt

pub match_some : {A : Type 0} (o : Option A) (P : Type 0) (Q R : A → Type 0) → MatchOption o P Q → ((x : A) → Q x → R x) → IfSome o R
match_some None P Q R m then = tt
match_some (Some x) P Q R m then = then x m

pub match_none : {A : Type 0} (o : Option A) (P R : Type 0) (Q : A → Type 0) → MatchOption o P Q → (P → R) → IfNone o R
match_none None P R Q m then = then m
match_none (Some x) P R Q m then = tt

-- ---- texts with a front of a known length

pub same_rest : (a b x y : List ℕ) → length a ≡ length b → a ++ x ≡ b ++ y → x ≡ y
same_rest a b x y same e =
    sym (drop_at a x (length a) refl) ∙ ap (λ (u : List ℕ). drop (length a) u) e ∙ drop_at b y (length a) (sym same)

pub exactly_is : (word text rest : List ℕ) → bytes_eq (take (length word) text) word ≡ true → rest ≡ drop (length word) text
    → text ≡ word ++ rest
exactly_is word text rest is e =
    let front : take (length word) text ≡ word = same_text (take (length word) text) word (sym is) in
    let whole : take (length word) text ++ drop (length word) text ≡ word ++ rest = cc (front, e) in
    sym (take-append-drop (length word) text) ∙ whole

pub exactly_not : (word text : List ℕ) → bytes_eq (take (length word) text) word ≡ false → (rest : List ℕ) → text ≡ word ++ rest → ⊥
exactly_not word text is rest e =
    other_text (take (length word) text) word (sym is) (ap (λ (u : List ℕ). take (length word) u) e ∙ take_at word rest (length word) refl)

-- ---- white space

pub many_at : {IsOne : List ℕ → Type 0} (a b : List ℕ) → a ≡ b → Many IsOne a → Many IsOne b
many_at a b e many = rw e at many

pub ends_at : (class : ℕ → Bool) (a b : List ℕ) → a ≡ b → Ends (IsOctet class) a → Ends (IsOctet class) b
ends_at class a b e ends = λ one rest is joined. ends one rest is (e ∙ joined)

pub white_read : (text front rest : List ℕ) → text ≡ front ++ rest → IsWhite front → rest ≡ [] → IsWhite text
white_read text front rest e many none' =
    let same : text ≡ front = e ∙ ap (λ (u : List ℕ). front ++ u) none' ∙ append-nil front in
    many_at front text (sym same) many

-- ---- a word alone

module _ (word text front rest : List ℕ) (joined : text ≡ front ++ rest) (white : IsWhite front) where
  pub alone_read : (back : List ℕ) → rest ≡ word ++ back → IsWhite back → IsAlone word text
  alone_read back e is = record {
    front = front;
    back = back;
    joined = joined ∙ ap (λ (u : List ℕ). front ++ u) e;
    front_white = white;
    back_white = is;
  }

  pub alone_back : ((more : List ℕ) → Ends (IsOctet is_white) (word ++ more)) → Ends (IsOctet is_white) rest → (is : IsAlone word text)
      → rest ≡ word ++ is.back
  alone_back starts ends is =
      (same_cut is_white text front rest is.front (word ++ is.back) joined white ends is.joined is.front_white (starts is.back)).1

-- ---- words in letters of any case

pub word_length : (word a b : List ℕ) → IsWord word a → IsWord word b → length a ≡ length b
word_length word a b is is' =
    sym (length-map a to_ascii_lowercase) ∙ ap length (is ∙ sym is') ∙ length-map b to_ascii_lowercase

pub word_rest : (word text x y : List ℕ) → BeginsWord word text x → BeginsWord word text y → x ≡ y
word_rest word text x y is is' =
    same_rest is.front is'.front x y (word_length word is.front is'.front is.is is'.is) (sym is.joined ∙ is'.joined)

white_lower : (x : ℕ) → is_white x ≡ true → to_ascii_lowercase x ≡ x
white_lower x is = grind (arith, nat_tests)

-- a word that begins with no white space does so in letters of any case
pub word_starts : (x : ℕ) (word : List ℕ) → is_white (to_ascii_lowercase x) ≡ false → (front rest : List ℕ) → IsWord (x ∷ word) front
    → Ends (IsOctet is_white) (front ++ rest)
word_starts x word away [] rest is = absurd cc
word_starts x word away (y ∷ front) rest is =
    let same : to_ascii_lowercase y ≡ to_ascii_lowercase x = cc in
    elim (cases_Bool (is_white y)) [
      | inl white ↦ (
          let kept : y ≡ to_ascii_lowercase x = sym (white_lower y white) ∙ same in
          let no : is_white (to_ascii_lowercase x) ≡ true = rw kept at white in
          absurd (let differ : true ≡ false = sym no ∙ away in cc))
      | inr other ↦ no_octet is_white y (front ++ rest) other
    ]

module _ (word : List ℕ) (starts : (front rest : List ℕ) → IsWord word front → Ends (IsOctet is_white) (front ++ rest)) where
  -- what follows white space and a word
  pub white_word_behind : (text front rest after : List ℕ) → text ≡ front ++ rest → IsWhite front → Ends (IsOctet is_white) rest
      → (is : BeginsWhiteWord word text after) → BeginsWord word rest (is.back ++ after)
  white_word_behind text front rest after e white ends is =
      let k = same_cut is_white text front rest is.front (is.found ++ (is.back ++ after)) e white ends is.joined is.front_white
      (starts is.found (is.back ++ after) is.is) in
      record { front = is.found; is = is.is; joined = k.1 }

  pub white_word_rest : (text x y : List ℕ) → BeginsWhiteWord word text x → BeginsWhiteWord word text y → x ≡ y
  white_word_rest text x y is is' =
      let k = white_word_behind text is.front (is.found ++ (is.back ++ x)) y is.joined is.front_white
      (starts is.found (is.back ++ x) is.is) is' in
      let own : BeginsWord word (is.found ++ (is.back ++ x)) (is.back ++ x) = record { front = is.found; is = is.is; joined = refl } in
      let l = word_rest word (is.found ++ (is.back ++ x)) (is.back ++ x) (is'.back ++ y) own k in
      (same_cut is_white (is.back ++ x) is.back x is'.back y refl is.back_white is.ends l is'.back_white is'.ends).1

-- ---- lines

line_break : (text front behind : List ℕ) → text ≡ front ++ behind → Many (IsOctet is_in_line) front → Ends (IsOctet is_in_line) behind
    → (rest : List ℕ) → BeginsLine text rest → behind ≡ 13 ∷ 10 ∷ rest
line_break text front behind e many ends rest is =
    (same_cut is_in_line text front behind is.line (13 ∷ 10 ∷ rest) e many ends is.joined is.is (no_octet is_in_line 13 (10 ∷ rest) refl)).1

pub line_none : (text front behind : List ℕ) → text ≡ front ++ behind → Many (IsOctet is_in_line) front → Ends (IsOctet is_in_line) behind
    → ((rest : List ℕ) → behind ≡ 13 ∷ 10 ∷ rest → ⊥) → (rest : List ℕ) → BeginsLine text rest → ⊥
line_none text front behind e many ends no_break rest is =
    no_break rest (line_break text front behind e many ends rest is)

-- a line ends at one place
pub one_line : (text x y : List ℕ) → BeginsLine text x → BeginsLine text y → x ≡ y
one_line text x y is is' =
    let e = line_break text is.line (13 ∷ 10 ∷ x) is.joined is.is (no_octet is_in_line 13 (10 ∷ x) refl) y is' in
    cc (e)
