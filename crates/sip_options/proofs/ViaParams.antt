-- The parameters of a Via, one of which is its branch.
use Rattle.std.proofs.Common.{◌≡◌, ℕ, ◌<◌, List, [], ◌∷◌, ◌++◌, length, refl, sym, ap, ◌∙◌, arith}
use Rattle.std.specs.Prelude.{codes}
use Rattle.std.proofs.lemmas.List.{append-nil, length-append}
use Rattle.sip_options.specs.Readers.Vias.{BeginsPart, BeginsParam}
use Rattle.sip_options.specs.Readers.Words.{BeginsWhiteWord}
use Rattle.sip_options.specs.Texts.{Ends, IsOctet, IsWord, is_white}
use Rattle.sip_options.specs.Vias.{IsPart, PartEnds, IsNamedBranch, IsBranchValue, HasBranch, here, later, FirstHasBranch}
use Rattle.sip_options.proofs.Octets.{no_octet, no_octet-nil}
use Rattle.sip_options.proofs.ViaPieces.{part_ends, part_cut}
use Rattle.sip_options.proofs.WordTexts.{word_starts, white_word_rest}

-- ---- what is said of a text, moved along an equation

value_at : (branch a b : List ℕ) → a ≡ b → IsBranchValue branch a → IsBranchValue branch b
value_at branch a b e is = rw e at is

named_at : (a b value : List ℕ) → a ≡ b → IsNamedBranch a value → IsNamedBranch b value
named_at a b value e is = rw e at is

has_at : (branch a b : List ℕ) → a ≡ b → HasBranch branch a → HasBranch branch b
has_at branch a b e has = rw e at has

ends_here : (text more : List ℕ) → text ≡ 59 ∷ more → PartEnds text
ends_here text more e = rw e refl

-- ---- the parameter `branch`

pub name_starts : (front rest : List ℕ) → IsWord (codes "branch") front → Ends (IsOctet is_white) (front ++ rest)
name_starts front rest is = word_starts 98 (codes "ranch") refl front rest is

pub named_made : (text rest value : List ℕ) → BeginsWhiteWord (codes "branch") text rest → rest ≡ 61 ∷ value → IsNamedBranch text value
named_made text rest value is e = record {
  front = is.front;
  name = is.found;
  back = is.back;
  joined = is.joined ∙ ap (λ (u : List ℕ). is.front ++ (is.found ++ (is.back ++ u))) e;
  is_name = is.is;
  front_white = is.front_white;
  back_white = is.back_white;
}

pub named_word : (text value : List ℕ) → IsNamedBranch text value → BeginsWhiteWord (codes "branch") text (61 ∷ value)
named_word text value is = record {
  front = is.front;
  found = is.name;
  back = is.back;
  front_white = is.front_white;
  is = is.is_name;
  back_white = is.back_white;
  ends = no_octet is_white 61 value refl;
  joined = is.joined;
}

one_value : (text a b : List ℕ) → IsNamedBranch text a → IsNamedBranch text b → a ≡ b
one_value text a b is is' =
    let e = white_word_rest (codes "branch") name_starts text (61 ∷ a) (61 ∷ b) (named_word text a is) (named_word text b is') in
    cc (e)

pub value_made : (branch value rest : List ℕ) → BeginsWhiteWord branch value rest → rest ≡ [] → IsBranchValue branch value
value_made branch value rest is none' =
    let last : is.back ++ rest ≡ is.back = ap (λ (u : List ℕ). is.back ++ u) none' ∙ append-nil is.back in
    record {
      front = is.front;
      value = is.found;
      back = is.back;
      joined = is.joined ∙ ap (λ (u : List ℕ). is.front ++ (is.found ++ u)) last;
      is_value = is.is;
      front_white = is.front_white;
      back_white = is.back_white;
    }

pub value_word : (branch value : List ℕ) → IsBranchValue branch value → BeginsWhiteWord branch value []
value_word branch value is = record {
  front = is.front;
  found = is.value;
  back = is.back;
  front_white = is.front_white;
  is = is.is_value;
  back_white = is.back_white;
  ends = no_octet-nil is_white;
  joined = is.joined ∙ ap (λ (u : List ℕ). is.front ++ (is.value ++ u)) (sym (append-nil is.back));
}

-- ---- parameters

pub one_part : (text a b x y : List ℕ) → BeginsPart text a x → BeginsPart text b y → (a ≡ b) × (x ≡ y)
one_part text a b x y is is' = part_cut text a x b y is.joined is.is (part_ends x is.ends) is'

pub has_ends : (branch text : List ℕ) → HasBranch branch text → PartEnds text
has_ends branch text (here t param rest value part ends named is joined) = ends_here text (param ++ rest) joined
has_ends branch text (later t param rest part other has joined) = ends_here text (param ++ rest) joined

module _ (branch text param behind : List ℕ) (begins : BeginsParam text param behind) where
  -- another reading of the first parameter is the same
  same_param : (p rest : List ℕ) → IsPart p → PartEnds rest → text ≡ 59 ∷ p ++ rest → (p ≡ param) × (rest ≡ behind)
  same_param p rest part ends joined =
      let e : 59 ∷ begins.0 ≡ 59 ∷ (p ++ rest) = sym begins.1 ∙ joined in
      let tail : begins.0 ≡ p ++ rest = cc in
      one_part begins.0 p param rest behind (record { is = part; ends = ends; joined = tail }) begins.2

  pub params_forth : ((value : List ℕ) → IsNamedBranch param value → ⊥) → HasBranch branch behind → HasBranch branch text
  params_forth other has = later text param behind begins.2.is other has (begins.1 ∙ ap (λ (u : List ℕ). 59 ∷ u) begins.2.joined)

  pub params_here : (value : List ℕ) → IsNamedBranch param value → IsBranchValue branch value → HasBranch branch text
  params_here value named is =
      here text param behind value begins.2.is begins.2.ends named is (begins.1 ∙ ap (λ (u : List ℕ). 59 ∷ u) begins.2.joined)

  pub params_back : ((value : List ℕ) → IsNamedBranch param value → ⊥) → HasBranch branch text → HasBranch branch behind
  params_back other (here t p rest value part ends named is joined) =
      let k = same_param p rest part ends joined in
      absurd (other value (named_at p param value k.0 named))
  params_back other (later t p rest part other' has joined) =
      let k = same_param p rest part (has_ends branch rest has) joined in
      has_at branch rest behind k.1 has

  pub params_value : (value : List ℕ) → IsNamedBranch param value → HasBranch branch text → IsBranchValue branch value
  params_value value named (here t p rest v part ends named' is joined) =
      let k = same_param p rest part ends joined in
      value_at branch v value (one_value param v value (named_at p param v k.0 named') named) is
  params_value value named (later t p rest part other has joined) =
      let k = same_param p rest part (has_ends branch rest has) joined in
      absurd (other value (named_at param p value (sym k.0) named))

pub params_none : (branch text : List ℕ) → ((param rest : List ℕ) → BeginsParam text param rest → ⊥) → HasBranch branch text → ⊥
params_none branch text none' (here t p rest value part ends named is joined) =
    none' p rest (p ++ rest, joined, record { is = part; ends = ends; joined = refl })
params_none branch text none' (later t p rest part other has joined) =
    none' p rest (p ++ rest, joined, record { is = part; ends = has_ends branch rest has; joined = refl })

pub shorter_param : (text param rest : List ℕ) → BeginsParam text param rest → length rest < length text
shorter_param text param rest begins =
    omega (arith, ap length begins.1, ap length begins.2.joined, length-append param rest)

-- ---- the first Via

pub first_made : (branch value front params : List ℕ) → BeginsPart value front params → HasBranch branch params
    → FirstHasBranch branch value
first_made branch value front params begins has =
    record { front = front; params = params; joined = begins.joined; is_front = begins.is; has = has }

pub first_begins : (branch value : List ℕ) → (is : FirstHasBranch branch value) → BeginsPart value is.front is.params
first_begins branch value is = record { is = is.is_front; ends = has_ends branch is.params is.has; joined = is.joined }

pub first_back : (branch value front params : List ℕ) → BeginsPart value front params → FirstHasBranch branch value
    → HasBranch branch params
first_back branch value front params begins is =
    let k = one_part value is.front front is.params params (first_begins branch value is) begins in
    has_at branch is.params params k.1 is.has
