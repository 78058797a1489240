-- Readers of parts between separators that have come to a place.
use Rattle.std.proofs.Common.{◌≡◌, ℕ, suc, ◌+◌, ◌-◌, ◌%◌, ◌<◌, ◌≤◌, Bool, true, false, List, [], ◌∷◌, ◌++◌, length, take, get_or, set, map, inl, inr, Option, Some, None, refl, sym, ap, ◌∙◌, arith, append_assoc}
use Rattle.std.specs.List.{list_all}
use Rattle.std.specs.Char.{to_ascii_lowercase}
use Rattle.std.proofs.lemmas.Bool.{cases_Bool, cases_eq}
use Rattle.std.proofs.lemmas.Bool.Decides.{nat_tests}
use Rattle.std.proofs.lemmas.Grind.{get_or-set_at}
use Rattle.std.proofs.lemmas.Slice.Eq.{bytes_eq-Decides}
use Rattle.std.proofs.lemmas.List.{length-map, get_or-set_same, get_or-set_other, length-append, length-take-le, take_more, get_or_at, take_all}
use Rattle.ip_text.specs.Parts.{before, behind, parted}
use Rattle.sip_uri.specs.Readers.Params.{is_param, is_same, name_of, has_name, stands_in, fault_behind, params_fault, value_of, value_so_far, transport_name, maddr_name, AreMarked}
use Rattle.sip_uri.specs.declared.refusal.UriRefusal.TheVariants.{BadParam, RepeatedParam}
use Rattle.ip_text.proofs.Cutting.{parts_more, parts_last}

-- ---- headers

abbrev pub Same : (List ℕ → Bool) → ℕ → List ℕ → List ℕ → Type 0
Same test octet text rest = list_all test (parted octet rest) ≡ list_all test (parted octet text)

module _ (test : List ℕ → Bool) (octet : ℕ) (text rest : List ℕ) (so_far : Same test octet text rest) where
  pub all_more : (more : List ℕ) → behind octet rest ≡ Some more → test (before octet rest) ≡ true → Same test octet text more
  all_more more e good =
      let one : list_all test (before octet rest ∷ parted octet more) ≡ list_all test (parted octet more) = rw good refl in
      sym one ∙ rw (parts_more octet rest more e) at so_far

  pub all_good : behind octet rest ≡ None → test (before octet rest) ≡ true → list_all test (parted octet text) ≡ true
  all_good e good = sym so_far ∙ rw (parts_last octet rest e) (rw good refl)

  one_bad : (o : Option (List ℕ)) → behind octet rest ≡ o → test (before octet rest) ≡ false → list_all test (parted octet text) ≡ false
  one_bad None e bad = sym so_far ∙ rw (parts_last octet rest e) (rw bad refl)
  one_bad (Some more) e bad = sym so_far ∙ rw (parts_more octet rest more e) (rw bad refl)

  pub all_bad : test (before octet rest) ≡ false → list_all test (parted octet text) ≡ false
  all_bad bad = one_bad (behind octet rest) refl bad

-- ---- a name among the first parameters

abbrev pub StandsSoFar : List ℕ → List ℕ → ℕ → List ℕ → ℕ → Type 0
StandsSoFar params name count rest at =
    has_name (take (count - at) (parted 59 rest)) name ≡ has_name (take count (parted 59 params)) name

module _ (params name rest : List ℕ) (count at : ℕ) (so_far : StandsSoFar params name count rest at) (within : at < count) where
  left_is : count - at ≡ suc (count - (at + 1))
  left_is = omega arith

  first_of : (o : Option (List ℕ)) → behind 59 rest ≡ o → is_same (name_of (before 59 rest)) name ≡ true
      → has_name (take count (parted 59 params)) name ≡ true
  first_of None e same = sym so_far ∙ rw (left_is, parts_last 59 rest e) (rw same refl)
  first_of (Some more) e same = sym so_far ∙ rw (left_is, parts_more 59 rest more e) (rw same refl)

  pub stands_here : is_same (name_of (before 59 rest)) name ≡ true → has_name (take count (parted 59 params)) name ≡ true
  stands_here same = first_of (behind 59 rest) refl same

  pub stands_nowhere : behind 59 rest ≡ None → is_same (name_of (before 59 rest)) name ≡ false
      → has_name (take count (parted 59 params)) name ≡ false
  stands_nowhere e other =
      let all : has_name (take (suc (count - (at + 1))) (before 59 rest ∷ [])) name ≡ false =
      ap (λ (l : List (List ℕ)). has_name (before 59 rest ∷ l) name) (take_all (count - (at + 1)) [] (omega arith)) ∙ rw other refl in
      sym so_far ∙ rw (left_is, parts_last 59 rest e) all

  pub stands_further : (more : List ℕ) → behind 59 rest ≡ Some more → is_same (name_of (before 59 rest)) name ≡ false
      → StandsSoFar params name count more (at + 1)
  stands_further more e other =
      let one : has_name (take (suc (count - (at + 1))) (before 59 rest ∷ parted 59 more)) name
      ≡ has_name (take (count - (at + 1)) (parted 59 more)) name = rw other refl in
      sym one ∙ rw (left_is, parts_more 59 rest more e) at so_far

-- ---- the faults of parameters

pub record CheckedSoFar (params rest : List ℕ) (count : ℕ) : Type 0 where
  pub split : take count (parted 59 params) ++ parted 59 rest ≡ parted 59 params
  pub low : count ≤ length (parted 59 params)
  pub bound : count + length rest ≤ length params
  pub fault : fault_behind (take count (parted 59 params)) (parted 59 rest) ≡ params_fault (parted 59 params)

module _ (params rest : List ℕ) (count : ℕ) (so_far : CheckedSoFar params rest count) where
  bad_at : (o : Option (List ℕ)) → behind 59 rest ≡ o → is_param (before 59 rest) ≡ false → params_fault (parted 59 params) ≡ Some BadParam
  bad_at None e bad = sym so_far.fault ∙ rw (parts_last 59 rest e) (rw bad refl)
  bad_at (Some more) e bad = sym so_far.fault ∙ rw (parts_more 59 rest more e) (rw bad refl)

  pub bad_here : is_param (before 59 rest) ≡ false → params_fault (parted 59 params) ≡ Some BadParam
  bad_here bad = bad_at (behind 59 rest) refl bad

  repeated_at : (o : Option (List ℕ)) → behind 59 rest ≡ o → is_param (before 59 rest) ≡ true
      → stands_in (take count (parted 59 params)) (before 59 rest) ≡ true → params_fault (parted 59 params) ≡ Some RepeatedParam
  repeated_at None e good again = sym so_far.fault ∙ rw (parts_last 59 rest e) (rw (good, again) refl)
  repeated_at (Some more) e good again = sym so_far.fault ∙ rw (parts_more 59 rest more e) (rw (good, again) refl)

  pub repeated_here : is_param (before 59 rest) ≡ true → stands_in (take count (parted 59 params)) (before 59 rest) ≡ true
      → params_fault (parted 59 params) ≡ Some RepeatedParam
  repeated_here good again = repeated_at (behind 59 rest) refl good again

  -- the parameters so far, and one more
  module _ (more : List ℕ) (e : behind 59 rest ≡ Some more) where
    split_more : take count (parted 59 params) ++ before 59 rest ∷ parted 59 more ≡ parted 59 params
    split_more = rw (parts_more 59 rest more e) at so_far.split

    within : count < length (parted 59 params)
    within =
        let parts : List (List ℕ) = parted 59 params in
        omega (
          arith,
          ap length split_more,
          length-append (take count parts) (before 59 rest ∷ parted 59 more),
          length-take-le count parts so_far.low,
        )

    pub taken_more : take (count + 1) (parted 59 params) ≡ take count (parted 59 params) ++ before 59 rest ∷ []
    taken_more =
        let parts : List (List ℕ) = parted 59 params in
        let first : List ℕ = before 59 rest in
        let len : length (take count parts) ≡ count = length-take-le count parts so_far.low in
        let is : get_or parts count [] ≡ first =
        ap (λ (l : List (List ℕ)). get_or l count []) (sym split_more) ∙ get_or_at (take count parts) first (parted 59 more) [] count len in
        take_more parts count [] within ∙ ap (λ (l : List ℕ). take count parts ++ l ∷ []) is

  module _ (good : is_param (before 59 rest) ≡ true) (new : stands_in (take count (parted 59 params)) (before 59 rest) ≡ false) where
    pub none_bad : behind 59 rest ≡ None → params_fault (parted 59 params) ≡ None
    none_bad e = sym so_far.fault ∙ rw (parts_last 59 rest e) (rw (good, new) refl)

    pub checked_more : (more : List ℕ) → behind 59 rest ≡ Some more → length more < length rest → CheckedSoFar params more (count + 1)
    checked_more more e shorter =
        let parts : List (List ℕ) = parted 59 params in
        let first : List ℕ = before 59 rest in
        let longer = taken_more more e in
        let fault : fault_behind (take count parts) (first ∷ parted 59 more) ≡ params_fault parts =
        rw (parts_more 59 rest more e) at so_far.fault in
        let step : fault_behind (take count parts) (first ∷ parted 59 more)
        ≡ fault_behind (take count parts ++ first ∷ []) (parted 59 more) = rw (good, new) refl in
        record {
          split = rw (longer, append_assoc) (split_more more e);
          low = omega (arith, within more e);
          bound = omega (arith, so_far.bound);
          fault = rw longer (sym step ∙ fault);
        }

-- ---- the value of a name

abbrev pub ValueSoFar : List ℕ → List ℕ → List ℕ → Type 0
ValueSoFar params name rest = value_of name (parted 59 rest) ≡ value_of name (parted 59 params)

module _ (params name rest : List ℕ) (so_far : ValueSoFar params name rest) where
  value_at : (o : Option (List ℕ)) → behind 59 rest ≡ o → is_same (name_of (before 59 rest)) name ≡ true
      → behind 61 (before 59 rest) ≡ value_of name (parted 59 params)
  value_at None e same = sym (sym so_far ∙ rw (parts_last 59 rest e) (rw same refl))
  value_at (Some more) e same = sym (sym so_far ∙ rw (parts_more 59 rest more e) (rw same refl))

  pub value_here : is_same (name_of (before 59 rest)) name ≡ true → behind 61 (before 59 rest) ≡ value_of name (parted 59 params)
  value_here same = value_at (behind 59 rest) refl same

  pub value_nowhere : behind 59 rest ≡ None → is_same (name_of (before 59 rest)) name ≡ false → value_of name (parted 59 params) ≡ None
  value_nowhere e other = sym so_far ∙ rw (parts_last 59 rest e) (rw other refl)

  pub value_further : (more : List ℕ) → behind 59 rest ≡ Some more → is_same (name_of (before 59 rest)) name ≡ false
      → ValueSoFar params name more
  value_further more e other =
      let one : value_of name (before 59 rest ∷ parted 59 more) ≡ value_of name (parted 59 more) = rw other refl in
      sym one ∙ rw (parts_more 59 rest more e) at so_far

-- ---- the value of a name, once it was found

abbrev pub ValueKept : List ℕ → List ℕ → List ℕ → Option (List ℕ) → Type 0
ValueKept params name rest None = ValueSoFar params name rest
ValueKept params name rest (Some value) = Some value ≡ value_of name (parted 59 params)

module _ (params name rest : List ℕ) where
  kept_last : (found : Option (List ℕ)) (same : Bool) → ValueKept params name rest found → behind 59 rest ≡ None
      → is_same (name_of (before 59 rest)) name ≡ same
      → value_so_far found name (name_of (before 59 rest)) (behind 61 (before 59 rest)) ≡ value_of name (parted 59 params)
  kept_last (Some value) same kept e is = kept
  kept_last None true kept e is = rw is (value_here params name rest kept is)
  kept_last None false kept e is = rw is (sym (value_nowhere params name rest kept e is))

  pub kept_whole : (found : Option (List ℕ)) → ValueKept params name rest found → behind 59 rest ≡ None
      → value_so_far found name (name_of (before 59 rest)) (behind 61 (before 59 rest)) ≡ value_of name (parted 59 params)
  kept_whole found kept e = kept_last found (is_same (name_of (before 59 rest)) name) kept e refl

  kept_here : (value : Option (List ℕ)) → behind 61 (before 59 rest) ≡ value → (value ≡ None → ⊥) → (more : List ℕ)
      → value ≡ value_of name (parted 59 params) → ValueKept params name more value
  kept_here None e some more is = absurd (some refl)
  kept_here (Some v) e some more is = is

  kept_next : (found : Option (List ℕ)) (same : Bool) → ValueKept params name rest found
      → is_same (name_of (before 59 rest)) name ≡ same
      → (is_same (name_of (before 59 rest)) name ≡ true → behind 61 (before 59 rest) ≡ None → ⊥)
      → (more : List ℕ) → behind 59 rest ≡ Some more
      → ValueKept params name more (value_so_far found name (name_of (before 59 rest)) (behind 61 (before 59 rest)))
  kept_next (Some value) same kept is some more e = kept
  kept_next None true kept is some more e =
      rw is (kept_here (behind 61 (before 59 rest)) refl (some is) more (value_here params name rest kept is))
  kept_next None false kept is some more e = rw is (value_further params name rest kept more e is)

  pub kept_more : (found : Option (List ℕ)) → ValueKept params name rest found
      → (is_same (name_of (before 59 rest)) name ≡ true → behind 61 (before 59 rest) ≡ None → ⊥)
      → (more : List ℕ) → behind 59 rest ≡ Some more
      → ValueKept params name more (value_so_far found name (name_of (before 59 rest)) (behind 61 (before 59 rest)))
  kept_more found kept some more e = kept_next found (is_same (name_of (before 59 rest)) name) kept refl some more e

-- a parameter of these names has a value
pub transport_valued : (param : List ℕ) → is_param param ≡ true → is_same (name_of param) transport_name ≡ true
    → behind 61 param ≡ None → ⊥
transport_valued param good is none = let k = rw (none, is) at good in absurd (grind (arith, nat_tests, k))

pub maddr_valued : (param : List ℕ) → is_param param ≡ true → is_same (name_of param) maddr_name ≡ true → behind 61 param ≡ None → ⊥
maddr_valued param good is none = let k = rw (none, is) at good in absurd (grind (arith, nat_tests, k))

-- ---- names that are marked by their lengths

same_length : (name other : List ℕ) → is_same name other ≡ true → length name ≡ length other
same_length name other same =
    sym (length-map name to_ascii_lowercase)
    ∙ ap length ((bytes_eq-Decides (map to_ascii_lowercase name) (map to_ascii_lowercase other)).0 same)
    ∙ length-map other to_ascii_lowercase

still_marked : (lengths : List Bool) (i j : ℕ) → i < length lengths → get_or lengths j false ≡ true
    → get_or (set lengths i true) j false ≡ true
still_marked lengths i j within marked =
    elim (cases_eq j i) [
      | inl same ↦ get_or-set_at lengths i j true false same within
      | inr other ↦ get_or-set_other lengths i j true false other ∙ marked
    ]

pub unmarked : (lengths : List Bool) (earlier : List (List ℕ)) (name : List ℕ) → AreMarked lengths earlier
    → get_or lengths (length name % 64) false ≡ false → has_name earlier name ≡ false
unmarked lengths [] name marked none = refl
unmarked lengths (other ∷ earlier) name marked none =
    elim (cases_Bool (is_same (name_of other) name)) [
      | inl same ↦ (
          let len : length (name_of other) ≡ length name = same_length (name_of other) name same in
          let here : get_or lengths (length name % 64) false ≡ true = rw len at marked.0 in
          let no : true ≡ false = sym here ∙ none in absurd cc)
      | inr other' ↦ rw other' (unmarked lengths earlier name marked.1 none)
    ]

pub marked_more : (lengths : List Bool) (earlier : List (List ℕ)) (param : List ℕ) → length lengths ≡ 64 → AreMarked lengths earlier
    → AreMarked (set lengths (length (name_of param) % 64) true) (earlier ++ param ∷ [])
marked_more lengths [] param size marked =
    (get_or-set_same lengths (length (name_of param) % 64) true false (omega arith), tt)
marked_more lengths (other ∷ earlier) param size marked = (
  still_marked lengths (length (name_of param) % 64) (length (name_of other) % 64) (omega arith) marked.0,
  marked_more lengths earlier param size marked.1,
)
