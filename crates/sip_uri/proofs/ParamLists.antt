-- Parameters one after another are what their readers read.
use Rattle.std.proofs.Common.{◌≡◌, ℕ, zero, suc, ◌<◌, true, false, List, [], ◌∷◌, ◌++◌, length, map, get_or, Some, None, refl, sym, ◌∙◌, inl, inr, arith, append_assoc}
use Rattle.std.specs.List.{AllByRecursion, AllPairs}
use Rattle.std.specs.Str.{bytes_eq}
use Rattle.std.proofs.lemmas.Bool.{cases_Bool}
use Rattle.std.proofs.lemmas.List.{append-nil, map-append, length-append, get_or_append_left, get_or_at}
use Rattle.std.proofs.lemmas.List.Quantifiers.{all_pairs_push}
use Rattle.dns_name.specs.Labels.{small_letters}
use Rattle.ip_text.specs.Parts.{before}
use Rattle.sip_uri.specs.Uris.{value_at}
use Rattle.sip_uri.specs.Readers.Params.{name_of, is_same, is_param, stands_in, fault_behind, params_fault, value_of}
use Rattle.sip_uri.specs.declared.refusal.UriRefusal.TheVariants.{BadParam, RepeatedParam}
use Rattle.sip_uri.proofs.ParamTexts.{names_same, names_other, param_of}

abbrev pub Part : List ℕ → Type 0
Part part = is_param part ≡ true

abbrev pub Differ : List ℕ → List ℕ → Type 0
Differ a b = a ≡ b → ⊥

abbrev pub part_key : List ℕ → List ℕ
part_key part = small_letters (name_of part)

abbrev pub keys : List (List ℕ) → List (List ℕ)
keys parts = map part_key parts

-- ---- names that stood before

new_key : (earlier : List (List ℕ)) (part : List ℕ) → stands_in earlier part ≡ false → (k : ℕ) (d : List ℕ) → k < length (keys earlier)
    → Differ (get_or (keys earlier) k d) (part_key part)
new_key [] part e k d within same = omega arith
new_key (other ∷ earlier) part e zero d within same =
    let is = names_same (name_of other) (name_of part) same in
    let no : true ≡ false = rw is at e in
    cc
new_key (other ∷ earlier) part e (suc k) d within same =
    elim (cases_Bool (is_same (name_of other) (name_of part))) [
      | inl is ↦ (let no : true ≡ false = rw is at e in cc)
      | inr no' ↦ new_key earlier part (rw no' at e) k d (omega arith) same
    ]

key_new : (earlier : List (List ℕ)) (part : List ℕ)
    → ((k : ℕ) (d : List ℕ) → k < length (keys earlier) → Differ (get_or (keys earlier) k d) (part_key part))
    → stands_in earlier part ≡ false
key_new [] part new = refl
key_new (other ∷ earlier) part new =
    let first = names_other (name_of other) (name_of part) (λ same. new 0 [] (omega arith) same) in
    rw first (key_new earlier part (λ k d within same. new (suc k) d (omega arith) same))

keys_push : (earlier : List (List ℕ)) (part : List ℕ) → keys (earlier ++ part ∷ []) ≡ keys earlier ++ part_key part ∷ []
keys_push earlier part = map-append part_key earlier (part ∷ [])

pub record Good (parts : List (List ℕ)) (all : List (List ℕ)) : Type 0 where
  pub each : AllByRecursion Part parts
  pub apart : AllPairs Differ (keys all)

no_fault_behind : (earlier parts : List (List ℕ)) → fault_behind earlier parts ≡ None → AllPairs Differ (keys earlier)
    → Good parts (earlier ++ parts)
no_fault_behind earlier [] e apart = record { each = tt; apart = rw append-nil apart }
no_fault_behind earlier (part ∷ parts) e apart =
    elim (cases_Bool (is_param part)) [
      | inl good ↦ elim (cases_Bool (stands_in earlier part)) [
        | inl again ↦ (let no : Some RepeatedParam ≡ None = rw (good, again) at e in absurd cc)
        | inr new ↦ (
            let apart' : AllPairs Differ (keys (earlier ++ part ∷ [])) =
            rw keys_push (all_pairs_push Differ (keys earlier) (part_key part) apart (new_key earlier part new)) in
            let rest = no_fault_behind (earlier ++ part ∷ []) parts (rw (good, new) at e) apart' in
            record { each = (good, rest.each); apart = rw append_assoc at rest.apart })
      ]
      | inr bad ↦ (let no : Some BadParam ≡ None = rw bad at e in absurd cc)
    ]

pub none_bad : (parts : List (List ℕ)) → params_fault parts ≡ None → Good parts parts
none_bad parts e = no_fault_behind [] parts e (λ i j d lt within. absurd (omega arith))

stands_not : (earlier : List (List ℕ)) (part : List ℕ) (parts : List (List ℕ)) → AllPairs Differ (keys (earlier ++ part ∷ parts))
    → stands_in earlier part ≡ false
stands_not earlier part parts apart =
    let all : keys (earlier ++ part ∷ parts) ≡ keys earlier ++ part_key part ∷ keys parts = map-append part_key earlier (part ∷ parts) in
    let apart' : AllPairs Differ (keys earlier ++ part_key part ∷ keys parts) = rw all at apart in
    key_new earlier part (λ k d within same.
    let long : length (keys earlier) < length (keys earlier ++ part_key part ∷ keys parts) =
    omega (arith, length-append (keys earlier) (part_key part ∷ keys parts)) in
    let one = get_or_append_left (keys earlier) (part_key part ∷ keys parts) d k within in
    let two = get_or_at (keys earlier) (part_key part) (keys parts) d (length (keys earlier)) refl in
    apart' k (length (keys earlier)) d within long (one ∙ same ∙ sym two))

fault_behind_none : (earlier parts : List (List ℕ)) → AllByRecursion Part parts → AllPairs Differ (keys (earlier ++ parts))
    → fault_behind earlier parts ≡ None
fault_behind_none earlier [] each apart = refl
fault_behind_none earlier (part ∷ parts) each apart =
    let new = stands_not earlier part parts apart in
    let apart' : AllPairs Differ (keys ((earlier ++ part ∷ []) ++ parts)) = rw append_assoc apart in
    rw (each.0, new) (fault_behind_none (earlier ++ part ∷ []) parts each.1 apart')

pub good_none : (parts : List (List ℕ)) → Good parts parts → params_fault parts ≡ None
good_none parts good = fault_behind_none [] parts good.each good.apart

-- ---- values

pub value_of-at : (name key : List ℕ) → small_letters name ≡ key → (parts : List (List ℕ))
    → value_of name parts ≡ value_at key (map param_of parts)
value_of-at name key same [] = refl
value_of-at name key same (part ∷ parts) =
    elim (cases_Bool (is_same (name_of part) name)) [
      | inl is ↦ (let is' : bytes_eq (small_letters (before 61 part)) key ≡ true = rw same at is in rw (is, is') refl)
      | inr no' ↦ (let no'' : bytes_eq (small_letters (before 61 part)) key ≡ false =
          rw same at no' in rw (no', no'') (value_of-at name key same parts))
    ]
