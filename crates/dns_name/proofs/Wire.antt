-- Labels and their octets without pointers determine one another.
use Rattle.std.proofs.Common.{◌≡◌, ℕ, zero, suc, ◌<◌, ◌≤◌, Bool, List, [], ◌∷◌, ◌++◌, length, take, drop, nat_eq, Some, refl, sym, ap, ◌∙◌, arith}
use Rattle.std.specs.Bool.{Decides}
use Rattle.std.specs.Cmp.Lexicographic.{pointwise}
use Rattle.std.proofs.lemmas.Slice.Eq.{slice_eq-Decides, bytes_eq-Decides}
use Rattle.std.proofs.lemmas.Bool.Decides.{Decides-eqb, same_from_decides}
use Rattle.std.specs.List.{AllByRecursion}
use Rattle.std.proofs.lemmas.List.{take_at, drop_at, length-append}
use Rattle.dns_name.specs.Labels.{IsLabel, IsName, IsWire, wire_of, first_labels, labels_of, same_name, parent_of}

pub wire_of-some : (labels : List (List ℕ)) → 0 < length (wire_of labels)
wire_of-some [] = omega arith
wire_of-some (label ∷ labels) = omega arith

pub same_labels : (a b : List (List ℕ)) → wire_of a ≡ wire_of b → a ≡ b
same_labels [] [] e = refl
same_labels [] (y ∷ ys) e =
    absurd (omega (arith, ap length e, length-append y (wire_of ys), wire_of-some ys))
same_labels (x ∷ xs) [] e =
    absurd (omega (arith, ap length e, length-append x (wire_of xs), wire_of-some xs))
same_labels (x ∷ xs) (y ∷ ys) e =
    let heads : length x ≡ length y = cc in
    let tails : x ++ wire_of xs ≡ y ++ wire_of ys = cc in
    let first : x ≡ y =
    sym (take_at x (wire_of xs) (length y) heads) ∙ ap (take (length y)) tails ∙ take_at y (wire_of ys) (length y) refl in
    let others : wire_of xs ≡ wire_of ys =
    sym (drop_at x (wire_of xs) (length y) heads) ∙ ap (drop (length y)) tails ∙ drop_at y (wire_of ys) (length y) refl in
    let rest = same_labels xs ys others in
    cc

first_labels-wire_of : (n : ℕ) (labels : List (List ℕ)) → AllByRecursion IsLabel labels → length (wire_of labels) ≤ n
    → first_labels n (wire_of labels) ≡ labels
first_labels-wire_of zero labels each le = absurd (omega (arith, wire_of-some labels))
first_labels-wire_of (suc n) [] each le = refl
first_labels-wire_of (suc n) ([] ∷ labels) each le = absurd (omega (arith, each.0.some))
first_labels-wire_of (suc n) ((x ∷ xs) ∷ labels) each le =
    let first : take (suc (length xs)) ((x ∷ xs) ++ wire_of labels) ≡ x ∷ xs = take_at (x ∷ xs) (wire_of labels) (suc (length xs)) refl in
    let behind : drop (suc (length xs)) ((x ∷ xs) ++ wire_of labels) ≡ wire_of labels =
    drop_at (x ∷ xs) (wire_of labels) (suc (length xs)) refl in
    let rest = first_labels-wire_of n labels each.1 (omega (arith, length-append xs (wire_of labels))) in
    cc (ap (first_labels n) behind)

pub labels_of-wire_of : (labels : List (List ℕ)) → AllByRecursion IsLabel labels → labels_of (wire_of labels) ≡ labels
unfolding labels_of
labels_of-wire_of labels each = first_labels-wire_of (length (wire_of labels)) labels each (omega arith)

pub IsWire-from_name : (octets : List ℕ) (labels : List (List ℕ)) → IsName labels → octets ≡ wire_of labels → IsWire octets
IsWire-from_name octets labels name e =
    let back : labels_of octets ≡ labels = ap labels_of e ∙ labels_of-wire_of labels name.each in
    record {
      name = rw back name;
      whole = ap wire_of back ∙ sym e;
    }

pub root_has_one : (labels : List (List ℕ)) → (length (wire_of labels) ≡ 1 → labels ≡ []) × (labels ≡ [] → length (wire_of labels) ≡ 1)
root_has_one [] = (λ _. refl, λ _. refl)
root_has_one (label ∷ labels) = (
  λ one. absurd (omega (arith, one, length-append label (wire_of labels), wire_of-some labels)),
  λ none. absurd cc,
)

pub same_name-decides : (a b : List (List ℕ)) → Decides (same_name a b) (a ≡ b)
same_name-decides a b = slice_eq-Decides bytes_eq-Decides a b (same_name a b) refl

pub same_test : (a b : List (List ℕ)) (r : Bool) → r ≡ pointwise nat_eq (wire_of a) (wire_of b) → r ≡ same_name a b
same_test a b r h =
    let octets = slice_eq-Decides Decides-eqb (wire_of a) (wire_of b) r h in
    same_from_decides r (same_name a b) (λ t. same_labels a b (octets.0 t), λ same. octets.1 (ap wire_of same)) (same_name-decides a b)

-- what stands behind the first label of a name spells its parent
pub record Parent (name : List (List ℕ)) (others : List ℕ) : Type 0 where
  pub labels : List (List ℕ)
  pub is : parent_of name ≡ Some labels
  pub name' : IsName labels
  pub octets : others ≡ wire_of labels

pub behind_first : (name : List (List ℕ)) (octets others : List ℕ) → IsName name → octets ≡ wire_of name → (octets ≡ wire_of [] → ⊥)
    → ((label : List ℕ) (labels : List (List ℕ)) → IsLabel label → octets ≡ wire_of (label ∷ labels) → others ≡ wire_of labels)
    → Parent name others
behind_first [] octets others name is not_root some = absurd (not_root is)
behind_first (label ∷ labels) octets others name is not_root some = record {
  labels = labels;
  is = refl;
  name' = record { each = name.each.1; short = omega (arith, name.short, length-append label (wire_of labels)) };
  octets = some label labels name.each.0 is;
}
