-- The fields of a line, one after the other.
use Rattle.std.proofs.Common.{◌≡◌, ℕ, ◌+◌, ◌<◌, ◌≤◌, true, false, cond, List, [], ◌∷◌, ◌++◌, length, take, drop, get_or, refl, sym, ap, ◌∙◌, arith}
use Rattle.std.specs.Borrow.{Bor}
use Rattle.std.specs.Prelude.{◌==◌}
use Rattle.dns_zone.specs.Views.{texts}
use Rattle.std.specs.List.{filter, slice_split}
use Rattle.std.proofs.lemmas.List.{append-nil, length-append, length-map, take-append-drop, take_all}
use Rattle.std.proofs.lemmas.List.Elements.{filter_more, filter-append}
use Rattle.dns_zone.specs.Lines.{fields_of, is_field}

abbrev pub parts : List ℕ → List (List ℕ)
parts line = slice_split (λ octet. octet == 32) line

module _ (line : List ℕ) where
  abbrev pub passed : ℕ → List (List ℕ)
  passed count = filter is_field (take count (parts line))

  module _ (count : ℕ) (part : List ℕ) (within : count < length (parts line)) (is : part ≡ get_or (parts line) count part) where
    more : passed (count + 1) ≡ passed count ++ cond (is_field part) (part ∷ []) []
    more = filter_more is_field (parts line) count part within ∙ ap (λ (p : List ℕ). passed count ++ cond (is_field p) (p ∷ []) []) (sym is)

    pub skips : is_field part ≡ false → passed (count + 1) ≡ passed count
    skips e = rw e at more ∙ append-nil (passed count)

    pub takes : is_field part ≡ true → passed (count + 1) ≡ passed count ++ part ∷ []
    takes e = rw e at more

    few : length (passed (count + 1)) ≤ length (fields_of line)
    few =
        let split : fields_of line ≡ passed (count + 1) ++ filter is_field (drop (count + 1) (parts line)) =
        ap (filter is_field) (sym (take-append-drop (count + 1) (parts line))) ∙ filter-append is_field (take (count + 1) (parts line))
        (drop (count + 1) (parts line)) in
        omega (arith, ap length split, length-append (passed (count + 1)) (filter is_field (drop (count + 1) (parts line))))

    pub overflows : is_field part ≡ true → length (passed count) ≡ 10 → 10 < length (fields_of line)
    overflows e full = omega (arith, few, full, ap length (takes e), length-append (passed count) (part ∷ []))

  pub all_passed : (count : ℕ) → count ≡ length (parts line) → passed count ≡ fields_of line
  all_passed count e = ap (filter is_field) (take_all count (parts line) (omega (arith, e)))

pub texts-push : (fields : List (Bor (List ℕ))) (field : Bor (List ℕ)) → texts (fields ++ field ∷ []) ≡ texts fields ++ field.now ∷ []
texts-push [] field = refl
texts-push (first ∷ others) field = ap (λ (l : List (List ℕ)). first.now ∷ l) (texts-push others field)

pub length-texts : (fields : List (Bor (List ℕ))) → length (texts fields) ≡ length fields
length-texts fields = length-map fields (λ (field : Bor (List ℕ)). field.now)
