-- Records that are kept, one after the other.
use Rattle.std.proofs.Common.{◌≡◌, ◌≢◌, ℕ, ◌+◌, ◌<◌, ◌≤◌, List, [], ◌∷◌, ◌++◌, length, take, drop, get_or, Bool, true, false, cond, Option, Some, None, refl, sym, ap, ◌∙◌, arith}
use Rattle.std.specs.Prelude.{min}
use Rattle.std.specs.List.{filter}
use Rattle.std.proofs.lemmas.List.{length_push, take_all, take-append-le, take-append-drop, append-nil}
use Rattle.std.proofs.lemmas.List.Elements.{filter_more, filter-append, filter_map-append}
use Rattle.dns_message.specs.declared.rdata.Rdata.{Rdata}
use Rattle.dns_message.specs.declared.resource.Record.{Record}
use Rattle.dns_name.specs.Labels.{same_name}
use Rattle.dns_answers.specs.Kept.{data_for, has_data, kept_with, data_of}
use Rattle.dns_answers.specs.Lives.{effective_ttl, least_from, ttls}
use Rattle.dns_answers.proofs.LeastLives.{least_push}

-- what a record has for a name is what it has
data_is : {X : Type 0} (data_in : Rdata → Option X) (name : List (List ℕ)) (entry : Record) (x : X) (same : Bool)
    → same_name entry.owner name ≡ same → data_for data_in name entry ≡ Some x → data_in entry.rdata ≡ Some x
data_is data_in name entry x true e is = rw e at is
data_is data_in name entry x false e is =
    let none = rw e at is in
    absurd cc

module _ {X : Type 0} (data_in : Rdata → Option X) (name : List (List ℕ)) (section : List Record) (limit : ℕ) where
  abbrev pub passed : ℕ → List Record
  passed count = filter (has_data data_in name) (take count section)

  -- after so many records of the section
  pub record Keeping (count : ℕ) (items : List X) (life : ℕ) : Type 0 where
    pub few : length items ≤ 32
    pub all : length items ≡ length (passed count)
    pub items_are : items ≡ data_of data_in (passed count)
    pub life_is : life ≡ least_from limit (ttls (passed count))

  pub begun : Keeping 0 [] limit
  begun = record { few = omega arith; all = refl; items_are = refl; life_is = refl }

  module _ (count : ℕ) (items : List X) (life : ℕ) (so_far : Keeping count items life) where
    module _ (entry : Record) (within : count < length section) (is : entry ≡ get_or section count entry) where
      more : passed (count + 1) ≡ passed count ++ cond (has_data data_in name entry) (entry ∷ []) []
      more = filter_more (has_data data_in name) section count entry within ∙ ap
          (λ (e : Record). passed count ++ cond (has_data data_in name e) (e ∷ []) []) (sym is)

      pub passes : None ≡ data_for data_in name entry → Keeping (count + 1) items life
      passes none =
          let same : passed (count + 1) ≡ passed count = rw (← none) at more ∙ append-nil (passed count) in
          record { few = so_far.few; all = rw same so_far.all; items_are = rw same so_far.items_are; life_is = rw same so_far.life_is }

      pub keeps : (x : X) → Some x ≡ data_for data_in name entry → length items ≢ 32
          → Keeping (count + 1) (items ++ x ∷ []) (min life (effective_ttl entry.ttl))
      keeps x some not_full =
          let grown : passed (count + 1) ≡ passed count ++ entry ∷ [] = rw (← some) at more in
          let has : data_in entry.rdata ≡ Some x = data_is data_in name entry x (same_name entry.owner name) refl (sym some) in
          let last : data_of data_in (entry ∷ []) ≡ x ∷ [] = rw has refl in
          record {
            few = omega (arith, so_far.few, not_full, length_push items x);
            all = rw (grown, length_push (passed count) entry, length_push items x) (ap (λ (n : ℕ). n + 1) so_far.all);
            items_are = rw (grown, filter_map-append (λ (e : Record). data_in e.rdata) (passed count) (entry ∷ []), last)
                (ap (λ (l : List X). l ++ x ∷ []) so_far.items_are);
            life_is = rw (grown, least_push limit (passed count) entry) (ap (λ (n : ℕ). min n (effective_ttl entry.ttl)) so_far.life_is);
          }

    kept_is : passed count ≡ kept_with data_in name section → (items ≡ data_of data_in (kept_with data_in name section))
        × (life ≡ least_from limit (ttls (kept_with data_in name section)))
    kept_is same = (rw same at so_far.items_are, rw same at so_far.life_is)

    split : filter (has_data data_in name) section ≡ passed count ++ filter (has_data data_in name) (drop count section)
    split = ap (filter (has_data data_in name)) (sym (take-append-drop count section)) ∙ filter-append (has_data data_in name)
        (take count section) (drop count section)

    pub full : length items ≡ 32 → (items ≡ data_of data_in (kept_with data_in name section))
        × (life ≡ least_from limit (ttls (kept_with data_in name section)))
    full long =
        let size : length (passed count) ≡ 32 = sym so_far.all ∙ long in
        let front : take 32 (passed count ++ filter (has_data data_in name) (drop count section)) ≡ passed count =
        take-append-le 32 (passed count) (filter (has_data data_in name) (drop count section)) (omega arith) ∙ take_all 32 (passed count)
        (omega arith) in
        kept_is (sym (ap (take 32) split ∙ front))

    pub over : length section ≤ count → (items ≡ data_of data_in (kept_with data_in name section))
        × (life ≡ least_from limit (ttls (kept_with data_in name section)))
    over all =
        let few : length (passed count) ≤ 32 = omega (arith, so_far.few, so_far.all) in
        let whole : passed count ≡ filter (has_data data_in name) section =
        ap (filter (has_data data_in name)) (take_all count section all) in
        kept_is (sym (take_all 32 (passed count) few) ∙ ap (take 32) whole)
