-- The first records of an answer.
use Rattle.std.proofs.Common.{◌≡◌, ℕ, ◌≤◌, Bool, List, ◌++◌, length, map, take, drop, sym, ap, ◌∙◌, append_assoc, arith}
use Rattle.std.specs.List.{filter}
use Rattle.std.proofs.lemmas.List.{map-append, take-append-drop, take-append-le, take_all}
use Rattle.std.proofs.lemmas.List.Elements.{filter-append}
use Rattle.dns_message.specs.declared.resource.Record.{Record}
use Rattle.dns_zone.specs.declared.zone.ZoneEntry.{ZoneEntry}

module _ (is_of : Record → Bool) (of : ZoneEntry → Record) (start : List Record) (entries : List ZoneEntry) where
  abbrev pub passed : ℕ → List Record
  passed count = start ++ filter is_of (map of (take count entries))

  split : (count : ℕ) → start ++ filter is_of (map of entries) ≡ passed count ++ filter is_of (map of (drop count entries))
  split count =
      ap (λ (l : List ZoneEntry). start ++ filter is_of (map of l)) (sym (take-append-drop count entries))
      ∙ ap (λ (l : List Record). start ++ filter is_of l) (map-append of (take count entries) (drop count entries))
      ∙ ap (λ (l : List Record). start ++ l) (filter-append is_of (map of (take count entries)) (map of (drop count entries)))
      ∙ sym (append_assoc start (filter is_of (map of (take count entries))) (filter is_of (map of (drop count entries))))

  pub filled : (count : ℕ) → length (passed count) ≡ 46 → passed count ≡ take 46 (start ++ filter is_of (map of entries))
  filled count full =
      let front : take 46 (passed count ++ filter is_of (map of (drop count entries))) ≡ passed count =
      take-append-le 46 (passed count) (filter is_of (map of (drop count entries))) (omega (arith, full)) ∙ take_all 46 (passed count)
      (omega (arith, full)) in
      sym (ap (take 46) (split count) ∙ front)

  pub whole : (count : ℕ) → length entries ≤ count → length (passed count) ≤ 46
      → passed count ≡ take 46 (start ++ filter is_of (map of entries))
  whole count all few =
      let same : passed count ≡ start ++ filter is_of (map of entries) =
      ap (λ (l : List ZoneEntry). start ++ filter is_of (map of l)) (take_all count entries all) in
      sym (take_all 46 (passed count) few) ∙ ap (take 46) same
