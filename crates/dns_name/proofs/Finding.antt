-- The reader of a name: what the labels so far and those at the present offset have to do with the name.
use Rattle.std.proofs.Common.{◌≡◌, ℕ, suc, ◌+◌, ◌*◌, ◌<◌, ◌≤◌, List, [], ◌∷◌, ◌++◌, length, slice_range, Option, Some, None, refl, sym, ap, ◌∙◌, arith, append_assoc}
use Rattle.std.specs.Prelude.{unwrap_or}
use Rattle.std.proofs.lemmas.List.{length-append}
use Rattle.dns_name.specs.Labels.{small_letters, wire_of}
use Rattle.dns_name.specs.Offsets.{OctetAt, LabelsAt, root, label, pointer, NameAt}
use Rattle.dns_name.specs.Pieces.{PointerPiece}
use Rattle.dns_name.specs.Landings.{LeadsTo, LeadsNowhere}
use Rattle.dns_name.proofs.Wire.{wire_of-some, same_labels}
use Rattle.dns_name.proofs.Runs.{ends_later, ends_within, length-label, from_label, from_pointer}

-- The octets are those of the labels before offset p, in a run that began at s and has to end at limit or before.
-- What follows the first pointer, if there was one, is after.
pub record Finding (message : List ℕ) (at p s limit : ℕ) (octets : List ℕ) (after : Option ℕ) : Type 0 where
  -- the labels here complete a name
  pub forth : (labels : List (List ℕ)) (end : ℕ) → LabelsAt message p s labels end → end ≤ limit
      → (name : List (List ℕ)) × LabelsAt message at at name (unwrap_or after end) × (wire_of name ≡ octets ++ wire_of labels)
  -- every name that stands there goes on here
  pub back : (name : List (List ℕ)) (end : ℕ) → LabelsAt message at at name end
      → (labels : List (List ℕ)) × (there : ℕ) × LabelsAt message p s labels there × (there ≤ limit)
      × (wire_of name ≡ octets ++ wire_of labels) × (unwrap_or after there ≡ end)

-- the label in front of the others moves to the octets
moved : (n : ℕ) (octets octets' first : List ℕ) (others labels name : List (List ℕ)) → wire_of name ≡ octets ++ wire_of labels
    → labels ≡ first ∷ others → length first ≡ n
    → octets' ≡ octets ++ n ∷ first → wire_of name ≡ octets' ++ wire_of others
moved n octets octets' first others labels name e labels-is n-is octets'-is = rw (e, labels-is, n-is, octets'-is, append_assoc) refl

pub begun : (message : List ℕ) (at : ℕ) → Finding message at at at (length message) [] None
begun message at = record {
  forth = λ labels end here le. (labels, here, refl);
  back = λ name end here. (name, end, here, ends_within message here, refl, refl);
}

module _ (message : List ℕ) (at p s limit : ℕ) (octets : List ℕ) (after : Option ℕ)
    (so_far : Finding message at p s limit octets after) where
  pub past_label : (n : ℕ) (octets' : List ℕ) → OctetAt message p n → 0 < n → n ≤ 63
      → octets' ≡ octets ++ n ∷ small_letters (slice_range message (p + 1) (p + 1 + n))
      → Finding message at (p + 1 + n) s limit octets' after
  past_label n octets' here some short octets'-is =
      let first : List ℕ = small_letters (slice_range message (p + 1) (p + 1 + n)) in
      record {
        forth = λ labels end rest le.
            let n-is : length first ≡ n = length-label message p n (omega (arith, ends_later message rest, ends_within message rest)) in
            let k = so_far.forth (first ∷ labels) end (label n here some short refl rest) le in
            let e = moved n octets octets' first labels (first ∷ labels) k.0 k.2 refl n-is octets'-is in
            (k.0, k.1, e);
        back = λ name end there.
            let k = so_far.back name end there in
            let h = from_label message p s n here some short k.2 in
            let n-is : length first ≡ n = length-label message p n (omega (arith, ends_later message h.2, ends_within message h.2)) in
            let e = moved n octets octets' first h.0 k.0 name k.4 h.1 n-is octets'-is in
            (h.0, k.1, h.2, k.3, e, k.5);
      }

  pub past_pointer : (target there last : ℕ) → PointerPiece message p target → LeadsTo message target s there last → p + 2 ≤ limit
      → Finding message at there there last octets (Some (unwrap_or after (p + 2)))
  past_pointer target there last piece leads within =
      record {
        forth = λ labels end rest le.
            let k = leads.forth labels end rest le in
            let here = rw piece.leads at k.1 in
            let back : 256 * piece.high + piece.low < s = omega (arith, ends_later message here, k.2) in
            so_far.forth labels (p + 2) (pointer piece.high piece.low k.0 piece.first piece.second back here k.2 refl) within;
        back = λ name end there.
            let k = so_far.back name end there in
            let h = from_pointer message p s piece.high piece.low piece.first piece.second k.2 in
            let here : LabelsAt message target target k.0 h.0 = rw piece.leads h.2 in
            let l = leads.back k.0 h.0 here h.3 in
            (k.0, l.0, l.1, l.2, k.4, rw (← h.4) k.5);
      }

  -- the name ends here
  pub found : OctetAt message p 0 → p + 1 ≤ limit → length octets ≤ 254
      → (name : List (List ℕ)) × NameAt message at at name (unwrap_or after (p + 1)) × (octets ++ 0 ∷ [] ≡ wire_of name)
  found here within short =
      let k = so_far.forth [] (p + 1) (root here refl) within in
      let len : length (wire_of k.0) ≡ length octets + 1 = ap length k.2 ∙ length-append octets (0 ∷ []) in
      (k.0, record { labels = k.1; short = omega arith }, sym k.2)

  -- no name stands there
  pub none_here : ((labels : List (List ℕ)) (end : ℕ) → LabelsAt message p s labels end → limit < end) → (name : List (List ℕ)) (end : ℕ)
      → NameAt message at at name end → ⊥
  none_here none name end there =
      let k = so_far.back name end there.labels in
      omega (arith, none k.0 k.1 k.2, k.3)

  pub no_offset : (target : ℕ) → PointerPiece message p target → LeadsNowhere message target s → (name : List (List ℕ)) (end : ℕ)
      → NameAt message at at name end → ⊥
  no_offset target piece nowhere name end there =
      let k = so_far.back name end there.labels in
      let h = from_pointer message p s piece.high piece.low piece.first piece.second k.2 in
      let here : LabelsAt message target target k.0 h.0 = rw piece.leads h.2 in
      omega (arith, nowhere k.0 h.0 here, h.3)

  pub no_room : (n : ℕ) → OctetAt message p n → 0 < n → n ≤ 63 → 255 < length octets + n + 2 → (name : List (List ℕ)) (end : ℕ)
      → NameAt message at at name end → ⊥
  no_room n here some short long name end there =
      let k = so_far.back name end there.labels in
      let h = from_label message p s n here some short k.2 in
      let first : List ℕ = small_letters (slice_range message (p + 1) (p + 1 + n)) in
      let n-is : length first ≡ n = length-label message p n (omega (arith, ends_later message h.2, ends_within message h.2)) in
      let len = ap length k.4 ∙ length-append octets (wire_of k.0) in
      let len' : length (wire_of k.0) ≡ suc (length (first ++ wire_of h.0)) =
      ap (λ (labels : List (List ℕ)). length (wire_of labels)) h.1 in
      omega (arith, there.short, len, len', length-append first (wire_of h.0), wire_of-some h.0)

  -- the name of these octets and a closing 0
  pub read : OctetAt message p 0 → p + 1 ≤ limit → length octets ≤ 254 → (name : List (List ℕ)) → wire_of name ≡ octets ++ 0 ∷ []
      → NameAt message at at name (unwrap_or after (p + 1))
  read here within short name spelled =
      let k = found here within short in
      let same : k.0 ≡ name = same_labels k.0 name (sym (spelled ∙ k.2)) in
      rw same at k.1
