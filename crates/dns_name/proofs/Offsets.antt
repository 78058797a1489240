-- Names in other messages: with the same octets before their end, and written without pointers.
use Rattle.std.proofs.Common.{◌≡◌, ℕ, ◌+◌, ◌-◌, ◌<◌, ◌≤◌, List, [], ◌∷◌, ◌++◌, length, take, drop, get_or, slice_range, refl, sym, ap, ◌∙◌, arith, append_assoc}
use Rattle.std.specs.List.{AllByRecursion}
use Rattle.std.proofs.lemmas.List.{length-take, length-append, get_or-take, get_or_at, take-take, take_at, drop_at}
use Rattle.std.proofs.lemmas.Slice.{between_is}
use Rattle.dns_name.specs.Labels.{IsLabel, IsName, small_letters, wire_of}
use Rattle.dns_name.specs.Offsets.{OctetAt, LabelsAt, root, label, pointer, NameAt}
use Rattle.dns_name.proofs.Runs.{ends_later}

module _ (message other : List ℕ) (k : ℕ) (same : take k message ≡ take k other) where
  octet_stays : (p octet : ℕ) → p < k → OctetAt message p octet → OctetAt other p octet
  octet_stays p octet lt here = record {
    within = omega (arith, here.within, ap length same, length-take k message, length-take k other);
    is = sym (get_or-take k other p 0 lt) ∙ ap (λ (l : List ℕ). get_or l p 0) (sym same) ∙ get_or-take k message p 0 lt ∙ here.is;
  }

  range_stays : (i j : ℕ) → j ≤ k → slice_range message i j ≡ slice_range other i j
  range_stays i j le =
      between_is message i j
      ∙ ap (drop i) (sym (take-take j k message le) ∙ ap (take j) same ∙ take-take j k other le)
      ∙ sym (between_is other i j)

  pub labels_stay : {p s end : ℕ} {labels : List (List ℕ)} → LabelsAt message p s labels end → s ≤ p → end ≤ k
      → LabelsAt other p s labels end
  labels_stay {p = p} (root o e) le le' = root (octet_stays p 0 (omega arith) o) e
  labels_stay {p = p} (label n o some short f rest) le le' =
      let later = ends_later message rest in
      label n (octet_stays p n (omega arith) o) some short (f ∙ ap small_letters (range_stays (p + 1) (p + 1 + n) (omega arith)))
      (labels_stay rest (omega arith) le')
  labels_stay {p = p} (pointer high low there o o' back rest before e) le le' =
      pointer high low there (octet_stays p (192 + high) (omega arith) o) (octet_stays (p + 1) low (omega arith) o') back
      (labels_stay rest (omega arith) (omega arith)) before e

pub NameAt-other : (message other : List ℕ) (p end : ℕ) (name : List (List ℕ)) → NameAt message p p name end
    → take end message ≡ take end other → NameAt other p p name end
NameAt-other message other p end name at same = record {
  labels = labels_stay message other end same at.labels (omega arith) (omega arith);
  short = at.short;
}

-- ---- without pointers

written_label : (front text back : List ℕ)
    → slice_range (front ++ (length text ∷ text ++ back)) (length front + 1) (length front + 1 + length text) ≡ text
written_label front text back =
    let n : length front + 1 + length text - (length front + 1) ≡ length text = omega arith in
    let split : front ++ (length text ∷ text ++ back) ≡ (front ++ length text ∷ []) ++ (text ++ back) =
    sym (append_assoc front (length text ∷ []) (text ++ back)) in
    let behind : drop (length front + 1) (front ++ (length text ∷ text ++ back)) ≡ text ++ back =
    ap (drop (length front + 1)) split ∙ drop_at (front ++ length text ∷ []) (text ++ back) (length front + 1)
    (length-append front (length text ∷ [])) in
    rw (n, behind) (take_at text back (length text) refl)

written_labels : (message front back : List ℕ) (s end : ℕ) (labels : List (List ℕ)) → AllByRecursion IsLabel labels
    → message ≡ front ++ (wire_of labels ++ back) → end ≡ length front + length (wire_of labels)
    → LabelsAt message (length front) s labels end
written_labels message front back s end [] each e e' =
    root (record {
      within = omega (arith, ap length e, length-append front (0 ∷ back));
      is =
          rw e (get_or_at front 0 back 0 (length front) refl);
    }) e'
written_labels message front back s end (first ∷ labels) each e e' =
    let n : ℕ = length first in
    let behind : List ℕ = wire_of labels ++ back in
    let message-is : message ≡ front ++ (n ∷ first ++ behind) =
    e ∙ ap (λ (l : List ℕ). front ++ l) (append_assoc (n ∷ first) (wire_of labels) back) in
    let here : OctetAt message (length front) n = record {
      within = omega (arith, ap length message-is, length-append front (n ∷ first ++ behind));
      is = rw message-is (get_or_at front n (first ++ behind) 0 (length front) refl);
    } in
    let front' : List ℕ = front ++ n ∷ first in
    let offset : length front' ≡ length front + 1 + n = length-append front (n ∷ first) ∙ omega arith in
    let f : first ≡ small_letters (slice_range message (length front + 1) (length front + 1 + n)) =
    rw (message-is, written_label front first behind) (sym each.0.small) in
    let rest = written_labels message front' back s end labels each.1 (message-is ∙ sym (append_assoc front (n ∷ first) behind))
    (e' ∙ omega (arith, offset, length-append first (wire_of labels))) in
    label n here each.0.some each.0.short f (rw offset at rest)

pub NameAt-written : (front back : List ℕ) (name : List (List ℕ)) → IsName name
    → NameAt (front ++ wire_of name ++ back) (length front) (length front) name (length front + length (wire_of name))
NameAt-written front back name is = record {
  labels = written_labels (front ++ wire_of name ++ back) front back (length front) (length front + length (wire_of name)) name is.each
      (append_assoc front (wire_of name) back) refl;
  short = is.short;
}
