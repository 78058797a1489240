-- What is found at an offset of a run of labels.
use Rattle.std.proofs.Common.{◌≡◌, ℕ, ◌+◌, ◌-◌, ◌<◌, ◌≤◌, List, ◌∷◌, length, take, drop, get_or, slice_range, refl, sym, ap, ◌∙◌, arith, add-zero}
use Rattle.std.proofs.lemmas.List.{length-take, length-take-le, length-drop, get_or-take, get_or-drop, drop-drop, take-take}
use Rattle.std.proofs.lemmas.Slice.{between_to_end, between_is}
use Rattle.dns_name.specs.Offsets.{OctetAt, LabelsAt, root, label, pointer}
use Rattle.dns_name.specs.Pieces.{LabelPiece, PointerPiece, NothingAt}
use Rattle.dns_name.proofs.Runs.{ends_later, from_label}

pub OctetAt-longer : (octets message : List ℕ) (p octet : ℕ) → octets ≡ take (length octets) message → OctetAt octets p octet
    → OctetAt message p octet
OctetAt-longer octets message p octet front here =
    let len : length octets ≤ length message = omega (arith, ap length front, length-take (length octets) message) in
    let lt : p < length octets = here.within in
    record {
      within = omega arith;
      is = sym (ap (λ (l : List ℕ). get_or l p 0) front ∙ get_or-take (length octets) message p 0 lt) ∙ here.is;
    }

pub nothing_past : (octets : List ℕ) (p : ℕ) → length octets ≤ p → NothingAt octets p
nothing_past octets p past message s end labels front here = omega (arith, ends_later message here)

no_such_octet : (message : List ℕ) {p s end octet : ℕ} {labels : List (List ℕ)} → OctetAt message p octet → 63 < octet → octet < 192
    → LabelsAt message p s labels end → ⊥
no_such_octet message here low high (root o e) = omega (arith, here.is, o.is)
no_such_octet message here low high (label n o some short f rest) = omega (arith, here.is, o.is)
no_such_octet message here low high (pointer a b there o o' back rest before e) = omega (arith, here.is, o.is)

pub nothing_reserved : (octets : List ℕ) (p octet : ℕ) → OctetAt octets p octet → 63 < octet → octet < 192 → NothingAt octets p
nothing_reserved octets p octet here low high message s end labels front there =
    absurd (no_such_octet message (OctetAt-longer octets message p octet front here) low high there)

pub nothing_cut : (octets : List ℕ) (p n : ℕ) → OctetAt octets p n → 0 < n → n ≤ 63 → length octets < p + 1 + n → NothingAt octets p
nothing_cut octets p n here some short cut message s end labels front there =
    let k = from_label message p s n (OctetAt-longer octets message p n front here) some short there in
    omega (arith, ends_later message k.2)

end_of_pointer : (message : List ℕ) {p s end octet : ℕ} {labels : List (List ℕ)} → OctetAt message p octet → 192 ≤ octet
    → LabelsAt message p s labels end → end ≡ p + 2
end_of_pointer message here high (root o e) = absurd (omega (arith, here.is, o.is))
end_of_pointer message here high (label n o some short f rest) = absurd (omega (arith, here.is, o.is))
end_of_pointer message here high (pointer a b there o o' back rest before e) = e

pub nothing_half : (octets : List ℕ) (p octet : ℕ) → OctetAt octets p octet → 192 ≤ octet → length octets ≤ p + 1 → NothingAt octets p
nothing_half octets p octet here high half message s end labels front there =
    omega (arith, end_of_pointer message (OctetAt-longer octets message p octet front here) high there)

-- the octets from p on are a first one and others
module _ (octets : List ℕ) (p : ℕ) (behind : List ℕ) (first : ℕ) (others : List ℕ) (from_p : behind ≡ slice_range octets p (length octets))
    (cut : behind ≡ first ∷ others) where
  tail : drop p octets ≡ first ∷ others
  tail = sym (between_to_end octets p (length octets) (omega arith)) ∙ sym from_p ∙ cut

  tail_within : p < length octets
  tail_within = omega (arith, ap length tail, length-drop p octets)

  pub first_there : OctetAt octets p first
  first_there = record {
    within = tail_within;
    is = ap (λ (k : ℕ). get_or octets k 0) (sym (add-zero p)) ∙ sym (get_or-drop p octets 0 0) ∙ ap (λ (l : List ℕ). get_or l 0 0) tail;
  }

  pub others_there : drop (p + 1) octets ≡ others
  others_there = sym (drop-drop 1 p octets) ∙ ap (drop 1) tail

  pub length-others : length others + p + 1 ≡ length octets
  length-others = omega (arith, ap length tail, length-drop p octets, tail_within)

  pub second_there : (second : ℕ) → 0 < length others → second ≡ get_or others 0 0 → OctetAt octets (p + 1) second
  second_there second some e = record {
    within = omega (arith, length-others);
    is = ap (λ (k : ℕ). get_or octets k 0) (sym (add-zero (p + 1))) ∙ sym (get_or-drop (p + 1) octets 0 0) ∙ ap
        (λ (l : List ℕ). get_or l 0 0) others_there ∙ sym e;
  }

  pub label_there : (text : List ℕ) → 0 < first → first ≤ 63 → first ≤ length others → text ≡ slice_range others 0 first
      → LabelPiece octets p text
  label_there text some short within e =
      let len : length text ≡ first = ap length e ∙ length-take (first - 0) others ∙ omega arith in
      let size : p + 1 + first - (p + 1) ≡ first - 0 = omega arith in
      let same : slice_range others 0 first ≡ slice_range octets (p + 1) (p + 1 + first) = rw (size, others_there) refl in
      record {
        some = omega arith;
        short = omega arith;
        behind = rw len first_there;
        is = rw len (e ∙ same);
      }

-- ---- the octets are the first of a message

front_of : (message : List ℕ) (limit : ℕ) → limit ≤ length message → take limit message ≡ take (length (take limit message)) message
front_of message limit le =
    let len : length (take limit message) ≡ limit = length-take-le limit message le in
    rw len refl

module _ (message : List ℕ) (limit p : ℕ) (le : limit ≤ length message) where
  pub OctetAt-front : (octet : ℕ) → OctetAt (take limit message) p octet → OctetAt message p octet × (p < limit)
  OctetAt-front octet here = (
    OctetAt-longer (take limit message) message p octet (front_of message limit le) here,
    omega (arith, here.within, length-take limit message),
  )

  pub LabelPiece-front : (text : List ℕ) → LabelPiece (take limit message) p text → LabelPiece message p text
  LabelPiece-front text piece =
      let n : ℕ = length text in
      let whole : p + 1 + n ≤ limit =
      omega (
        arith,
        ap length piece.is,
        length-take (p + 1 + n - (p + 1)) (drop (p + 1) (take limit message)),
        length-drop (p + 1) (take limit message),
        length-take limit message,
        piece.some,
      ) in
      let longer : slice_range (take limit message) (p + 1) (p + 1 + n) ≡ slice_range message (p + 1) (p + 1 + n) =
      between_is (take limit message) (p + 1) (p + 1 + n) ∙ ap (drop (p + 1)) (take-take (p + 1 + n) limit message whole) ∙ sym
      (between_is message (p + 1) (p + 1 + n)) in
      record {
        some = piece.some;
        short = piece.short;
        behind = (OctetAt-front n piece.behind).0;
        is = piece.is ∙ longer;
      }

  pub PointerPiece-front : (target : ℕ) → PointerPiece (take limit message) p target → PointerPiece message p target × (p + 2 ≤ limit)
  PointerPiece-front target piece = (
    record {
      high = piece.high;
      low = piece.low;
      first = OctetAt-longer (take limit message) message p (192 + piece.high) (front_of message limit le) piece.first;
      second = OctetAt-longer (take limit message) message (p + 1) piece.low (front_of message limit le) piece.second;
      leads = piece.leads;
    },
    omega (arith, piece.second.within, length-take limit message),
  )

  pub nothing_within : NothingAt (take limit message) p → (s end : ℕ) (labels : List (List ℕ)) → LabelsAt message p s labels end
      → limit < end
  nothing_within nothing s end labels here =
      omega (arith, nothing message s end labels (front_of message limit le) here, length-take-le limit message le)
