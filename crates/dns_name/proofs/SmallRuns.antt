-- Runs of labels in small letters: how they grow by a label, and how they end.
use Rattle.std.proofs.Common.{◌≡◌, ℕ, suc, ◌+◌, ◌-◌, ◌<◌, ◌≤◌, List, [], ◌∷◌, ◌++◌, length, take, drop, slice_range, refl, sym, ap, ◌∙◌, arith, append_assoc}
use Rattle.std.specs.Char.{to_ascii_lowercase}
use Rattle.std.proofs.lemmas.List.{map-append, drop_more, take-take, length-map, length-append, length-take, length-drop}
use Rattle.std.proofs.lemmas.List.Folds.{drop_split}
use Rattle.std.proofs.lemmas.Slice.{between_is}
use Rattle.std.proofs.lemmas.Str.Ascii.{lowercase_is}
use Rattle.dns_name.specs.Labels.{small_letters}
use Rattle.dns_name.specs.Pieces.{LabelPiece}
use Rattle.dns_name.specs.Offsets.{OctetAt}

pub run_none : (message : List ℕ) (p : ℕ) → slice_range message p p ≡ []
run_none message p =
    let none : p - p ≡ 0 = omega arith in
    rw none refl

run_grows : (message : List ℕ) (s p q : ℕ) → s ≤ p → p ≤ q → slice_range message s q ≡ slice_range message s p ++ slice_range message p q
run_grows message s p q le le' =
    let front : slice_range (take q message) s p ≡ slice_range message s p =
    between_is (take q message) s p ∙ ap (drop s) (take-take p q message le') ∙ sym (between_is message s p) in
    between_is message s q
    ∙ drop_split (take q message) s p le
    ∙ ap (λ (l : List ℕ). l ++ drop p (take q message)) front
    ∙ ap (λ (l : List ℕ). slice_range message s p ++ l) (sym (between_is message p q))

octet_first : (message : List ℕ) (p q octet : ℕ) → OctetAt message p octet → p < q
    → slice_range message p q ≡ octet ∷ slice_range message (p + 1) q
octet_first message p q octet here lt =
    let size : q - p ≡ suc (q - (p + 1)) = omega arith in
    rw (size, drop_more message p 0 here.within) (ap (λ (k : ℕ). k ∷ slice_range message (p + 1) q) here.is)

-- the run goes on with an octet that is no capital
pub small_grows : (message passed : List ℕ) (s p q octet : ℕ) → OctetAt message p octet → octet ≤ 63 → s ≤ p → p < q
    → small_letters (passed ++ slice_range message s q)
    ≡ small_letters (passed ++ slice_range message s p) ++ octet ∷ small_letters (slice_range message (p + 1) q)
small_grows message passed s p q octet here short le lt =
    let run : List ℕ = slice_range message s p in
    let behind : List ℕ = slice_range message (p + 1) q in
    let whole : slice_range message s q ≡ run ++ octet ∷ behind =
    run_grows message s p q le (omega arith) ∙ ap (λ (l : List ℕ). run ++ l) (octet_first message p q octet here lt) in
    let small : to_ascii_lowercase octet ≡ octet = (lowercase_is octet).1 (omega arith) in
    ap (λ (l : List ℕ). small_letters (passed ++ l)) whole
    ∙ ap small_letters (sym (append_assoc passed run (octet ∷ behind)))
    ∙ map-append to_ascii_lowercase (passed ++ run) (octet ∷ behind)
    ∙ ap (λ (k : ℕ). small_letters (passed ++ run) ++ k ∷ small_letters behind) small

pub small_length : (message passed : List ℕ) (s p : ℕ) → length (slice_range message s p) + s ≡ p
    → length (small_letters (passed ++ slice_range message s p)) + s ≡ length passed + p
small_length message passed s p size =
    omega (
      arith,
      length-map (passed ++ slice_range message s p) to_ascii_lowercase,
      length-append passed (slice_range message s p),
    )

-- as many octets as offsets
pub run_size : (message : List ℕ) (s p : ℕ) → s ≤ p → p ≤ length message → length (slice_range message s p) + s ≡ p
run_size message s p le within =
    omega (arith, length-take (p - s) (drop s message), length-drop s message)

-- its closing 0 behind it
pub small_ends : (message passed : List ℕ) (s p : ℕ) → OctetAt message p 0 → s ≤ p
    → small_letters (passed ++ slice_range message s (p + 1)) ≡ small_letters (passed ++ slice_range message s p) ++ 0 ∷ []
small_ends message passed s p here le =
    small_grows message passed s p (p + 1) 0 here (omega arith) le (omega arith)
    ∙ ap (λ (l : List ℕ). small_letters (passed ++ slice_range message s p) ++ 0 ∷ small_letters l) (run_none message (p + 1))

pub label_within : (octets : List ℕ) (p : ℕ) (text : List ℕ) → LabelPiece octets p text → p + 1 + length text ≤ length octets
label_within octets p text piece =
    omega (
      arith,
      ap length piece.is,
      length-take (p + 1 + length text - (p + 1)) (drop (p + 1) octets),
      length-drop (p + 1) octets,
      piece.some,
    )
