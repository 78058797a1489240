-- The octets of a name, as its text is gone through from the last octet on.
use Rattle.std.proofs.Common.{◌≡◌, ◌≢◌, ℕ, suc, ◌+◌, ◌-◌, ◌<◌, ◌≤◌, ◌==◌, false, List, [], ◌∷◌, length, map, take, drop, set, get_or, add-one, refl, sym, ap, ◌∙◌, arith}
use Rattle.std.specs.List.{onto_first}
use Rattle.std.specs.Char.{to_ascii_lowercase}
use Rattle.std.proofs.lemmas.Bool.Decides.{nat_tests}
use Rattle.std.proofs.lemmas.List.{drop_more, drop-set, drop_all, length-set, get_or-set_other}
use Rattle.std.proofs.lemmas.List.Splits.{length-slice_split, slice_split-cons_yes, slice_split-cons_no}
use Rattle.dns_name.specs.Labels.{small_letters, wire_of}
use Rattle.dns_name.specs.Octets.{IsPadded}
use Rattle.dns_name.specs.Texts.{parted}

-- the octets of the name of a text
abbrev pub wire_in : List ℕ → List ℕ
wire_in text = wire_of (map small_letters (parted text))

-- behind a place are the octets of the name of the text from there on, but for its first length
pub record IsWritten (text octets : List ℕ) (at size : ℕ) : Type 0 where
  pub spelled : size ∷ take (length text + 1 - at) (drop (at + 1) octets) ≡ wire_in (drop at text)
  pub short : size + at ≤ length text

wire-dot : (text : List ℕ) → wire_in (46 ∷ text) ≡ 0 ∷ wire_in text
wire-dot text =
    ap (λ (labels : List (List ℕ)). wire_of (map small_letters labels))
    (slice_split-cons_yes (λ (octet : ℕ). octet == 46) 46 text refl)

first_longer : (octet size : ℕ) (rest : List ℕ) (labels : List (List ℕ)) → 0 < length labels
    → size ∷ rest ≡ wire_of (map small_letters labels)
    → wire_of (map small_letters (onto_first octet labels)) ≡ suc size ∷ to_ascii_lowercase octet ∷ rest
first_longer octet size rest [] some e = absurd (omega arith)
first_longer octet size rest (label ∷ labels) some e = cc

wire-octet : (octet size : ℕ) (rest text : List ℕ) → octet ≢ 46 → size ∷ rest ≡ wire_in text
    → wire_in (octet ∷ text) ≡ suc size ∷ to_ascii_lowercase octet ∷ rest
wire-octet octet size rest text other e =
    let no : (octet == 46) ≡ false = grind (arith, nat_tests) in
    let some : 0 < length (parted text) = omega (arith, length-slice_split (λ (octet : ℕ). octet == 46) text) in
    ap (λ (labels : List (List ℕ)). wire_of (map small_letters labels))
    (slice_split-cons_no (λ (octet : ℕ). octet == 46) octet text no)
    ∙ first_longer octet size rest (parted text) some e

pub begins : (text octets : List ℕ) → IsPadded octets 0 → length text + 2 ≤ 31 → IsWritten text octets (length text) 0
begins text octets is short =
    let one : length text + 1 - length text ≡ 1 = omega arith in
    let zero_there : drop (length text + 1) octets ≡ 0 ∷ drop (length text + 1 + 1) octets =
    drop_more octets (length text + 1) 0 (omega (arith, is.size))
    ∙ ap (λ (octet : ℕ). octet ∷ drop (length text + 1 + 1) octets) (is.zeros (length text + 1) (omega arith)) in
    record {
      spelled = rw (one, drop_all (length text) text (omega arith), zero_there) refl;
      short = omega arith;
    }

module _ (text octets : List ℕ) (at i size : ℕ) (before : at ≡ i + 1) (within : i < length text) (room : at < length octets)
    (so_far : IsWritten text octets at size) where
  octets_there : (octet : ℕ) → take (length text + 1 - i) (drop (i + 1) (set octets at octet))
      ≡ octet ∷ take (length text + 1 - at) (drop (at + 1) octets)
  octets_there octet =
      let more : length text + 1 - i ≡ suc (length text + 1 - at) = omega (arith, before, within) in
      rw (more, ← before, drop-set octets at octet room) refl

  text_there : drop i text ≡ get_or text i 0 ∷ drop at text
  text_there = drop_more text i 0 within ∙ ap (λ (j : ℕ). get_or text i 0 ∷ drop j text) (sym before)

  pub dot_written : get_or text i 0 ≡ 46 → IsWritten text (set octets at size) i 0
  dot_written dot =
      let here : drop i text ≡ 46 ∷ drop at text = text_there ∙ ap (λ (octet : ℕ). octet ∷ drop at text) dot in
      record {
        spelled = rw (octets_there size)
            (ap (λ (octets : List ℕ). 0 ∷ octets) so_far.spelled ∙ sym (wire-dot (drop at text)) ∙ sym (ap wire_in here));
        short = omega (arith, within);
      }

  pub octet_written : get_or text i 0 ≢ 46 → IsWritten text (set octets at (to_ascii_lowercase (get_or text i 0))) i (size + 1)
  octet_written other =
      let rest : List ℕ = take (length text + 1 - at) (drop (at + 1) octets) in
      let octet : ℕ = get_or text i 0 in
      let whole : wire_in (drop i text) ≡ (size + 1) ∷ to_ascii_lowercase octet ∷ rest =
      ap wire_in text_there ∙ rw add-one (wire-octet octet size rest (drop at text) other so_far.spelled) in
      record {
        spelled = rw (octets_there (to_ascii_lowercase octet)) (sym whole);
        short = omega (arith, so_far.short, before);
      }

-- all are written
pub all_written : (text octets : List ℕ) (size : ℕ) → 0 < length octets → IsWritten text octets 0 size
    → take (length text + 2) (set octets 0 size) ≡ wire_in text
all_written text [] size some is = absurd (omega arith)
all_written text (octet ∷ octets) size some is =
    let one : length text + 2 ≡ suc (length text + 1) = omega arith in
    let all : length text + 1 - 0 ≡ length text + 1 = omega arith in
    rw one (rw all at is.spelled)

-- octets over those in use leave the others 0
pub IsPadded-set : (octets : List ℕ) (n at octet : ℕ) → IsPadded octets n → at < n → IsPadded (set octets at octet) n
IsPadded-set octets n at octet is within = record {
  size = length-set octets at octet ∙ is.size;
  few = is.few;
  zeros = λ i le. get_or-set_other octets at i octet 0 (λ e. omega (arith, le, within, e)) ∙ is.zeros i le;
}

-- more than are in use may be counted
pub IsPadded-wider : (octets : List ℕ) (n m : ℕ) → IsPadded octets n → n ≤ m → m ≤ 31 → IsPadded octets m
IsPadded-wider octets n m is le few = record { size = is.size; few = few; zeros = λ i le'. is.zeros i (omega arith) }
