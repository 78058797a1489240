-- What is written stands at its offset, and is what stands there.
use Rattle.std.proofs.Common.{◌≡◌, ℕ, ◌+◌, ◌^◌, ◌<◌, ◌≤◌, List, [], ◌∷◌, ◌++◌, length, take, drop, slice_index, slice_range, refl, sym, ap, ◌∙◌, append_assoc, arith, length-append}
use Rattle.std.specs.Int.{Width, w16, w32, byte_len, from_be_bytes}
use Rattle.std.specs.List.{AllByRecursion, flat_map}
use Rattle.std.proofs.lemmas.List.{take_at, drop_at, get_or_at}
use Rattle.std.proofs.lemmas.Nat.{from_be_bytes-to_be_bytes_2, from_be_bytes-to_be_bytes_4}
use Rattle.std.proofs.lemmas.Slice.{between_is}
use Rattle.dns_name.specs.Labels.{IsName, wire_of}
use Rattle.dns_name.specs.Offsets.{NameAt}
use Rattle.dns_message.specs.Offsets.{NumberAt, OctetsAt, AllAt, none, next}
use Rattle.dns_message.specs.Written.{two_octets, four_octets}
use Rattle.dns_message.proofs.Names.{IsReadAgain}
use Rattle.dns_message.proofs.WrittenOctets.{length-two_octets, length-four_octets}

-- these octets stand in the message behind so many others
pub record Stands (message : List ℕ) (offset : ℕ) (octets : List ℕ) : Type 0 where
  pub front : List ℕ
  pub back : List ℕ
  pub is : message ≡ front ++ (octets ++ back)
  pub before : length front ≡ offset

pub Stands-at : {message : List ℕ} {offset : ℕ} {octets : List ℕ} (offset' : ℕ) → offset' ≡ offset → Stands message offset octets
    → Stands message offset' octets
Stands-at offset' e s = record { front = s.front; back = s.back; is = s.is; before = s.before ∙ sym e }

pub Stands-first : (message : List ℕ) (offset : ℕ) (xs ys : List ℕ) → Stands message offset (xs ++ ys) → Stands message offset xs
Stands-first message offset xs ys s = record {
  front = s.front;
  back = ys ++ s.back;
  is = s.is ∙ ap (λ (l : List ℕ). s.front ++ l) (append_assoc xs ys s.back);
  before = s.before;
}

pub Stands-second : (message : List ℕ) (offset : ℕ) (xs ys : List ℕ) → Stands message offset (xs ++ ys)
    → Stands message (offset + length xs) ys
Stands-second message offset xs ys s = record {
  front = s.front ++ xs;
  back = s.back;
  is = s.is ∙ ap (λ (l : List ℕ). s.front ++ l) (append_assoc xs ys s.back) ∙ sym (append_assoc s.front xs (ys ++ s.back));
  before = length-append s.front xs ∙ ap (λ (n : ℕ). n + length xs) s.before;
}

within : (message : List ℕ) (offset : ℕ) (octets : List ℕ) → Stands message offset octets → offset + length octets ≤ length message
within message offset octets s =
    omega (arith, ap length s.is, length-append s.front (octets ++ s.back), length-append octets s.back, s.before)

range : (message : List ℕ) (offset end : ℕ) (octets : List ℕ) → Stands message offset octets → end ≡ offset + length octets
    → slice_range message offset end ≡ octets
range message offset end octets s e =
    let whole : message ≡ (s.front ++ octets) ++ s.back = s.is ∙ sym (append_assoc s.front octets s.back) in
    let size : length (s.front ++ octets) ≡ end = length-append s.front octets ∙ omega (arith, s.before, e) in
    between_is message offset end
    ∙ ap (drop offset) (ap (take end) whole ∙ take_at (s.front ++ octets) s.back end size)
    ∙ drop_at s.front octets offset s.before

pub octets_at : (message : List ℕ) (offset : ℕ) (octets : List ℕ) → Stands message offset octets
    → OctetsAt message offset octets (offset + length octets)
octets_at message offset octets s = record {
  size = refl;
  within = within message offset octets s;
  are = range message offset (offset + length octets) octets s refl;
}

pub index_at : (message : List ℕ) (offset octet : ℕ) (octets : List ℕ) → Stands message offset (octet ∷ octets)
    → slice_index message offset ≡ octet
index_at message offset octet octets s = rw s.is (get_or_at s.front octet (octets ++ s.back) 0 offset s.before)

number_at : (w : Width) (message : List ℕ) (offset number : ℕ) (octets : List ℕ) → length octets ≡ byte_len w
    → from_be_bytes w octets ≡ number → Stands message offset octets → NumberAt w message offset number
number_at w message offset number octets size is s = record {
  within = omega (arith, within message offset octets s, size);
  is = ap (from_be_bytes w) (range message offset (offset + byte_len w) octets s (ap (λ (n : ℕ). offset + n) (sym size))) ∙ is;
}

pub two_at : (message : List ℕ) (offset number : ℕ) → number < 2 ^ 16 → Stands message offset (two_octets number)
    → NumberAt w16 message offset number
unfolding two_octets
two_at message offset number fits s =
    number_at w16 message offset number (two_octets number) (length-two_octets number) (from_be_bytes-to_be_bytes_2 number fits) s

pub four_at : (message : List ℕ) (offset number : ℕ) → number < 2 ^ 32 → Stands message offset (four_octets number)
    → NumberAt w32 message offset number
unfolding four_octets
four_at message offset number fits s =
    number_at w32 message offset number (four_octets number) (length-four_octets number) (from_be_bytes-to_be_bytes_4 number fits) s

pub name_at : IsReadAgain → (message : List ℕ) (offset : ℕ) (name : List (List ℕ)) → IsName name → Stands message offset (wire_of name)
    → NameAt message offset offset name (offset + length (wire_of name))
name_at again message offset name is s =
    let there = again s.front s.back name is in
    let whole : message ≡ (s.front ++ wire_of name) ++ s.back = s.is ∙ sym (append_assoc s.front (wire_of name) s.back) in
    rw (whole, ← s.before) there

-- one after the other
pub all_at : {X : Type 0} (message : List ℕ) (octets_of : X → List ℕ) (Fits : X → Type 0) (At : ℕ → X → ℕ → Type 0)
    → ((offset : ℕ) (x : X) → Fits x → Stands message offset (octets_of x) → At offset x (offset + length (octets_of x)))
    → (xs : List X) (offset : ℕ) → AllByRecursion Fits xs → Stands message offset (flat_map octets_of xs)
    → AllAt At offset xs (offset + length (flat_map octets_of xs))
all_at message octets_of Fits At one [] offset each s = none (omega arith)
all_at message octets_of Fits At one (x ∷ xs) offset each s =
    let first = one offset x each.0 (Stands-first message offset (octets_of x) (flat_map octets_of xs) s) in
    let others = all_at message octets_of Fits At one xs (offset + length (octets_of x)) each.1
    (Stands-second message offset (octets_of x) (flat_map octets_of xs) s) in
    let end : offset + length (octets_of x) + length (flat_map octets_of xs) ≡ offset + length (octets_of x ++ flat_map octets_of xs) =
    omega (arith, length-append (octets_of x) (flat_map octets_of xs)) in
    next (offset + length (octets_of x)) first (rw end at others)
