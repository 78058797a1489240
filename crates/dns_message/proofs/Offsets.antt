-- Numbers, octets and lists of parts at offsets.
use Rattle.std.proofs.Common.{◌≡◌, ℕ, suc, ◌+◌, ◌<◌, ◌≤◌, List, [], ◌∷◌, ◌++◌, length, take, drop, slice_index, slice_range, get_or, refl, sym, ap, ◌∙◌, subst, drop-cons, append_assoc, arith}
use Rattle.std.specs.Int.{Width, byte_len, from_be_bytes}
use Rattle.std.proofs.lemmas.List.{append-nil, length-append, length_push, length-take, length-drop, drop-take, take-take, get_or-take, get_or-drop, drop-drop}
use Rattle.std.proofs.lemmas.Slice.{between_is}
use Rattle.dns_message.specs.Offsets.{NumberAt, OctetsAt, AllAt, none, next}

-- ---- one thing stands at an offset

pub one_number : (w : Width) (message : List ℕ) (p n n' : ℕ) → NumberAt w message p n → NumberAt w message p n' → n ≡ n'
one_number w message p n n' a b = sym a.is ∙ b.is

-- a number in a part of a message stands in the message
pub NumberAt-part : (w : Width) (message part : List ℕ) (offset end k there number : ℕ) → part ≡ slice_range message offset end
    → offset ≤ end → end ≤ length message → there ≡ offset + k → NumberAt w part k number → NumberAt w message there number
NumberAt-part w message part offset end k there number part-is le within there-is at =
    let whole : part ≡ drop offset (take end message) = part-is ∙ between_is message offset end in
    let size : length part + offset ≡ end =
    omega (arith, ap length whole, length-drop offset (take end message), length-take end message) in
    let n : ℕ = k + byte_len w in
    let last : offset + n ≡ there + byte_len w = omega (arith, there-is) in
    let same : slice_range part k n ≡ slice_range message there (there + byte_len w) =
    between_is part k n
    ∙ ap (λ (l : List ℕ). drop k (take n l)) whole
    ∙ ap (drop k) (sym (drop-take offset n (take end message)))
    ∙ ap (λ (l : List ℕ). drop k (drop offset l)) (take-take (offset + n) end message (omega (arith, at.within, size)))
    ∙ drop-drop k offset (take (offset + n) message)
    ∙ rw (← last) (ap (λ (p : ℕ). drop p (take (offset + n) message)) (sym there-is) ∙ sym (between_is message there (offset + n))) in
    record {
      within = omega (arith, at.within, size, there-is);
      is = ap (from_be_bytes w) (sym same) ∙ at.is;
    }

pub one_text : (message : List ℕ) (p : ℕ) (octets octets' : List ℕ) (end : ℕ) → OctetsAt message p octets end
    → OctetsAt message p octets' end → octets ≡ octets'
one_text message p octets octets' end a b = sym a.are ∙ b.are

-- the octet in front stands at the offset
pub first_octet : (message : List ℕ) (p octet : ℕ) (octets : List ℕ) (end : ℕ) → OctetsAt message p (octet ∷ octets) end
    → slice_index message p ≡ octet
first_octet message p octet octets end at =
    let front = λ (l : List ℕ). get_or l 0 0 in
    let there : get_or (drop p (take end message)) 0 0 ≡ get_or (take end message) p 0 =
    get_or-drop p (take end message) 0 0 ∙ ap (λ (n : ℕ). get_or (take end message) n 0) (omega arith) in
    sym (get_or-take end message p 0 (omega (arith, at.size))) ∙ sym there ∙ sym (ap front (between_is message p end)) ∙ ap front at.are

-- and the others behind it
pub other_octets : (message : List ℕ) (p octet : ℕ) (octets : List ℕ) (end : ℕ) → OctetsAt message p (octet ∷ octets) end
    → OctetsAt message (p + 1) octets end
other_octets message p octet octets end at = record {
  size = omega (arith, at.size);
  within = at.within;
  are = between_is message (p + 1) end ∙ sym (drop-drop 1 p (take end message)) ∙ ap (drop 1) (sym (between_is message p end) ∙ at.are);
}

-- an octet in front of others stands there with them
pub octets_behind : (message : List ℕ) (p octet : ℕ) (octets : List ℕ) (end : ℕ) → slice_index message p ≡ octet
    → OctetsAt message (p + 1) octets end → OctetsAt message p (octet ∷ octets) end
octets_behind message p octet octets end first others =
    let front : get_or (take end message) p 0 ≡ octet = get_or-take end message p 0 (omega (arith, others.size)) ∙ first in
    let next : suc p ≡ p + 1 = omega arith in
    let behind : drop (suc p) (take end message) ≡ octets =
    ap (λ (n : ℕ). drop n (take end message)) next ∙ sym (between_is message (p + 1) end) ∙ others.are in
    let here = drop-cons (take end message) p 0 (omega (arith, others.size, others.within, length-take end message)) in
    record {
      size = omega (arith, others.size);
      within = others.within;
      are = between_is message p end ∙ rw (front, behind) at here;
    }

-- ---- two messages with the same first octets

pub take_less : (message other : List ℕ) (limit n : ℕ) → take limit message ≡ take limit other → n ≤ limit → take n message ≡ take n other
take_less message other limit n same le = sym (take-take n limit message le) ∙ ap (take n) same ∙ take-take n limit other le

pub within_too : (message other : List ℕ) (limit n : ℕ) → take limit message ≡ take limit other → n ≤ limit → n ≤ length message
    → n ≤ length other
within_too message other limit n same le le' = omega (arith, ap length same, length-take limit message, length-take limit other)

pub same_range : (message other : List ℕ) (limit i j : ℕ) → take limit message ≡ take limit other → j ≤ limit
    → slice_range message i j ≡ slice_range other i j
same_range message other limit i j same le =
    between_is message i j ∙ ap (drop i) (take_less message other limit j same le) ∙ sym (between_is other i j)

pub NumberAt-other : (w : Width) (message other : List ℕ) (limit p n : ℕ) → take limit message ≡ take limit other → p + byte_len w ≤ limit
    → NumberAt w message p n → NumberAt w other p n
NumberAt-other w message other limit p n same le at = record {
  within = within_too message other limit (p + byte_len w) same le at.within;
  is = rw (← same_range message other limit p (p + byte_len w) same le) at.is;
}

pub OctetsAt-other : (message other : List ℕ) (limit p : ℕ) (octets : List ℕ) (end : ℕ) → take limit message ≡ take limit other
    → end ≤ limit → OctetsAt message p octets end → OctetsAt other p octets end
OctetsAt-other message other limit p octets end same le at = record {
  size = at.size;
  within = within_too message other limit end same le at.within;
  are = sym (same_range message other limit p end same le) ∙ at.are;
}

-- ---- one after the other

module _ {X : Type 0} (At : ℕ → X → ℕ → Type 0) where
  abbrev pub AtMostOne : Type 0
  AtMostOne = (p end end' : ℕ) (x x' : X) → At p x end → At p x' end' → (x ≡ x') × (end ≡ end')

  abbrev pub GoesOn : Type 0
  GoesOn = (p end : ℕ) (x : X) → At p x end → p ≤ end

  pub AllAt-push : {p end : ℕ} {xs : List X} (after : ℕ) (x : X) → AllAt At p xs end → At end x after → AllAt At p (xs ++ x ∷ []) after
  AllAt-push after x (none e) at = next after (rw (← e) at) (none refl)
  AllAt-push after x (next between first others) at = next between first (AllAt-push after x others at)

  pub AllAt-none : {p end : ℕ} {xs : List X} → AllAt At p xs end → length xs ≡ 0 → (xs ≡ []) × (end ≡ p)
  AllAt-none (none e) zero = (refl, e)
  AllAt-none (next after first others) zero = absurd (omega (arith, zero))

  -- what is so where each begins, and where they end, is so where they all begin
  pub AllAt-first : (P : ℕ → Type 0) → ((p end : ℕ) (x : X) → At p x end → P p) → {p end : ℕ} {xs : List X} → AllAt At p xs end → P end
      → P p
  AllAt-first P begins (none e) there = subst P e there
  AllAt-first P begins (next after first others) there = begins _ after _ first

  pub AllAt-goes_on : GoesOn → {p end : ℕ} {xs : List X} → AllAt At p xs end → p ≤ end
  AllAt-goes_on goes_on (none e) = omega (arith, e)
  AllAt-goes_on goes_on (next after first others) = omega (arith, goes_on _ after _ first, AllAt-goes_on goes_on others)

  pub AllAt-within : (limit : ℕ) → ((p end : ℕ) (x : X) → At p x end → end ≤ limit) → {p end : ℕ} {xs : List X} → AllAt At p xs end
      → p ≤ limit → end ≤ limit
  AllAt-within limit within (none e) le = omega (arith, e)
  AllAt-within limit within (next after first others) le = AllAt-within limit within others (within _ after _ first)

  pub AllAt-one : AtMostOne → (p end end' : ℕ) (xs xs' : List X) → AllAt At p xs end → AllAt At p xs' end' → length xs ≡ length xs'
      → (xs ≡ xs') × (end ≡ end')
  AllAt-one one p end end' [] [] (none e) (none e') same = (refl, e ∙ sym e')
  AllAt-one one p end end' [] (x' ∷ xs') (none e) (next after first others) same = absurd (omega (arith, same))
  AllAt-one one p end end' (x ∷ xs) [] (next after first others) (none e) same = absurd (omega (arith, same))
  AllAt-one one p end end' (x ∷ xs) (x' ∷ xs') (next after first others) (next after' first' others') same =
      let k = one p after after' x x' first first' in
      let rest = AllAt-one one after end end' xs xs' others (rw (k.1) others') (omega (arith, same)) in
      (rw (k.0, rest.0) refl, rest.1)

  -- whatever stands from the start on, and is as long as these, begins with these, and goes on from the offset
  abbrev pub Follows : ℕ → ℕ → List X → Type 0
  Follows start offset xs = (others : List X) (end : ℕ) → AllAt At start others end → length xs ≤ length others
      → (back : List X) × (others ≡ xs ++ back) × AllAt At offset back end

  one_more : (offset after end : ℕ) (x : X) (xs others back : List X)
      → ((x' : X) (after' : ℕ) → At offset x' after' → (x ≡ x') × (after ≡ after')) → length xs < length others → others ≡ xs ++ back
      → AllAt At offset back end → (back' : List X) × (others ≡ (xs ++ x ∷ []) ++ back') × AllAt At after back' end
  one_more offset after end x xs others [] one longer e there = absurd (omega (arith, ap length e, length-append xs []))
  one_more offset after end x xs others (y ∷ ys) one longer e (next after' first behind) =
      let k = one y after' first in
      (ys, rw (k.0, append_assoc) e, rw k.1 behind)

  pub Follows-push : (start offset after : ℕ) (x : X) (xs : List X) → Follows start offset xs
      → ((x' : X) (after' : ℕ) → At offset x' after' → (x ≡ x') × (after ≡ after')) → Follows start after (xs ++ x ∷ [])
  Follows-push start offset after x xs follows one = λ others end there size.
      let k = follows others end there (omega (arith, size, length_push xs x)) in
      one_more offset after end x xs others k.0 one (omega (arith, size, length_push xs x)) k.1 k.2

  next_of : (offset end : ℕ) (xs others back : List X) → length xs < length others → others ≡ xs ++ back → AllAt At offset back end
      → (x : X) × (after : ℕ) × At offset x after
  next_of offset end xs others [] fewer e there = absurd (omega (arith, ap length e, length-append xs []))
  next_of offset end xs others (x ∷ back) fewer e (next after first behind) = (x, after, first)

  -- where fewer were read, the next one stands behind them
  pub Follows-next : (start offset end : ℕ) (xs others : List X) → Follows start offset xs → AllAt At start others end
      → length xs < length others → (x : X) × (after : ℕ) × At offset x after
  Follows-next start offset end xs others follows there fewer =
      let k = follows others end there (omega (arith, fewer)) in
      next_of offset end xs others k.0 fewer k.1 k.2

  all_of : (offset end : ℕ) (xs others back : List X) → length others ≡ length xs → others ≡ xs ++ back → AllAt At offset back end
      → (xs ≡ others) × (offset ≡ end)
  all_of offset end xs others [] same e (none ends) = (sym (rw append-nil at e), sym ends)
  all_of offset end xs others (x ∷ back) same e there = absurd (omega (arith, same, ap length e, length-append xs (x ∷ back)))

  -- where as many were read, they are the same
  pub Follows-all : (start offset end : ℕ) (xs others : List X) → Follows start offset xs → AllAt At start others end
      → length others ≡ length xs → (xs ≡ others) × (offset ≡ end)
  Follows-all start offset end xs others follows there same =
      let k = follows others end there (omega (arith, same)) in
      all_of offset end xs others k.0 same k.1 k.2

pub AllAt-other : {X : Type 0} (At At' : ℕ → X → ℕ → Type 0) (limit : ℕ) → GoesOn At
    → ((p end : ℕ) (x : X) → At p x end → end ≤ limit → At' p x end)
    → {p end : ℕ} {xs : List X} → AllAt At p xs end → end ≤ limit → AllAt At' p xs end
AllAt-other At At' limit goes_on move (none e) le = none e
AllAt-other At At' limit goes_on move (next after first others) le =
    next after (move _ after _ first (omega (arith, le, AllAt-goes_on At goes_on others))) (AllAt-other At At' limit goes_on move others le)
