-- A walk goes from an entry to the next.
use Rattle.std.proofs.Common.{◌≡◌, false, List, [], ◌∷◌, ◌++◌, Option, Some, None, refl, sym, ap, ◌∙◌, subst, append_assoc}
use denote.RawPtr.{Ptr}
use Rattle.pending_list.specs.Cells.{Cell, cell, value_at, address_of}
use Rattle.pending_list.specs.Links.{AreDistinct, IsThere, StandsBefore, cells_from, first_address, addresses, has}
use Rattle.pending_list.specs.declared.nodes.Link.{Link}
use Rattle.pending_list.proofs.Memory.{same_address_refl}
use Rattle.pending_list.proofs.Distinct.{apart-without, has-cons, addresses-parts}
use Rattle.pending_list.proofs.Tables.{value-there}

module _ {N : Type 0} where
  from-at : (front : List (Cell N)) (c : Cell N) (back : List (Cell N)) → has c.at (addresses front) ≡ false
      → cells_from (Some c.at) (front ++ c ∷ back) ≡ c ∷ back
  unfolding cells_from
  from-at [] c back e = rw (same_address_refl c.at) refl
  from-at (d ∷ front) c back e = let here = has-cons c.at d.at (addresses front) e in rw here.0 (from-at front c back here.1)

  pub from-first : (cs : List (Cell N)) → cells_from (first_address cs) cs ≡ cs
  unfolding first_address cells_from
  from-first [] = refl
  from-first (c ∷ cs) = rw (same_address_refl c.at) refl

  from-cut : (cs front : List (Cell N)) (c : Cell N) (back : List (Cell N)) → AreDistinct (addresses cs) → cs ≡ front ++ c ∷ back
      → cells_from (Some c.at) cs ≡ c ∷ back
  from-cut cs front c back apart whole =
      ap (cells_from (Some c.at)) whole
      ∙ from-at front c back (apart-without (addresses front) c.at (addresses back)
      (subst AreDistinct (ap addresses whole ∙ addresses-parts front (c ∷ back)) apart)).before

  from-rest : (cs front : List (Cell N)) (c : Cell N) (back : List (Cell N)) → AreDistinct (addresses cs) → cs ≡ front ++ c ∷ back
      → cells_from (first_address back) cs ≡ back
  unfolding first_address cells_from
  from-rest cs front c [] apart whole = refl
  from-rest cs front c (d ∷ back) apart whole =
      from-cut cs (front ++ c ∷ []) d back apart (whole ∙ sym (append_assoc front (c ∷ []) (d ∷ back)))

  there-rest : {E : Type 0} (next : Option (Link E)) (cs front : List (Cell N)) (c : Cell N) (back : List (Cell N))
      → AreDistinct (addresses cs) → cs ≡ front ++ c ∷ back
      → address_of next ≡ first_address back → IsThere next cs
  unfolding first_address
  there-rest None cs front c back apart whole e = tt
  there-rest (Some l) cs front c [] apart whole e = absurd cc
  there-rest (Some l) cs front c (d ∷ back) apart whole e =
      let at : l.at ≡ d.at = cc in
      let there = value-there cs (front ++ c ∷ []) d back apart (whole ∙ sym (append_assoc front (c ∷ []) (d ∷ back))) in
      rw (at, there) refl

  -- a step of the walk
  pub record Stepped {E : Type 0} (p : Ptr) (x : N) (next : Option (Link E)) (cs : List (Cell N)) : Type 0 where
    pub from : cells_from (Some p) cs ≡ cell p x ∷ cells_from (address_of next) cs
    pub there : IsThere next cs

  same-some : (x y : N) → Some x ≡ Some y → x ≡ y
  same-some x y e = cc

  pub stepped : {E : Type 0} (p : Ptr) (x : N) (next : Option (Link E)) (cs : List (Cell N)) → AreDistinct (addresses cs)
      → value_at p cs ≡ Some x → StandsBefore p (address_of next) cs → Stepped p x next cs
  stepped p x next cs apart read s =
      let c : Cell N = cell p s.value in
      let same : x ≡ s.value = same-some x s.value (sym read ∙ value-there cs s.front c s.back apart s.whole) in
      record {
        from = from-cut cs s.front c s.back apart s.whole
            ∙ (λ i. cell p (sym same i) ∷ sym (ap (λ o. cells_from o cs) s.is ∙ from-rest cs s.front c s.back apart s.whole) i);
        there = there-rest next cs s.front c s.back apart s.whole s.is;
      }

  pub there-first : {E : Type 0} (next : Option (Link E)) (cs : List (Cell N)) → address_of next ≡ first_address cs → IsThere next cs
  unfolding first_address value_at
  there-first None cs e = tt
  there-first (Some l) [] e = absurd cc
  there-first (Some l) (c ∷ cs) e = let at : l.at ≡ c.at = cc in rw (at, same_address_refl c.at) refl

  pub from-none : (cs : List (Cell N)) → cells_from None cs ≡ []
  unfolding cells_from
  from-none cs = refl
