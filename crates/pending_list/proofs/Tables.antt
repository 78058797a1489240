-- The table leads to the entries, and an entry is found by its id.
use Rattle.std.proofs.Common.{◌≡◌, ℕ, zero, suc, ◌<◌, ◌≤◌, Bool, true, false, true≢false, cond, nat_lt, List, [], ◌∷◌, ◌++◌, length, Option, Some, None, IsSome, refl, sym, ap, ◌∙◌, subst, append_assoc, arith, rules}
use Rattle.std.specs.List.{All, AllPairs, position, position_or_len}
use Rattle.std.proofs.lemmas.List.{length-append, length-map, map-append}
use Rattle.std.proofs.lemmas.List.Elements.{All-cons, All-head, All-nil, All-tail, All-append}
use denote.RawPtr.{Ptr}
use Rattle.pending_list.specs.Cells.{Cell, cell, same_address, value_at, values}
use Rattle.pending_list.specs.Links.{AreDistinct, addresses, has, last_address, StandsBehind}
use Rattle.pending_list.specs.Ids.{Id}
use Rattle.pending_list.specs.Pending.{Precedes, has_id}
use Rattle.pending_list.specs.Slots.{leads_at}
use Rattle.pending_list.specs.Table.{IsTable, BelongsBehind}
use Rattle.pending_list.specs.Entries.{Entry}
use Rattle.pending_list.specs.declared.nodes.Link.{Link}
use Rattle.pending_list.proofs.Memory.{same_address_refl}
use Rattle.pending_list.proofs.Distinct.{empty, ends, ends_of, apart-without, found, value-at, last-at, at-last, addresses-parts, has-cons}
use Rattle.pending_list.proofs.Finding.{behind-of, front-of}
use Rattle.pending_list.proofs.Orders.{all-right, first-of, rest-of}

link_at : {T : Type 0} → Ptr → Option (Link (Entry T)) → Ptr
link_at p None = p
link_at p (Some l) = l.at

module _ {X : Type 0} (p : X → Bool) where
  fail-len : (xs : List X) → All (λ x. p x ≡ false) xs → position_or_len p xs ≡ length xs
  fail-len [] all = refl
  fail-len (x ∷ xs) all =
      let rest = fail-len xs (All-tail (λ x. p x ≡ false) x xs all) in
      rw (All-head (λ x. p x ≡ false) x xs all) (omega (arith, rest))

  none-by : (xs : List X) (b : Bool) → nat_lt (position_or_len p xs) (length xs) ≡ b → position_or_len p xs ≡ length xs
      → cond b (Some (position_or_len p xs)) None ≡ None
  none-by xs true e all = let lt : position_or_len p xs < length xs = search rules in absurd (omega (arith, lt, all))
  none-by xs false e all = refl

  pub position-none : (xs : List X) → All (λ x. p x ≡ false) xs → position p xs ≡ None
  position-none xs all = none-by xs (nat_lt (position_or_len p xs) (length xs)) refl (fail-len xs all)

  pass-len : (front : List X) (x : X) (back : List X) → All (λ x. p x ≡ false) front → p x ≡ true
      → position_or_len p (front ++ x ∷ back) ≡ length front
  pass-len [] x back all is = rw is refl
  pass-len (y ∷ front) x back all is =
      let rest = pass-len front x back (All-tail (λ x. p x ≡ false) y front all) is in
      rw (All-head (λ x. p x ≡ false) y front all) (omega (arith, rest))

  some-by : (xs : List X) (n : ℕ) (b : Bool) → nat_lt (position_or_len p xs) (length xs) ≡ b → position_or_len p xs ≡ n → n < length xs
      → cond b (Some (position_or_len p xs)) None ≡ Some n
  some-by xs n true e is small = ap Some is
  some-by xs n false e is small = let le : length xs ≤ position_or_len p xs = search rules in absurd (omega (arith, le, is, small))

  pub position-some : (front : List X) (x : X) (back : List X) → All (λ x. p x ≡ false) front → p x ≡ true
      → position p (front ++ x ∷ back) ≡ Some (length front)
  position-some front x back all is =
      some-by (front ++ x ∷ back) (length front) (nat_lt (position_or_len p (front ++ x ∷ back)) (length (front ++ x ∷ back))) refl
      (pass-len front x back all is)
      (omega (arith, length-append front (x ∷ back)))

module _ {N : Type 0} where
  pub values-parts : (xs ys : List (Cell N)) → values (xs ++ ys) ≡ values xs ++ values ys
  values-parts xs ys = map-append (λ c. c.value) xs ys

  pub length-values : (xs : List (Cell N)) → length (values xs) ≡ length xs
  length-values xs = length-map xs (λ c. c.value)

  -- each cell is found at its place
  pub value-there : (cs front : List (Cell N)) (c : Cell N) (back : List (Cell N)) → AreDistinct (addresses cs) → cs ≡ front ++ c ∷ back
      → value_at c.at cs ≡ Some c.value
  value-there cs front c back apart e =
      ap (value_at c.at) e
      ∙ value-at c.at c.value back front
      (apart-without (addresses front) c.at (addresses back)
      (subst AreDistinct (ap addresses e ∙ addresses-parts front (c ∷ back)) apart)).before

  all-values : (P : N → Type 0) (cs : List (Cell N))
      → ((front : List (Cell N)) (c : Cell N) (back : List (Cell N)) → cs ≡ front ++ c ∷ back → P c.value) → All P (values cs)
  all-values P [] h = All-nil P
  all-values P (c ∷ cs) h =
      All-cons P c.value (values cs) (h [] c cs refl) (all-values P cs (λ front d back e. h (c ∷ front) d back (ap (λ l. c ∷ l) e)))

module _ {T : Type 0} (id : Id) where
  false-by : (e : Entry T) (b : Bool) → has_id id e ≡ b → (has_id id e ≡ true → ⊥) → has_id id e ≡ false
  false-by e true is clash = absurd (clash is)
  false-by e false is clash = is

  -- an entry with the id's serial, at the id's place, has the id
  pub same-id : (e f : Entry T) → Some e ≡ Some f → f.id.place ≡ id.place → e.id.serial ≡ id.serial → has_id id e ≡ true
  same-id e f both place serial =
      let same : e ≡ f = cc in
      let here : e.id.place ≡ id.place = ap (λ (x : Entry T). x.id.place) same ∙ place in
      search rules

  pub id-place : (e : Entry T) → has_id id e ≡ true → e.id.place ≡ id.place
  id-place e is = search rules

  -- where what the id's place leads to has another id, no entry has that id
  pub absent-by : (table : List (Option (Link (Entry T)))) (cs : List (Cell (Entry T))) → IsTable table cs → AreDistinct (addresses cs)
      → ((p : Ptr) (e : Entry T) → value_at p cs ≡ Some e → leads_at table id.place ≡ Some (record { at = p }) → has_id id e ≡ true → ⊥)
      → position (has_id id) (values cs) ≡ None
  absent-by table cs it apart clash =
      position-none (has_id id) (values cs)
      (all-values (λ e. has_id id e ≡ false) cs (λ front c back e.
      let there = value-there cs front c back apart e in
      false-by c.value (has_id id c.value) refl
      (λ is. clash c.at c.value there (ap (leads_at table) (sym (id-place c.value is)) ∙ it.holds c.at c.value there) is)))

  front-others : (front : List (Entry T)) (e : Entry T) (back : List (Entry T)) → AllPairs Precedes (front ++ e ∷ back)
      → has_id id e ≡ true → All (λ it. has_id id it ≡ false) front
  front-others [] e back order is = All-nil (λ it. has_id id it ≡ false)
  front-others (x ∷ front) e back order is =
      All-cons (λ it. has_id id it ≡ false) x front
      (false-by x (has_id id x) refl (λ same.
      let pair = All-head (Precedes x) e back (all-right (Precedes x) front (e ∷ back) (first-of Precedes x (front ++ e ∷ back) order)) in
      pair.serial (search rules)))
      (front-others front e back (rest-of Precedes x (front ++ e ∷ back) order) is)

  -- the entry at a place, which has the id, and its index
  pub record Led (p : Ptr) (e : Entry T) (cs : List (Cell (Entry T))) : Type 0 where
    pub front : List (Cell (Entry T))
    pub back : List (Cell (Entry T))
    pub whole : cs ≡ front ++ cell p e ∷ back
    pub before : has p (addresses front) ≡ false
    pub index : position (has_id id) (values cs) ≡ Some (length front)

  pub led : (p : Ptr) (e : Entry T) (cs : List (Cell (Entry T))) → AllPairs Precedes (values cs) → value_at p cs ≡ Some e
      → has_id id e ≡ true → Led p e cs
  led p e cs order there is =
      let at = found p e cs there in
      let whole : values cs ≡ values at.front ++ e ∷ values at.back = ap values at.whole ∙ values-parts at.front (cell p e ∷ at.back) in
      record {
        front = at.front;
        back = at.back;
        whole = at.whole;
        before = at.before;
        index =
            ap (position (has_id id)) whole
            ∙ position-some (has_id id) (values at.front) e (values at.back)
            (front-others (values at.front) e (values at.back) (subst (AllPairs Precedes) whole order) is) is
            ∙ ap Some (length-values at.front);
      }

-- ---- the place of an entry in the entries, counted
module _ {N : Type 0} where
  -- how many cells there are up to the one at a place
  unfoldable pub rank : Option Ptr → List (Cell N) → ℕ
  rank None cs = zero
  rank (Some p) [] = zero
  rank (Some p) (c ∷ cs) = cond (same_address c.at p) 1 (suc (rank (Some p) cs))

  rank-at : (front : List (Cell N)) (c : Cell N) (back : List (Cell N)) → has c.at (addresses front) ≡ false
      → rank (Some c.at) (front ++ c ∷ back) ≡ suc (length front)
  unfolding rank
  rank-at [] c back e = rw (same_address_refl c.at) refl
  rank-at (d ∷ front) c back e = let here = has-cons c.at d.at (addresses front) e in rw here.0 (ap suc (rank-at front c back here.1))

  pub rank-is : (front back : List (Cell N)) → AreDistinct (addresses (front ++ back))
      → rank (last_address front) (front ++ back) ≡ length front
  unfolding rank last_address
  rank-is front back apart = elim (ends_of front) [
    | empty e ↦ (λ i. rank (last_address (e i)) (e i ++ back)) ∙ sym (ap length e)
    | ends f c e ↦
        (λ i. rank (last_address (e i)) (e i ++ back)) ∙ (λ i. rank (last-at f c i) (append_assoc f (c ∷ []) back i))
        ∙ rank-at f c back (at-last f c back (subst (λ l. AreDistinct (addresses (l ++ back))) e apart))
        ∙ sym (ap length e ∙ length-append f (c ∷ []) ∙ omega arith)
  ]

same-link : {T : Type 0} (l m : Link (Entry T)) → Some l ≡ Some m → l.at ≡ m.at
unfolding link_at
same-link l m e = ap (link_at l.at) e

module _ {T : Type 0} (id : Id) (table : List (Option (Link (Entry T)))) (cs : List (Cell (Entry T))) (it : IsTable table cs)
    (apart : AreDistinct (addresses cs)) where
  pub absent-none : leads_at table id.place ≡ None → position (has_id id) (values cs) ≡ None
  absent-none none = absent-by id table cs it apart (λ p e there leads is. let both : Some (record { at = p }) ≡ None =
      sym leads ∙ none in cc)

  pub led-there : (l : Link (Entry T)) → leads_at table id.place ≡ Some l → IsSome (value_at l.at cs)
  led-there l leads = let e = it.points id.place l leads in rw e.1 refl

  pub absent-other : (l : Link (Entry T)) (x : Entry T) → leads_at table id.place ≡ Some l → value_at l.at cs ≡ Some x
      → has_id id x ≡ false → position (has_id id) (values cs) ≡ None
  absent-other l x leads read other = absent-by id table cs it apart (λ p e there leads' is.
      let same : Some l ≡ Some (record { at = p }) = sym leads ∙ leads' in
      let at : l.at ≡ p = same-link l (record { at = p }) same in
      let both : Some x ≡ Some e = sym read ∙ ap (λ q. value_at q cs) at ∙ there in
      let value : x ≡ e = cc in
      true≢false (sym is ∙ ap (has_id id) (sym value) ∙ other))

-- ---- where an entry belongs
same-ptr : (x y : Ptr) → Some x ≡ Some y → x ≡ y
same-ptr x y e = cc

module _ {T : Type 0} where
  -- what is behind the one there is not due before the deadline
  pub record Stops (deadline : ℕ) (at : Option Ptr) (cs : List (Cell (Entry T))) : Type 0 where
    pub front : List (Cell (Entry T))
    pub back : List (Cell (Entry T))
    pub whole : cs ≡ front ++ back
    pub is : at ≡ last_address front
    pub behind : All (λ it. deadline < it.deadline) (values back)

  same-some : (x y : Entry T) → Some x ≡ Some y → x ≡ y
  same-some x y e = cc

  module _ (deadline : ℕ) (cs : List (Cell (Entry T))) (order : AllPairs Precedes (values cs)) (apart : AreDistinct (addresses cs))
      (p : Ptr) (v : Entry T) (read : value_at p cs ≡ Some v) where
    pub stops-before : (o : Option Ptr) → StandsBehind p o cs → deadline < v.deadline → Stops deadline o cs
    stops-before o s late =
        let same : v ≡ s.value = same-some v s.value (sym read ∙ value-there cs s.front (cell p s.value) s.back apart s.whole) in
        let order' : AllPairs Precedes (values s.front ++ s.value ∷ values s.back) =
        subst (AllPairs Precedes) (ap values s.whole ∙ values-parts s.front (cell p s.value ∷ s.back)) order in
        let later = behind-of Precedes (values s.front) s.value (values s.back) order' in
        let here : deadline < s.value.deadline = subst (λ (e : Entry T). deadline < e.deadline) same late in
        record {
          front = s.front;
          back = cell p s.value ∷ s.back;
          whole = s.whole;
          is = s.is;
          behind = All-cons (λ it. deadline < it.deadline) s.value (values s.back) here (λ k d small. let on =
              (later k d small).deadline in omega (arith, here, on));
        }

    pub rank-falls : (o : Option Ptr) → StandsBehind p o cs → rank o cs < rank (Some p) cs
    rank-falls o s =
        let apart' = subst (λ l. AreDistinct (addresses l)) s.whole apart in
        let cut = apart-without (addresses s.front) p (addresses s.back)
        (subst AreDistinct (addresses-parts s.front (cell p s.value ∷ s.back)) apart') in
        let low : rank o cs ≡ length s.front = (λ i. rank (s.is i) (s.whole i)) ∙ rank-is s.front (cell p s.value ∷ s.back) apart' in
        let high : rank (Some p) cs ≡ suc (length s.front) =
        ap (rank (Some p)) s.whole ∙ rank-at s.front (cell p s.value) s.back cut.before in
        omega (arith, low, high)

    pub belongs-here : Stops deadline (Some p) cs → v.deadline ≤ deadline → BelongsBehind deadline (Some p) cs
    unfolding last_address
    belongs-here s early = elim (ends_of s.front) [
      | empty e ↦ let clash : Some p ≡ None = s.is ∙ ap last_address e in absurd cc
      | ends f c e ↦
          let at : p ≡ c.at = same-ptr p c.at (s.is ∙ ap last_address e ∙ last-at f c) in
          let whole : cs ≡ f ++ c ∷ s.back = s.whole ∙ ap (λ l. l ++ s.back) e ∙ append_assoc f (c ∷ []) s.back in
          let same : v ≡ c.value = same-some v c.value (sym read ∙ ap (λ q. value_at q cs) at ∙ value-there cs f c s.back apart whole) in
          let order' : AllPairs Precedes (values f ++ c.value ∷ values s.back) =
          subst (AllPairs Precedes) (ap values whole ∙ values-parts f (c ∷ s.back)) order in
          let earlier = front-of Precedes (values f) c.value (values s.back) order' in
          let here : c.value.deadline ≤ deadline = subst (λ (x : Entry T). x.deadline ≤ deadline) same early in
          record {
            front = s.front;
            back = s.back;
            whole = s.whole;
            is = s.is;
            before =
                subst (All (λ it. it.deadline ≤ deadline)) (sym (ap values e ∙ values-parts f (c ∷ [])))
                (All-append (λ it. it.deadline ≤ deadline) (values f) (c.value ∷ []) (λ k d small. let on =
                (earlier k d small).deadline in omega (arith, here, on))
                (All-cons (λ it. it.deadline ≤ deadline) c.value [] here (All-nil (λ it. it.deadline ≤ deadline))));
            behind = s.behind;
          }
    ]

  pub belongs-first : (deadline : ℕ) (cs : List (Cell (Entry T))) → Stops deadline None cs → BelongsBehind deadline None cs
  unfolding last_address
  belongs-first deadline cs s = elim (ends_of s.front) [
    | empty e ↦ record {
      front = s.front;
      back = s.back;
      whole = s.whole;
      is = s.is;
      before =
          subst (All (λ it. it.deadline ≤ deadline)) (sym (ap values e)) (All-nil (λ it. it.deadline ≤ deadline));
      behind = s.behind;
    }
    | ends f c e ↦ let clash : None ≡ Some c.at = s.is ∙ ap last_address e ∙ last-at f c in absurd cc
  ]

  pub stops-there : (deadline : ℕ) (cs : List (Cell (Entry T))) (apart : AreDistinct (addresses cs)) (p : Ptr)
      → Stops deadline (Some p) cs → IsSome (value_at p cs)
  unfolding last_address
  stops-there deadline cs apart p s = elim (ends_of s.front) [
    | empty e ↦ let clash : Some p ≡ None = s.is ∙ ap last_address e in absurd cc
    | ends f c e ↦
        let at : p ≡ c.at = same-ptr p c.at (s.is ∙ ap last_address e ∙ last-at f c) in
        let whole : cs ≡ f ++ c ∷ s.back = s.whole ∙ ap (λ l. l ++ s.back) e ∙ append_assoc f (c ∷ []) s.back in
        let there = value-there cs f c s.back apart whole in
        rw (at, there) refl
  ]
