-- The entries and the table stay tied as an entry is put in or taken out.
use Rattle.std.proofs.Common.{◌≡◌, ◌≢◌, ◌⊎◌, inl, inr, ℕ, zero, suc, ◌<◌, ◌≤◌, Bool, true, false, true≢false, not, cond, leb, List, [], ◌∷◌, ◌++◌, length, set, get_or, slice_get, Option, Some, None, refl, sym, ap, ◌∙◌, subst, append_assoc, append-nil, arith, rules}
use Rattle.std.specs.List.{All, AllPairs}
use Rattle.std.proofs.lemmas.List.Kept.{AllPairs-cons}
use Rattle.std.proofs.lemmas.List.Elements.{All-cons, All-head, All-nil}
use Rattle.std.specs.Option.{option_map}
use Rattle.std.specs.Prelude.{replicate}
use Rattle.std.proofs.lemmas.List.{get_or_at, length-append}
use Rattle.std.proofs.lemmas.List.Elements.{filter-append}
use denote.RawPtr.{Ptr}
use Rattle.pending_list.specs.Cells.{Cell, cell, same_address, value_at, put_after, values}
use Rattle.pending_list.specs.Cells.{without as taken_out}
use Rattle.pending_list.specs.Links.{AreDistinct, addresses, has}
use Rattle.pending_list.specs.Ids.{Id}
use Rattle.pending_list.specs.Pending.{IsPending, Precedes, DifferInPlace, entry_of, has_id, placed, without}
use Rattle.pending_list.specs.Cells.{address_of}
use Rattle.pending_list.specs.Pending.{with_item}
use Rattle.pending_list.proofs.Finding.{changed-is}
use Rattle.pending_list.proofs.Distinct.{changed-at}
use Rattle.std.proofs.lemmas.List.{length-set, set_at}
use Rattle.pending_list.specs.Links.{changed_at, IsThere, entries_of, first_address}
use Rattle.pending_list.specs.declared.node.Node.{Node}
use Rattle.pending_list.specs.Slots.{leads_at}
use Rattle.pending_list.specs.Table.{BelongsBehind, IsTable}
use Rattle.pending_list.specs.Entries.{Entry}
use Rattle.pending_list.specs.declared.nodes.Link.{Link}
use Rattle.pending_list.proofs.Memory.{same_address_refl, same_address_eq}
use Rattle.pending_list.proofs.Distinct.{found, Apart, apart-without, apart-with, has-cons, put-is, without-at, addresses-parts, none-value, value-none, parts-has}
use Rattle.pending_list.proofs.Standing.{filter-all, filter-none}
use Rattle.pending_list.proofs.Orders.{more}
use Rattle.pending_list.proofs.Finding.{found-is, remove-at, removed-is}
use Rattle.pending_list.proofs.Tables.{stops-there, Led, led, id-place, values-parts, length-values, value-there}
use Rattle.pending_list.proofs.Slots.{leads-set, leads-other, leads-within}

pub same-or : (j i : ℕ) → (j ≡ i) ⊎ (j ≢ i)
same-or zero zero = inl refl
same-or zero (suc i) = inr (λ e. omega arith)
same-or (suc j) zero = inr (λ e. omega arith)
same-or (suc j) (suc i) = elim (same-or j i) [ inl e ↦ inl (ap suc e) | inr n ↦ inr (λ e. n (omega arith)) ]

ptr-by : (p q : Ptr) (y : Bool) → same_address p q ≡ y → (p ≡ q) ⊎ (same_address p q ≡ false)
ptr-by p q true e = inl (same_address_eq p q e)
ptr-by p q false e = inr e

ptr-or : (p q : Ptr) → (p ≡ q) ⊎ (same_address p q ≡ false)
ptr-or p q = ptr-by p q (same_address p q) refl

module _ {N : Type 0} where
  swap : (x y : Bool) (a b c : Option N) → (x ≡ true → y ≡ true → ⊥) → cond x a (cond y b c) ≡ cond y b (cond x a c)
  swap true true a b c no-both = absurd (no-both refl refl)
  swap true false a b c no-both = refl
  swap false true a b c no-both = refl
  swap false false a b c no-both = refl

  -- what is found with a cell more
  pub value-put : (p q : Ptr) (x : N) (back front : List (Cell N)) → has p (addresses front) ≡ false
      → value_at q (front ++ cell p x ∷ back) ≡ cond (same_address p q) (Some x) (value_at q (front ++ back))
  unfolding value_at
  value-put p q x back [] e = refl
  value-put p q x back (c ∷ front) e =
      let here = has-cons p c.at (addresses front) e in
      ap (cond (same_address c.at q) (Some c.value)) (value-put p q x back front here.1)
      ∙ swap (same_address c.at q) (same_address p q) (Some c.value) (Some x) (value_at q (front ++ back))
      (λ s t. true≢false (sym (subst (λ r. same_address c.at r ≡ true) (sym (same_address_eq p q t)) s) ∙ here.0))

  pub length-cut : (front : List (Cell N)) (c : Cell N) (back : List (Cell N)) → length (front ++ c ∷ back) ≡ suc (length (front ++ back))
  length-cut front c back = let a = length-append front (c ∷ back) in let b = length-append front back in omega (arith, a, b)

same-link : {T : Type 0} (l m : Link (Entry T)) → Some l ≡ Some m → l.at ≡ m.at
same-link l m e = let same : l ≡ m = cc in ap (λ (k : Link (Entry _)). k.at) same

module _ {T : Type 0} (front : List (Cell (Entry T))) (p : Ptr) (e : Entry T) (back : List (Cell (Entry T)))
    (apart : AreDistinct (addresses (front ++ cell p e ∷ back))) where
  abbrev more' : List (Cell (Entry T))
  more' = front ++ cell p e ∷ back

  abbrev fewer' : List (Cell (Entry T))
  fewer' = front ++ back

  cut : Apart (addresses front) p (addresses back)
  cut = apart-without (addresses front) p (addresses back) (subst AreDistinct (addresses-parts front (cell p e ∷ back)) apart)

  pub apart-fewer : AreDistinct (addresses fewer')
  apart-fewer = subst AreDistinct (sym (addresses-parts front back)) cut.rest

  gone : value_at p fewer' ≡ None
  gone = value-none p fewer'
      (subst (λ l. has p l ≡ false) (sym (addresses-parts front back))
      (parts-has p (addresses front) (addresses back) cut.before cut.behind))

  here : value_at p more' ≡ Some e
  here = value-put p p e back front cut.before ∙ ap (λ b. cond b (Some e) (value_at p fewer')) (same_address_refl p)

  elsewhere : (q : Ptr) → same_address p q ≡ false → value_at q more' ≡ value_at q fewer'
  elsewhere q other = value-put p q e back front cut.before ∙ ap (λ b. cond b (Some e) (value_at q fewer')) other

  other-than : (q : Ptr) (x : Entry T) → value_at q fewer' ≡ Some x → same_address p q ≡ false
  other-than q x found = elim (ptr-or p q) [
    | inl same ↦ let clash : Some x ≡ None = sym found ∙ ap (λ r. value_at r fewer') (sym same) ∙ gone in absurd cc
    | inr other ↦ other
  ]

  module _ (table : List (Option (Link (Entry T)))) where
    -- the table without the entry
    pub table-fewer : IsTable table more' → IsTable (set table e.id.place None) fewer'
    table-fewer it =
        let led = it.holds p e here in
        let within = leads-within table e.id.place (record { at = p }) led in
        record {
          holds = λ q x found.
              let other = other-than q x found in
              let there : value_at q more' ≡ Some x = elsewhere q other ∙ found in
              let leads = it.holds q x there in
              leads-other table e.id.place x.id.place None
              (λ same. true≢false (sym
              (ap (same_address p) (same-link (record { at = q }) (record { at = p }) (sym leads ∙ ap (leads_at table) same ∙ led))
              ∙ same_address_refl p) ∙ other))
              ∙ leads;
          points = λ j l leads. elim (same-or j e.id.place) [
            | inl same ↦
                let clash : None ≡ Some l =
                sym (leads-set table e.id.place None within.0) ∙ ap (leads_at (set table e.id.place None)) (sym same) ∙ leads in
                absurd cc
            | inr differ ↦
                let on = it.points j l (sym (leads-other table e.id.place j None differ) ∙ leads) in
                elim (ptr-or p l.at) [
                  | inl same ↦
                      let both : Some e ≡ Some on.0 = sym here ∙ ap (λ r. value_at r more') same ∙ on.1 in
                      let value : e ≡ on.0 = cc in
                      absurd (differ (sym on.2 ∙ ap (λ (x : Entry T). x.id.place) (sym value)))
                  | inr other ↦ (on.0, sym (elsewhere l.at other) ∙ on.1, on.2)
                ]
          ];
        }

    -- the table with an entry more, at a free place
    pub table-more : IsTable table fewer' → leads_at table e.id.place ≡ None → e.id.place < length table
        → IsTable (set table e.id.place (Some (record { at = p }))) more'
    table-more it free within = record {
      holds = λ q x found. elim (ptr-or p q) [
        | inl same ↦
            let both : Some e ≡ Some x = sym here ∙ ap (λ r. value_at r more') same ∙ found in
            let value : e ≡ x = cc in
            ap (leads_at (set table e.id.place (Some (record { at = p })))) (ap (λ (y : Entry T). y.id.place) (sym value))
            ∙ leads-set table e.id.place (Some (record { at = p })) within ∙ ap (λ r. Some (record { at = r })) same
        | inr other ↦
            let leads = it.holds q x (sym (elsewhere q other) ∙ found) in
            leads-other table e.id.place x.id.place (Some (record { at = p }))
            (λ same. let clash : Some (record { at = q }) ≡ None = sym leads ∙ ap (leads_at table) same ∙ free in cc)
            ∙ leads
      ];
      points = λ j l leads. elim (same-or j e.id.place) [
        | inl same ↦
            let both : Some (record { at = p }) ≡ Some l =
            sym (leads-set table e.id.place (Some (record { at = p })) within)
            ∙ ap (leads_at (set table e.id.place (Some (record { at = p })))) (sym same) ∙ leads in
            let at : p ≡ l.at = same-link (record { at = p }) l both in
            (e, ap (λ r. value_at r more') (sym at) ∙ here, sym same)
        | inr differ ↦
            let on = it.points j l (sym (leads-other table e.id.place j (Some (record { at = p })) differ) ∙ leads) in
            (on.0, elsewhere l.at (other-than l.at on.0 on.1) ∙ on.1, on.2)
      ];
    }

  -- the entry stands where it belongs
  pub placed-parts : All (λ it. it.deadline ≤ e.deadline) (values front) → All (λ it. e.deadline < it.deadline) (values back)
      → placed e (values front ++ values back) ≡ values front ++ e ∷ values back
  placed-parts before behind =
      let test : Entry T → Bool = λ it. leb it.deadline e.deadline in
      let yes : All (λ it. test it ≡ true) (values front) = λ k d small. let on = before k d small in search rules in
      let never : All (λ it. test it ≡ false) (values back) = λ k d small. let on = behind k d small in search rules in
      rw (
        filter-append test (values front) (values back),
        filter-append (λ it. not (test it)) (values front) (values back),
        filter-all test (values front) yes,
        filter-none test (values back) never,
        filter-none (λ it. not (test it)) (values front) (λ k d small. ap not (yes k d small)),
        filter-all (λ it. not (test it)) (values back) (λ k d small. ap not (never k d small)),
        append-nil (values front),
      ) refl

-- ---- an entry is taken out by its id
module _ {T : Type 0} (id : Id) (p : Ptr) (e : Entry T) (cs : List (Cell (Entry T))) (order : AllPairs Precedes (values cs))
    (apart : AreDistinct (addresses cs)) (there : value_at p cs ≡ Some e) (is : has_id id e ≡ true) where
  abbrev pub one : Led id p e cs
  one = led id p e cs order there is

  apart' : AreDistinct (addresses (one.front ++ cell p e ∷ one.back))
  apart' = subst (λ l. AreDistinct (addresses l)) one.whole apart

  left : taken_out p cs ≡ one.front ++ one.back
  left = ap (taken_out p) one.whole ∙ without-at p e one.back one.front one.before

  whole-values : values cs ≡ values one.front ++ e ∷ values one.back
  whole-values = ap values one.whole ∙ values-parts one.front (cell p e ∷ one.back)

  pub values-gone : values (taken_out p cs) ≡ without id (values cs)
  values-gone =
      ap values left ∙ values-parts one.front one.back
      ∙ sym (remove-at (values cs) (values one.front) e (values one.back) (length one.front) whole-values (length-values one.front))
      ∙ removed-is id (values cs) (length one.front) order one.index

  pub apart-gone : AreDistinct (addresses (taken_out p cs))
  apart-gone = subst (λ l. AreDistinct (addresses l)) (sym left) (apart-fewer one.front p e one.back apart')

  pub length-gone : length cs ≡ suc (length (taken_out p cs))
  length-gone = ap length one.whole ∙ length-cut one.front (cell p e) one.back ∙ ap (λ l. suc (length l)) (sym left)

  pub read-at : e ≡ get_or (values cs) (length one.front) e
  read-at = sym (ap (λ l. get_or l (length one.front) e) whole-values
      ∙ get_or_at (values one.front) e (values one.back) e (length one.front) (length-values one.front))

  pub entry-found : entry_of id (values cs) ≡ Some e
  entry-found = found-is id (values cs) (length one.front) order one.index e read-at

  module _ (table : List (Option (Link (Entry T)))) (it : IsTable table cs) where
    pub led-by : leads_at table id.place ≡ Some (record { at = p })
    led-by = ap (leads_at table) (sym (id-place id e is)) ∙ it.holds p e there

    pub table-within : id.place < length table
    table-within = (leads-within table id.place (record { at = p }) led-by).0

    pub table-gone : IsTable (set table id.place None) (taken_out p cs)
    table-gone =
        subst (λ l. IsTable (set table id.place None) l) (sym left)
        (subst (λ i. IsTable (set table i None) (one.front ++ one.back)) (id-place id e is)
        (table-fewer one.front p e one.back apart' table (subst (IsTable table) one.whole it)))

-- ---- a list without entries
module _ {T : Type 0} where
  pub none-pending : (limit serial : ℕ) → IsPending {T = T} (record { entries = []; limit = limit; serial = serial })
  none-pending limit serial = record {
    in_order = λ i j d lt small. absurd (omega arith);
    used = All-nil (λ it. it.id.serial < serial);
    placed = All-nil (λ it. it.id.place < limit);
    few = omega arith;
  }

  leads-none : (n i : ℕ) (l : Link (Entry T)) → leads_at (replicate n None) i ≡ Some l → ⊥
  leads-none zero i l e = cc
  leads-none (suc n) zero l e = cc
  leads-none (suc n) (suc i) l e = leads-none n i l e

  pub none-table : (n : ℕ) → IsTable {T = T} (replicate n None) []
  unfolding value_at
  none-table n = record { holds = λ p e found. absurd cc; points = λ i l e. absurd (leads-none n i l e) }

  -- ---- the addresses of ids
  differ-by : (table : List (Option (Link (Entry T)))) (done cs : List (Cell (Entry T))) → IsTable table (done ++ cs)
      → AreDistinct (addresses (done ++ cs))
      → (c : Cell (Entry T)) → value_at c.at (done ++ cs) ≡ Some c.value → has c.at (addresses cs) ≡ false
      → All (DifferInPlace c.value) (values cs)
  differ-by table done [] it apart c there other = All-nil (DifferInPlace c.value)
  differ-by table done (d ∷ cs) it apart c there other =
      let here = has-cons c.at d.at (addresses cs) other in
      let found = value-there (done ++ d ∷ cs) done d cs apart refl in
      let shift = append_assoc done (d ∷ []) cs in
      All-cons (DifferInPlace c.value) d.value (values cs)
      (λ same. true≢false (sym
      (ap (same_address d.at) (same-link (record { at = c.at }) (record { at = d.at })
      (sym (it.holds c.at c.value there) ∙ ap (leads_at table) same ∙ it.holds d.at d.value found)) ∙ same_address_refl d.at)
      ∙ here.0))
      (differ-by table (done ++ d ∷ []) cs (subst (IsTable table) (sym shift) it)
      (subst (λ l. AreDistinct (addresses l)) (sym shift) apart) c (ap (value_at c.at) shift ∙ there) here.1)

  differ-all : (table : List (Option (Link (Entry T)))) (done cs : List (Cell (Entry T))) → IsTable table (done ++ cs)
      → AreDistinct (addresses (done ++ cs)) → AllPairs DifferInPlace (values cs)
  differ-all table done [] it apart = λ i j d lt small. absurd (omega arith)
  differ-all table done (c ∷ cs) it apart =
      let shift = append_assoc done (c ∷ []) cs in
      let cut = apart-without (addresses done) c.at (addresses cs) (subst AreDistinct (addresses-parts done (c ∷ cs)) apart) in
      let it' = subst (IsTable table) (sym shift) it in
      let apart' = subst (λ l. AreDistinct (addresses l)) (sym shift) apart in
      AllPairs-cons DifferInPlace c.value (values cs)
      (differ-by table (done ++ c ∷ []) cs it' apart' c
      (ap (value_at c.at) shift ∙ value-there (done ++ c ∷ cs) done c cs apart refl) cut.behind)
      (differ-all table (done ++ c ∷ []) cs it' apart')

  pub places-differ : (table : List (Option (Link (Entry T)))) (cs : List (Cell (Entry T))) → IsTable table cs
      → AreDistinct (addresses cs) → AllPairs DifferInPlace (values cs)
  places-differ table cs it apart = differ-all table [] cs it apart

-- ---- an entry is put where it belongs
module _ {T : Type 0} where
  pub there-behind : (deadline : ℕ) (cs : List (Cell (Entry T))) → AreDistinct (addresses cs) → (after : Option (Link (Entry T)))
      → BelongsBehind deadline (address_of after) cs → IsThere after cs
  there-behind deadline cs apart None b = tt
  there-behind deadline cs apart (Some l) b =
      stops-there deadline cs apart l.at (record { front = b.front; back = b.back; whole = b.whole; is = b.is; behind = b.behind })

  module _ (cs : List (Cell (Entry T))) (apart : AreDistinct (addresses cs)) (o : Option Ptr) (e : Entry T)
      (b : BelongsBehind e.deadline o cs) (p : Ptr) (fresh : value_at p cs ≡ None) where
    abbrev pub put : List (Cell (Entry T))
    put = put_after o (cell p e) cs

    abbrev stands : List (Cell (Entry T))
    stands = b.front ++ cell p e ∷ b.back

    apart₀ : AreDistinct (addresses (b.front ++ b.back))
    apart₀ = subst (λ l. AreDistinct (addresses l)) b.whole apart

    put-cells : put ≡ stands
    put-cells = (λ i. put_after (b.is i) (cell p e) (b.whole i)) ∙ put-is b.front b.back (cell p e) apart₀

    apart₁ : AreDistinct (addresses stands)
    apart₁ =
        subst AreDistinct (sym (addresses-parts b.front (cell p e ∷ b.back)))
        (apart-with (addresses b.front) p (addresses b.back)
        (subst (λ l. has p l ≡ false) (ap addresses b.whole ∙ addresses-parts b.front b.back) (none-value p cs fresh))
        (subst AreDistinct (addresses-parts b.front b.back) apart₀))

    pub apart-put : AreDistinct (addresses put)
    apart-put = subst (λ l. AreDistinct (addresses l)) (sym put-cells) apart₁

    whole-values' : values cs ≡ values b.front ++ values b.back
    whole-values' = ap values b.whole ∙ values-parts b.front b.back

    values-put : values put ≡ values b.front ++ e ∷ values b.back
    values-put = ap values put-cells ∙ values-parts b.front (cell p e ∷ b.back)

    pub placed-put : values put ≡ placed e (values cs)
    placed-put = values-put ∙ sym (ap (placed e) whole-values' ∙ placed-parts b.front p e b.back apart₁ b.before b.behind)

    pub length-put : length put ≡ suc (length cs)
    length-put = ap length put-cells ∙ length-cut b.front (cell p e) b.back ∙ ap (λ l. suc (length l)) (sym b.whole)

    pub table-put : (table : List (Option (Link (Entry T)))) → IsTable table cs → leads_at table e.id.place ≡ None
        → e.id.place < length table
        → IsTable (set table e.id.place (Some (record { at = p }))) put
    table-put table it free within =
        subst (λ l. IsTable (set table e.id.place (Some (record { at = p }))) l) (sym put-cells)
        (table-more b.front p e b.back apart₁ table (subst (IsTable table) b.whole it) free within)

    pub pending-put : (limit serial : ℕ) → IsPending (record { entries = values cs; limit = limit; serial = serial })
        → All (λ other. other.id.serial ≢ e.id.serial) (values cs) → (next : ℕ) → serial ≤ next → e.id.serial < next → e.id.place < limit
        → length (values cs) < limit
        → IsPending (record { entries = values put; limit = limit; serial = next })
    pending-put limit serial it others next grows used place room =
        subst (λ l. IsPending (record { entries = l; limit = limit; serial = next })) (sym values-put)
        (more (record { entries = values cs; limit = limit; serial = serial }) it e next (values b.front)
        (values b.back) whole-values' b.before
        (λ k d small. let on = b.behind k d small in omega (arith, on)) others grows used place room)

-- ---- the first entry
module _ {N : Type 0} where
  pub record First (p : Ptr) (cs : List (Cell N)) : Type 0 where
    pub value : N
    pub there : value_at p cs ≡ Some value
    pub is : slice_get (values cs) 0 ≡ Some value

  first-at : (p : Ptr) (c : Cell N) (cs : List (Cell N)) → c.at ≡ p → value_at p (c ∷ cs) ≡ Some c.value
  unfolding value_at
  first-at p c cs e = rw (← e, same_address_refl c.at) refl

  pub first-led : (p : Ptr) (cs : List (Cell N)) → Some p ≡ first_address cs → First p cs
  unfolding first_address
  first-led p [] e = absurd cc
  first-led p (c ∷ cs) e = let at : c.at ≡ p = cc in record { value = c.value; there = first-at p c cs at; is = refl }

  pub first-none : (cs : List (Cell N)) → None ≡ first_address cs → cs ≡ []
  unfolding first_address
  first-none [] e = refl
  first-none (c ∷ cs) e = absurd cc

-- ---- the first is taken out
module _ {T : Type 0} where
  abbrev pub key : Entry T → Id × ℕ
  key it = (it.id, it.deadline)

  pub popped : (entries : List (Entry T)) (k : Id × ℕ) (item : T) → Some k ≡ option_map key (slice_get entries 0)
      → All (λ it. entry_of it.id entries ≡ Some it) entries
      → ((first : Entry T) (others : List (Entry T)) → entries ≡ first ∷ others → without first.id entries ≡ others)
      → Some item ≡ option_map (λ (it : Entry T). it.item) (entry_of k.0 entries)
      → entries ≡ record { id = k.0; deadline = k.1; item = item } ∷ without k.0 entries
  popped [] k item is each rest got = absurd cc
  popped (x ∷ xs) k item is each rest got =
      let keys : k ≡ key x = cc in
      let ids : k.0 ≡ x.id = ap (λ (j : Id × ℕ). j.0) keys in
      let deadlines : k.1 ≡ x.deadline = ap (λ (j : Id × ℕ). j.1) keys in
      let one : entry_of x.id (x ∷ xs) ≡ Some x = All-head (λ it. entry_of it.id (x ∷ xs) ≡ Some it) x xs each in
      let both : Some item ≡ Some x.item =
      got ∙ ap (λ i. option_map (λ (it : Entry T). it.item) (entry_of i (x ∷ xs))) ids
      ∙ ap (option_map (λ (it : Entry T). it.item)) one in
      let items : item ≡ x.item = cc in
      let others : without k.0 (x ∷ xs) ≡ xs = ap (λ i. without i (x ∷ xs)) ids ∙ rest x xs refl in
      λ i. record { id = sym ids i; deadline = sym deadlines i; item = sym items i } ∷ sym others i

module _ {N : Type 0} where
  pub length-without : (p : Ptr) (x : N) (cs : List (Cell N)) → value_at p cs ≡ Some x → length cs ≡ suc (length (taken_out p cs))
  length-without p x cs there =
      let at = found p x cs there in
      ap length at.whole ∙ length-cut at.front (cell p x) at.back
      ∙ ap (λ l. suc (length l)) (sym (ap (taken_out p) at.whole ∙ without-at p x at.back at.front at.before))

pub entries-none : {E : Type 0} (cs : List (Cell (Node E))) → entries_of cs ≡ [] → cs ≡ []
entries-none [] e = refl
entries-none (c ∷ cs) e = absurd cc

pub set-twice : {X : Type 0} (os : List X) (i : ℕ) (x y : X) → set (set os i x) i y ≡ set os i y
set-twice [] i x y = refl
set-twice (o ∷ os) zero x y = refl
set-twice (o ∷ os) (suc i) x y = ap (λ l. o ∷ l) (set-twice os i x y)

pub set-got : {X : Type 0} (os : List X) (i : ℕ) (x : X) → slice_get os i ≡ Some x → set os i x ≡ os
set-got [] i x e = refl
set-got (o ∷ os) zero x e = let same : o ≡ x = cc in ap (λ y. y ∷ os) (sym same)
set-got (o ∷ os) (suc i) x e = ap (λ l. o ∷ l) (set-got os i x e)

-- ---- an item is changed
module _ {T : Type 0} (id : Id) (p : Ptr) (e : Entry T) (cs : List (Cell (Entry T))) (order : AllPairs Precedes (values cs))
    (apart : AreDistinct (addresses cs)) (there : value_at p cs ≡ Some e) (is : has_id id e ≡ true) (w : T) where
  abbrev at : Led id p e cs
  at = one id p e cs order apart there is

  abbrev new : Entry T
  new = record e { item = w }

  abbrev pub reitem : List (Cell (Entry T))
  reitem = changed_at p (λ x. record x { item = w }) cs

  reitem-cells : reitem ≡ at.front ++ cell p new ∷ at.back
  reitem-cells = ap (changed_at p (λ x. record x { item = w })) at.whole
      ∙ changed-at p e at.back (λ x. record x { item = w }) at.front at.before

  pub values-reitem : values reitem ≡ with_item id w (values cs)
  values-reitem =
      ap values reitem-cells ∙ values-parts at.front (cell p new ∷ at.back)
      ∙ sym (ap (λ l. set l (length at.front) new) (ap values at.whole ∙ values-parts at.front (cell p e ∷ at.back))
      ∙ set_at (values at.front) e (values at.back) new (length at.front) (length-values at.front))
      ∙ changed-is id w (values cs) (length at.front) e order at.index (read-at id p e cs order apart there is)

  old-apart : AreDistinct (addresses (at.front ++ cell p e ∷ at.back))
  old-apart = subst (λ l. AreDistinct (addresses l)) at.whole apart

  new-apart : AreDistinct (addresses (at.front ++ cell p new ∷ at.back))
  new-apart = subst AreDistinct (sym (addresses-parts at.front (cell p new ∷ at.back)))
      (subst AreDistinct (addresses-parts at.front (cell p e ∷ at.back)) old-apart)

  pub apart-reitem : AreDistinct (addresses reitem)
  apart-reitem = subst (λ l. AreDistinct (addresses l)) (sym reitem-cells) new-apart

  pub length-reitem : length reitem ≡ length cs
  length-reitem = ap length reitem-cells ∙ length-cut at.front (cell p new) at.back
      ∙ sym (ap length at.whole ∙ length-cut at.front (cell p e) at.back)

  pub table-reitem : (table : List (Option (Link (Entry T)))) → IsTable table cs → IsTable table reitem
  table-reitem table it =
      let on = leads-within table e.id.place (record { at = p }) (it.holds p e there) in
      let old = table-fewer at.front p e at.back old-apart table (subst (IsTable table) at.whole it) in
      let more = table-more at.front p new at.back new-apart (set table e.id.place None) old (leads-set table e.id.place None on.0)
      (subst (λ n. e.id.place < n) (sym (length-set table e.id.place None)) on.0) in
      subst (λ l. IsTable table l) (sym reitem-cells)
      (subst (λ t. IsTable t (at.front ++ cell p new ∷ at.back))
      (set-twice table e.id.place None (Some (record { at = p })) ∙ set-got table e.id.place (Some (record { at = p })) on.1) more)
