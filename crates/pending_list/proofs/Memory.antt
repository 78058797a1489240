-- The cells are taken apart and put together, and a new one lies apart from the others. Assumes `Logic`.
use Rattle.std.proofs.Common.{◌≡◌, true≢false, ℕ, ◌<◌, Bool, true, false, ◌&&◌, ◌==◌, cond, List, [], ◌∷◌, ◌++◌, Option, Some, None, IsSome, refl, sym, subst, arith, eqb→eq, T}
use lib.Dec.{eqb_refl}
use seplogic.Ra.Ura.{Ura}
use base.Fraction.{full_share}
use mir.Syntax.{impl, tnil, dnil}
use mir.Val.{Val, vstruct, vcons, vnil, of_list}
use base.Logic.{SProp, ent, sep, never, never_e, id⊢, via, fst∗, snd∗, emp}
use base.Fml.{Lft, Fml, ftrue, fat, froom}
use prog.Memory.{size}
use prog.Model.{Model}
use types.Logic.{Logic, sem}
use contract.Monad.{fact, fact_i, fact_use}
use types.Kit.{Item, Goal, Seq, Step, step, mean, prop, ‵, raw, ◌⊛◌, some, ◌$◌, ◌∵◌, !, qed, by, move, keep, drop, use1, use2, pick, split, fsplit, fjoin, fpick, fpack, feq_i, feq_l, done}
use denote.RattleType.{RattleType, Valss}
use denote.Memory.{lone, part_at}
use denote.Param.{layout}
use denote.Param.Laws.{Laws}
use denote.Shadow.{makes_shadow}
use denote.Struct.Owning.{shape}
use denote.RawPtr.{Ptr, RawPtr, block_ptr, null_ptr, ptr_val, lies_at}
use denote.Steps.{nothing}
use denote.Struct.Lending.{lent_at}
use denote.Struct.Struct.{Shape, Struct, within}
use borrow.Table.OneValue.{part_out}
use Rattle.std.specs.Box.Ownership.{box_owns}
use Rattle.core.proofs.alloc.Calls.{handle_tells}
use Rattle.core.proofs.cell.Inside.{Good}
use Rattle.pending_list.specs.contracts.nodes.Nodes as nodes
use Rattle.std_alloc.proofs.RcSteps.{word}
use Rattle.libc.specs.Heap.{chunk}
use Rattle.pending_list.specs.Cells.{Cell, cell, same_address, value_at, set_at, without, put_behind, put_after, cells_own, cells_lent}

true_of : (b : Bool) → T b → b ≡ true
true_of true t = refl
true_of false t = absurd t

pub same_address_refl : (p : Ptr) → same_address p p ≡ true
same_address_refl (block_ptr b o) = λ i. true_of (b == b) (eqb_refl b) i && true_of (o == o) (eqb_refl o) i
same_address_refl null_ptr = refl

both : (x y : Bool) → (x && y) ≡ true → T x × T y
both true true e = (tt, tt)
both true false e = cc
both false y e = cc

pub same_address_eq : (p q : Ptr) → same_address p q ≡ true → p ≡ q
same_address_eq (block_ptr b o) (block_ptr c p) e = let t = both (b == c) (o == p) e in λ i. block_ptr (eqb→eq b c t.0 i) (eqb→eq o p t.1 i)
same_address_eq (block_ptr b o) null_ptr e = cc
same_address_eq null_ptr (block_ptr c p) e = cc
same_address_eq null_ptr null_ptr e = refl

pub some_of : {X : Type 0} (o : Option X) → IsSome o → (x : X) × (o ≡ Some x)
some_of (Some x) h = (x, refl)
some_of None h = absurd (true≢false (sym h))

module _ (R : RattleType) {M : Type 1} {𝓤 : Ura M} (𝓛 : Logic 𝓤) (p : Ptr) where
  abbrev pub One : R.Denot → Fml
  One x = box_owns chunk R p x

  abbrev Own : List (Cell R.Denot) → SProp 𝓤
  Own cs = sem 𝓛 (cells_own R cs)

  cut_step : (c : Cell R.Denot) (cs : List (Cell R.Denot)) (x : R.Denot) (y : Bool) → same_address c.at p ≡ y
      → (value_at p cs ≡ Some x → ent 𝓤 (Own cs) (sep 𝓤 (sem 𝓛 (One x)) (Own (without p cs))))
      → cond y (Some c.value) (value_at p cs) ≡ Some x
      → ent 𝓤 (Own (c ∷ cs)) (sep 𝓤 (sem 𝓛 (One x)) (Own (cond y cs (c ∷ without p cs))))
  cut_step c cs x true e rest is =
      let at : c.at ≡ p = same_address_eq c.at p e in
      let v : c.value ≡ x = cc in
      subst (λ (d : Ptr × R.Denot). ent 𝓤 (Own (c ∷ cs)) (sep 𝓤 (sem 𝓛 (box_owns chunk R d.0 d.1)) (Own cs))) (λ i. (at i, v i)) (id⊢ 𝓤 _)
  cut_step c cs x false e rest is =
      qed 𝓛 (‵ (cells_own R (c ∷ cs)) ∷ []) ∵ fsplit ! $ move ! (1 ∷ []) $
      use1 𝓛 (‵ (One x) ⊛ ‵ (cells_own R (without p cs))) (rest is) $ split ! $ move ! (2 ∷ 1 ∷ []) $ fjoin ! $ move ! (1 ∷ []) $ done !

  pub cut : (cs : List (Cell R.Denot)) (x : R.Denot) → value_at p cs ≡ Some x → ent 𝓤 (Own cs) (sep 𝓤 (sem 𝓛 (One x)) (Own (without p cs)))
  unfolding value_at without
  cut [] x is = absurd cc
  cut (c ∷ cs) x is = cut_step c cs x (same_address c.at p) refl (cut cs x) is

  glue_step : (c : Cell R.Denot) (cs : List (Cell R.Denot)) (x w : R.Denot) (y : Bool) → same_address c.at p ≡ y
      → (value_at p cs ≡ Some x → ent 𝓤 (sep 𝓤 (sem 𝓛 (One w)) (Own (without p cs))) (Own (set_at p w cs)))
      → cond y (Some c.value) (value_at p cs) ≡ Some x
      → ent 𝓤 (sep 𝓤 (sem 𝓛 (One w)) (Own (cond y cs (c ∷ without p cs)))) (Own (cond y (cell c.at w ∷ cs) (c ∷ set_at p w cs)))
  glue_step c cs x w true e rest is =
      let at : c.at ≡ p = same_address_eq c.at p e in
      subst (λ (d : Ptr). ent 𝓤 (sep 𝓤 (sem 𝓛 (One w)) (Own cs)) (Own (cell d w ∷ cs))) (sym at) (id⊢ 𝓤 _)
  glue_step c cs x w false e rest is =
      qed 𝓛 (‵ (One w) ∷ ‵ (cells_own R (c ∷ without p cs)) ∷ []) ∵ move ! (1 ∷ []) $ fsplit ! $ move ! (2 ∷ 1 ∷ []) $
      use2 𝓛 (‵ (cells_own R (set_at p w cs))) (rest is) $ move ! (1 ∷ 0 ∷ []) $ fjoin ! $ done !

  pub glue : (cs : List (Cell R.Denot)) (x w : R.Denot) → value_at p cs ≡ Some x
      → ent 𝓤 (sep 𝓤 (sem 𝓛 (One w)) (Own (without p cs))) (Own (set_at p w cs))
  unfolding value_at without set_at
  glue [] x w is = absurd cc
  glue (c ∷ cs) x w is = glue_step c cs x w (same_address c.at p) refl (glue cs x w) is

  seen_step : (κ : Lft) (c : Cell R.Denot) (cs : List (Cell R.Denot)) (x : R.Denot) (y : Bool) → same_address c.at p ≡ y
      → (value_at p cs ≡ Some x → ent 𝓤 (sem 𝓛 (cells_lent R cs κ)) (sem 𝓛 (lent_at R p x κ)))
      → cond y (Some c.value) (value_at p cs) ≡ Some x
      → ent 𝓤 (sem 𝓛 (cells_lent R (c ∷ cs) κ)) (sem 𝓛 (lent_at R p x κ))
  seen_step κ c cs x true e rest is =
      let at : c.at ≡ p = same_address_eq c.at p e in
      let v : c.value ≡ x = cc in
      subst (λ (d : Ptr × R.Denot). ent 𝓤 (sem 𝓛 (cells_lent R (c ∷ cs) κ)) (sem 𝓛 (lent_at R d.0 d.1 κ))) (λ i. (at i, v i))
      (fst∗ 𝓤 _ (sem 𝓛 (cells_lent R cs κ)))
  seen_step κ c cs x false e rest is = via 𝓤 _ (snd∗ 𝓤 (sem 𝓛 (lent_at R c.at c.value κ)) _) (rest is)

  pub seen : (κ : Lft) (cs : List (Cell R.Denot)) (x : R.Denot) → value_at p cs ≡ Some x
      → ent 𝓤 (sem 𝓛 (cells_lent R cs κ)) (sem 𝓛 (lent_at R p x κ))
  unfolding value_at
  seen κ [] x is = absurd cc
  seen κ (c ∷ cs) x is = seen_step κ c cs x (same_address c.at p) refl (seen κ cs x) is

  behind_step : (d c : Cell R.Denot) (cs : List (Cell R.Denot)) (y : Bool)
      → ent 𝓤 (Own (d ∷ cs)) (Own (put_behind p d cs))
      → ent 𝓤 (Own (d ∷ c ∷ cs)) (Own (cond y (c ∷ d ∷ cs) (c ∷ put_behind p d cs)))
  behind_step d c cs true rest =
      qed 𝓛 (‵ (cells_own R (d ∷ c ∷ cs)) ∷ []) ∵ fsplit ! $ move ! (1 ∷ []) $ fsplit ! $ move ! (2 ∷ 1 ∷ []) $ fjoin ! $
      move ! (1 ∷ 0 ∷ []) $ fjoin ! $ done !
  behind_step d c cs false rest =
      qed 𝓛 (‵ (cells_own R (d ∷ c ∷ cs)) ∷ []) ∵ fsplit ! $ move ! (1 ∷ []) $ fsplit ! $ move ! (2 ∷ 1 ∷ []) $ fjoin ! $
      use1 𝓛 (‵ (cells_own R (put_behind p d cs))) rest $ move ! (1 ∷ 0 ∷ []) $ fjoin ! $ done !

  behind : (d : Cell R.Denot) (cs : List (Cell R.Denot)) → ent 𝓤 (Own (d ∷ cs)) (Own (put_behind p d cs))
  unfolding put_behind
  behind d [] = id⊢ 𝓤 _
  behind d (c ∷ cs) = behind_step d c cs (same_address c.at p) (behind d cs)

pub put : (R : RattleType) {M : Type 1} {𝓤 : Ura M} (𝓛 : Logic 𝓤) (o : Option Ptr) (d : Cell R.Denot) (cs : List (Cell R.Denot))
    → ent 𝓤 (sem 𝓛 (cells_own R (d ∷ cs))) (sem 𝓛 (cells_own R (put_after o d cs)))
put R {𝓤 = 𝓤} 𝓛 None d cs = id⊢ 𝓤 _
put R 𝓛 (Some p) d cs = behind R 𝓛 p d cs

module _ (R : RattleType) (one : R.mir ≡ lone R.mir ∷ []) {M : Type 1} {𝓤 : Ura M} (𝓛 : Logic 𝓤) (𝓜 : Model 𝓤 𝓛.H)
    (big : 0 < size (lone R.mir)) where
  open 𝓛 use {H}

  room_of : (x : R.Denot) (b o : ℕ) → ent 𝓤 (sem 𝓛 (part_at R full_share x b o)) (H.room (lone R.mir) b o)
  room_of x b o = qed 𝓛 (‵ (part_at R full_share x b o) ∷ []) ∵
      use1 𝓛 (some (λ (v : Val). ‵ (fat full_share (lone R.mir) b o v) ⊛ ‵ (R.own_val x (v ∷ [])))) (part_out 𝓛 R one full_share x b o) $
      pick ! (λ v. split ! $ keep ! (0 ∷ []) $ by ! (𝓛.laws.at_room (lone R.mir) b o v))

  clash : (p : Ptr) (x y : R.Denot) → ent 𝓤 (sep 𝓤 (sem 𝓛 (lies_at R full_share p x)) (sem 𝓛 (lies_at R full_share p y))) (never 𝓤)
  clash (block_ptr b o) x y =
      qed 𝓛 (‵ (part_at R full_share x b o) ∷ ‵ (part_at R full_share y b o) ∷ []) ∵ use1 𝓛 (‵ (froom (lone R.mir) b o)) (room_of x b o) $
      move ! (1 ∷ []) $ use1 𝓛 (‵ (froom (lone R.mir) b o)) (room_of y b o) $
      by ! (𝓜.room-room (lone R.mir) (lone R.mir) b o o o (omega arith, omega arith) (omega arith, omega arith))
  clash null_ptr x y = fst∗ 𝓤 (never 𝓤) (never 𝓤)

  module _ (p : Ptr) (x : R.Denot) where
    fresh_step : (c : Cell R.Denot) (cs : List (Cell R.Denot)) (y : Bool) → same_address c.at p ≡ y
        → ent 𝓤 (sep 𝓤 (sem 𝓛 (lies_at R full_share p x)) (sem 𝓛 (cells_own R cs))) (fact 𝓤 (value_at p cs ≡ None))
        → ent 𝓤 (sep 𝓤 (sem 𝓛 (lies_at R full_share p x)) (sem 𝓛 (cells_own R (c ∷ cs))))
        (fact 𝓤 (cond y (Some c.value) (value_at p cs) ≡ None))
    fresh_step c cs true e rest =
        let at : c.at ≡ p = same_address_eq c.at p e in
        qed 𝓛 (‵ (lies_at R full_share p x) ∷ ‵ (cells_own R (c ∷ cs)) ∷ []) ∵ move ! (1 ∷ []) $ fsplit ! $ fsplit ! $ keep ! (0 ∷ 3 ∷ []) $
        by ! (via 𝓤 (never 𝓤) (subst
        (λ (q : Ptr). ent 𝓤 (sep 𝓤 (sem 𝓛 (lies_at R full_share q c.value)) (sem 𝓛 (lies_at R full_share p x))) (never 𝓤)) (sym at)
        (clash p c.value x)) (never_e 𝓤 _))
    fresh_step c cs false e rest =
        qed 𝓛 (‵ (lies_at R full_share p x) ∷ ‵ (cells_own R (c ∷ cs)) ∷ []) ∵ move ! (1 ∷ []) $ fsplit ! $ keep ! (2 ∷ 1 ∷ []) $ by ! rest

    pub fresh : (cs : List (Cell R.Denot))
        → ent 𝓤 (sep 𝓤 (sem 𝓛 (lies_at R full_share p x)) (sem 𝓛 (cells_own R cs))) (fact 𝓤 (value_at p cs ≡ None))
    unfolding value_at
    fresh [] = fact_i 𝓤 (None ≡ None) _ refl
    fresh (c ∷ cs) = fresh_step c cs (same_address c.at p) refl (fresh cs)

-- a struct of one pointer
abbrev one_field : Shape
one_field = record { name = []; args = []; types = []; fields = RawPtr ∷ [] }

abbrev pub Word : RattleType
Word = Struct one_field

module _ {M : Type 1} {𝓤 : Ura M} {𝓛 : Logic 𝓤} {K : Type 0} {Γ : List (Item 𝓤)} {G : Goal 𝓤 𝓛.H} where
  pub word_had : K → (c : Ptr) (vs : List Val) → (vs ≡ word c ∷ [] → Seq K 𝓛 Γ G) → Seq K 𝓛 (‵ (Word.own_val (c, tt) vs) ∷ Γ) G
  word_had t c vs k = fpick t
      (λ vss. fsplit t $ feq_l t
      (λ ev. fsplit t $ feq_l t (λ e. drop t $ k (subst (λ (ws : List Val). vs ≡ vstruct (of_list (ws ++ [])) ∷ []) e ev))))

  pub word_made : K → (c : Ptr) → Step K 𝓛 (‵ (Word.own_val (c, tt) (word c ∷ [])) ∷ Γ) G Γ G
  word_made t c = step (λ s.
      nothing t $ feq_i t (List Val) (ptr_val c ∷ []) (ptr_val c ∷ []) refl $ fjoin t $
      feq_i t (List Val) (word c ∷ []) (word c ∷ []) refl $ fjoin t $
      fpack t (Valss (RawPtr ∷ [])) (within one_field (c, tt) (word c ∷ [])) (ptr_val c ∷ [], tt) $ s)

-- the owner's own field, which takes no bytes
abbrev pub mark : Val
mark = vstruct (vcons (vstruct vnil) vnil)

module _ (E : RattleType) where
  abbrev pub Mark : RattleType
  Mark = Struct (shape (nodes.the_type E))

  pub mark_made : {M : Type 1} {𝓤 : Ura M} (𝓛 : Logic 𝓤) → ent 𝓤 (emp 𝓤) (sem 𝓛 (Mark.own_val (tt, tt) (mark ∷ [])))
  mark_made 𝓛 = makes_shadow 𝓛 (Mark.own_val (tt, tt) (mark ∷ [])) (λ vss. (tt, ((λ uss. (tt, tt)), tt)))
      ((vstruct vnil ∷ [], tt), (refl, ((tt, (refl, tt)), tt)))

-- a value is one machine value, of its type
module _ (Z : RattleType) (L : Laws Z) {M : Type 1} {𝓤 : Ura M} {𝓛 : Logic 𝓤} {K : Type 0} {Γ : List (Item 𝓤)} {G : Goal 𝓤 𝓛.H} where
  pub tells : K → (a : Z.Denot) (vs : List Val) → ((v : Val) → vs ≡ v ∷ [] → Good (layout Z) v → Seq K 𝓛 (‵ (Z.own_val a (v ∷ [])) ∷ Γ) G)
      → Seq K 𝓛 (‵ (Z.own_val a vs) ∷ Γ) G
  tells = handle_tells (record {
    row = Z;
    laws = L;
    g = record { dealloc_token = λ a σ p. ftrue };
    d = impl [] tnil dnil;
    drops =
        impl [] tnil dnil;
  })

module _ {M : Type 1} {𝓤 : Ura M} {𝓛 : Logic 𝓤} {K : Type 0} {Γ : List (Item 𝓤)} {G : Goal 𝓤 𝓛.H} where
  -- a fact that two entries show is learned, and they stay
  pub knows : K → {i j : Item 𝓤} (φ : Type 0) → ent 𝓤 (sep 𝓤 (mean 𝓛 i) (mean 𝓛 j)) (fact 𝓤 φ) → (φ → Seq K 𝓛 (i ∷ j ∷ Γ) G)
      → Seq K 𝓛 (i ∷ j ∷ Γ) G
  knows t {i} {j} φ h k =
      let shown : Seq K 𝓛 (i ∷ j ∷ Γ) (prop (fact 𝓤 φ)) = use2 𝓛 (raw (fact 𝓤 φ)) h $ keep t (0 ∷ []) $ done t in
      record { prf = fact_use 𝓤 φ shown.prf (λ x. (k x).prf) }
