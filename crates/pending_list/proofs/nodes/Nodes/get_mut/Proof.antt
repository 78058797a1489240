-- `get_mut` lends a value, and the owner follows it.
use Rattle.std.proofs.Common.{◌≡◌, ℕ, List, [], ◌∷◌, ◌++◌, refl, sym, Some, IsSome, subst}
use seplogic.Ra.Ura.{Ura}
use mir.Syntax.{a_type, named}
use mir.Raw.{raw as bare}
use mir.Val.{Val, vptr}
use mir.MapTy.{inst_fn}
use base.Fraction.{full_share}
use base.Logic.{SProp, ent, sep, emp, id⊢, never}
use base.Fml.{GName, Lft, Fml, ftrue, fsep, fat, flft}
use prog.Wp.{WpFn}
use types.Logic.{Logic, sem}
use types.Kit.{‵, raw, ◌⊛◌, some, later, await, pick, at_ret, ◌$◌, ◌∵◌, !, qed, by, move, keep, drop, split, split3, join, group, fsplit, fsplit3, fjoin, fpack, use0, use1, use2, rewrite, feq_l, suffices, done}
use types.Run.{stop, fld, hop, from, addr, of_opd, first, blocks, exec, returns, enter}
use types.ByLocal.{alloc_all, pass_all, free_all, look_at, look_in_at, take_at, give_at, get, sets, sets_last, env}
use types.Part.{sub, whole}
use contract.Running.{tables}
use contract.Monad.{fact, fact_i}
use contract.BorrowLft.{◌⊑◌}
use denote.Exit.{no}
use denote.RattleType.{RattleType, owns}
use denote.Signature.{types_at, plain, mut_ref_to}
use denote.Memory.{mem, cell_at, part_at, part_of, lone}
use denote.RawPtr.{Ptr, block_ptr, lies_at, in_a_block}
use denote.Ref.{MutBor, MutRef}
use denote.Follow.{follows, Part, lends_Part}
use denote.Steps.{nothing, heard, opens}
use denote.Param.{param, layout, layouts}
use denote.Triple.Walked.{Stays, stay_dropped, walk_of, Goes-dropped, Goes-spent_ref}
use Rattle.core.proofs.atomic.Steps.{tail}
use Rattle.std.proofs.raw_atomic.Walks.{proved_at, leaves}
use Rattle.std_alloc.proofs.RcSteps.{word, word-Good}
use Rattle.libc.specs.Heap.{chunk}
use Rattle.pending_list.specs.Cells.{value_at, without, set_at, cells_own}
use Rattle.pending_list.specs.NodeLends.{with_node}
use Rattle.pending_list.specs.contracts.nodes.Nodes as nodes
use Rattle.pending_list.specs.contracts.node.Node as node
use Rattle.pending_list.specs.contracts.nodes.Link as link
use Rattle.pending_list.proofs.Memory.{some_of, One, cut, glue, Mark, word_had}
use Rattle.pending_list.specs.contracts.nodes.Nodes.get_mut.{ended, clauses}
use Rattle.pending_list.specs.contracts.nodes.Nodes.get_mut.Key.{name as #self}
use Rattle.pending_list.proofs.nodes.Nodes.get_mut.Statement.{statement}
use Rattle.pending_list.proofs.nodes.Nodes.get_mut.Code as code

module _ (X : RattleType) where
  abbrev E : RattleType
  E = param 0 X

  abbrev R : RattleType
  R = node.the_row E

  abbrev Row : RattleType
  Row = nodes.the_row E

  -- all but the value
  abbrev Rest : Row.Denot → Ptr → List Val → ℕ → ℕ → Fml
  Rest d p vs rb ro = fsep (chunk (bare (lone R.mir)) p)
      (fsep (cells_own R (without p d.cells)) (fsep ((Mark E).own_val (tt, tt) vs) (cell_at full_share Row.mir vs rb ro)))

  back : {M : Type 1} {𝓤 : Ura M} (𝓛 : Logic 𝓤) (d : Row.Denot) (p : Ptr) (x : R.Denot) → value_at p d.cells ≡ Some x
      → (vs : List Val) (rb ro b o : ℕ) → p ≡ block_ptr b o
      → (w : R.Denot) → ent 𝓤 (sep 𝓤 (sem 𝓛 ((mem R).own_at w b o)) (sem 𝓛 (Rest d p vs rb ro)))
      (sem 𝓛 ((mem Row).own_at (with_node d p w) rb ro))
  unfolding part_of
  back 𝓛 d p x is vs rb ro b o e w =
      qed 𝓛 (‵ (part_at R full_share w b o) ∷ ‵ (Rest d p vs rb ro) ∷ []) ∵ rewrite ! 0 (λ (q : Ptr). ‵ (lies_at R full_share q w))
      (sym e) refl $
      move ! (1 ∷ []) $ fsplit3 ! $ move ! (3 ∷ 0 ∷ []) $ fjoin ! $ move ! (0 ∷ 1 ∷ []) $
      use2 𝓛 (‵ (cells_own R (set_at p w d.cells))) (glue R 𝓛 p d.cells x w is) $
      move ! (1 ∷ []) $ fsplit ! $ move ! (0 ∷ 2 ∷ []) $ fjoin ! $ move ! (1 ∷ 0 ∷ []) $ fjoin ! $
      fpack ! (List Val) (λ us. fsep (cell_at full_share Row.mir us rb ro) (Row.own_val (with_node d p w) us)) vs $ done !

pub get_mut_spec : {M : Type 1} → statement M
get_mut_spec 𝓤 𝓛 𝓜 𝓡 wired X L =
    let H = 𝓛.H in
    let 𝓣 = tables 𝓤 H 𝓜 𝓡 𝓡.env in
    let En = ended X in
    let inst = layouts (a_type ∷ []) (X, tt) in
    let fn = inst_fn inst code.function in
    let RX : RattleType = R X in
    let Rw : RattleType = Row X in
    let Lk : RattleType = link.the_row (E X) in
    let c = clauses X 𝓛 𝓜.mem 𝓡.returns in
    let hs : Stays En.signature.params En.kept =
    (stay_dropped (mut_ref_to (0 ∷ []) tt (plain (λ _. Rw))) no, (stay_dropped (plain (λ _. Lk)) no, tt)) in
    proved_at 𝓛 En hs c 𝓜 𝓡 (
      Goes-spent_ref 𝓛 2 (0 ∷ []) tt (plain (λ _. Rw)),
      (Goes-dropped 𝓛 2 (plain (λ _. Lk)) no (λ κs x f. refl), tt),
    ) (#self inst) fn (code.unfolded 𝓤 H 𝓜 𝓡 wired (X, tt))
    (λ z are.
    let κs = z.0.0 in
    let qs = z.0.1 in
    let a = z.0.3 in
    let κ : Lft = κs.0 in
    let d : Rw.Denot = a.0.now in
    let rb : ℕ = a.0.ref_ptr.0 in
    let ro : ℕ = a.0.ref_ptr.1 in
    let γ = a.0.ghost_name in
    let p : Ptr = a.1.0.at in
    let Post : Val → SProp 𝓤 = (walk_of 𝓛 En hs c).post z in let Run : List Val → SProp 𝓤 = λ ws. WpFn 𝓤 H 𝓣.C 𝓣.Λ fn ws Post in
    let new = with_node d p in let coded = Rw.coded.code d in
    qed 𝓛 (((‵ (flft κ qs.0) ⊛ ‵ (flft κs.1.0 qs.1.0) ⊛ ‵ ftrue) ⊛ ‵ (owns (types_at En.signature.params κs) a z.0.4)) ∷
    (raw (fact 𝓤 (κs.1.0 ⊑ X.lives)) ⊛ raw (fact 𝓤 (IsSome (value_at p d.cells)))) ∷ []) ∵
    split ! $ move ! (2 ∷ []) $ split ! $ drop ! $ heard ! (IsSome (value_at p d.cells)) (λ there.
    let one = some_of (value_at p d.cells) there in let x : RX.Denot = one.0 in
    split ! $ move ! (2 ∷ []) $ fsplit ! $ fsplit3 ! $ feq_l ! (λ e0. move ! (2 ∷ []) $ fsplit ! $ word_had ! p z.0.4.1.0 (λ e1. drop ! $
    -- [obs; the borrow; the token; the other tokens]
    suffices ! (Run (vptr rb ro ∷ word p ∷ []))
    (subst (λ (us : List Val × List Val). ent 𝓤 (Run (vptr rb ro ∷ word p ∷ [])) (Run (us.0 ++ (us.1 ++ []))))
    (λ i. (sym e0 i, sym e1 i)) (id⊢ 𝓤 _)) $
    enter ! 𝓣.C 𝓣.Λ fn (vptr rb ro ∷ word p ∷ []) Post $
    alloc_all ! (λ l. pass_all ! refl ((tt, tt), (word-Good [] p, tt)) $ let Ev = env fn.locals l in
    opens ! tt Rw {h = d} rb ro (λ vs. move ! (1 ∷ []) $ fsplit ! $ move ! (1 ∷ []) $
    use1 𝓛 (‵ (One RX 𝓛 p x) ⊛ ‵ (cells_own RX (without p d.cells))) (cut RX 𝓛 p d.cells x one.1) $ split ! $ fsplit ! $
    in_a_block ! p (λ r. lies_at RX full_share r x) (id⊢ 𝓤 (never 𝓤)) (λ pb po e.
    let way = back X 𝓛 d p x one.1 vs rb ro pb po e in
    -- [the value; its token; the other cells; the mark; its cell; the open borrow; obs; auth; the other tokens]
    take_at ! 2 $ rewrite ! 0 (λ (r : Ptr). ‵ (fat full_share (layout Lk) (l 2) 0 (word r))) e refl $ give_at ! 2 $
    first ! $ blocks ! $ sets_last ! (addr ! (from ! (fld ! refl (hop ! (look_in_at ! 2 (sub ! 0 refl (whole !))) (stop !))))) refl
    (tt, tt) $ exec ! 𝓣.C 𝓣.Λ Ev (tail fn.body) (at_ret Ev Post) $
    sets ! (of_opd ! (get ! refl)) refl (tt, tt) $
    move ! (3 ∷ 4 ∷ []) $ fjoin ! $ move ! (3 ∷ 0 ∷ []) $ fjoin ! $ move ! (2 ∷ 0 ∷ []) $ fjoin ! $ move ! (2 ∷ 3 ∷ 4 ∷ 1 ∷ 0 ∷ []) $
    group ! 5 $
    use1 𝓛 (later (some (λ (δ : GName). raw (Part 𝓛 Rw RX new (named 0) κ qs.0 rb ro pb po γ (sem 𝓛 (Rest X d p vs rb ro)) way x δ))))
    (lends_Part 𝓛 Rw RX new (named 0) κ qs.0 rb ro pb po γ (sem 𝓛 (Rest X d p vs rb ro)) way coded coded x) $ await ! tt $ pick ! (λ δ.
    let r : MutBor RX.Denot = record { ref_ptr = (pb, po); ghost_name = δ; now = x } in
    use1 𝓛 (‵ ((MutRef (named 0) κ RX).own_val r (vptr pb po ∷ [])) ⊛ ‵ (flft κ qs.0) ⊛ ‵ (follows Rw RX γ δ new)) (id⊢ 𝓤 _) $ split3 ! $
    -- [the result; the token; what follows; the other tokens]
    use0 𝓛 (raw (fact 𝓤 (value_at p d.cells ≡ Some x))) (fact_i 𝓤 (value_at p d.cells ≡ Some x) (emp 𝓤) one.1) $ move ! (3 ∷ 0 ∷ []) $
    join ! $
    move ! (2 ∷ 3 ∷ []) $ join ! $ nothing ! $ nothing ! $ fjoin ! $ nothing ! $ fjoin ! $
    returns ! (look_at ! 0 refl) $ free_all ! refl $ keep ! (1 ∷ 0 ∷ 3 ∷ 2 ∷ []) $
    by ! (leaves 𝓛 En hs c z (vptr pb po) r (tt, (tt, tt)) (tt, (tt, tt)))))))))))
