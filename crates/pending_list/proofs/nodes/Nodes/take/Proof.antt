-- `take` gives the ownership of one box away.
use Rattle.std.proofs.Common.{◌≡◌, ℕ, List, [], ◌∷◌, ◌++◌, refl, sym, Some, IsSome, subst}
use mir.Syntax.{a_type}
use mir.Val.{Val, vptr}
use mir.MapTy.{inst_fn}
use mir.Raw.{raw as bare}
use base.Fraction.{full_share}
use base.Logic.{SProp, ent, emp, id⊢, fst∗, never}
use base.Fml.{Lft, ftrue, fat, flft}
use prog.Wp.{WpFn}
use types.Logic.{sem}
use types.Kit.{‵, raw, ◌⊛◌, ◌$◌, ◌∵◌, !, qed, by, move, keep, drop, split, join, fsplit, fsplit3, fjoin, use0, use1, rewrite, feq_i, feq_l, suffices}
use types.Run.{stop, fld, and_then, no_more, returns, enter}
use types.ByLocal.{alloc_all, pass_all, free_all, look_at, take_at, give_at, get, get_in, sets}
use types.Part.{agg, sub, whole}
use contract.Running.{tables}
use contract.Monad.{fact, fact_i}
use contract.BorrowLft.{◌⊑◌}
use denote.Exit.{yes, no}
use denote.RattleType.{RattleType, owns}
use denote.Signature.{types_at, plain}
use denote.Memory.{lone}
use denote.RawPtr.{Ptr, block_ptr, null_ptr, in_a_block}
use denote.Steps.{nothing, heard, opens, closes}
use denote.Param.{param, layout, layouts}
use denote.Triple.Walked.{Stays, stay_dropped, stay_ref, walk_of, Goes-dropped, Goes-ref}
use Rattle.std.proofs.raw_atomic.Walks.{proved_at, leaves}
use Rattle.std_alloc.proofs.RcSteps.{word, word-Good}
use Rattle.std.specs.Box.Ownership.{box_owns}
use Rattle.std.specs.contracts.alloc.Global as heap
use Rattle.std.proofs.alloc.Global.TheLaws as heap_laws
use Rattle.std_heap.specs.contracts.GlobalAllocator.TheImpl.{ghosts}
use Rattle.libc.specs.Heap.{chunk}
use Rattle.pending_list.specs.Cells.{value_at, without, cells_own}
use Rattle.pending_list.specs.contracts.nodes.Nodes as nodes
use Rattle.pending_list.specs.contracts.node.Node as node
use Rattle.pending_list.specs.contracts.nodes.Link as link
use Rattle.pending_list.proofs.Memory.{some_of, One, cut, word_had, tells}
use Rattle.pending_list.proofs.Values.{both, RawBox, raw_box_good, raw_box_in}
use Rattle.pending_list.specs.contracts.nodes.Nodes.take.{ended, clauses}
use Rattle.pending_list.specs.contracts.nodes.Nodes.take.Key.{name as #self}
use Rattle.pending_list.proofs.nodes.Nodes.take.Statement.{statement}
use Rattle.pending_list.proofs.nodes.Nodes.take.Code as code

pub take_spec : {M : Type 1} → statement M
take_spec 𝓤 𝓛 𝓜 𝓡 wired X L =
    let H = 𝓛.H in
    let 𝓣 = tables 𝓤 H 𝓜 𝓡 𝓡.env in
    let E : RattleType = param 0 X in
    let R : RattleType = node.the_row E in
    let En = ended X in
    let inst = layouts (a_type ∷ []) (X, tt) in
    let fn = inst_fn inst code.function in
    let Row : RattleType = nodes.the_row E in
    let Lk : RattleType = link.the_row E in
    let Z : RattleType = heap.the_row in
    let LZ = heap_laws.the_row_laws in
    let c = clauses X 𝓛 𝓜.mem 𝓡.returns in
    let hs : Stays En.signature.params En.kept =
    (stay_ref (0 ∷ []) tt (plain (λ _. Row)), (stay_dropped (plain (λ _. Lk)) no, (stay_dropped (plain (λ _. Z)) yes, tt))) in
    proved_at 𝓛 En hs c 𝓜 𝓡 (
      Goes-ref 𝓛 2 0 tt (plain (λ _. Row)),
      (Goes-dropped 𝓛 2 (plain (λ _. Lk)) no (λ κs x f. refl), (Goes-dropped 𝓛 2 (plain (λ _. Z)) yes (λ κs x f. refl), tt)),
    )
    (#self inst) fn (code.unfolded 𝓤 H 𝓜 𝓡 wired (X, tt))
    (λ z are.
    let κs = z.0.0 in
    let qs = z.0.1 in
    let a = z.0.3 in
    let κ : Lft = κs.0 in
    let d : Row.Denot = a.0.now in
    let rb : ℕ = a.0.ref_ptr.0 in
    let ro : ℕ = a.0.ref_ptr.1 in
    let p : Ptr = a.1.0.at in
    let g : Z.Denot = a.1.1.0 in
    let Post : Val → SProp 𝓤 = (walk_of 𝓛 En hs c).post z in let Run : List Val → SProp 𝓤 = λ ws. WpFn 𝓤 H 𝓣.C 𝓣.Λ fn ws Post in
    qed 𝓛 (((‵ (flft κ qs.0) ⊛ ‵ (flft κs.1.0 qs.1.0) ⊛ ‵ ftrue) ⊛ ‵ (owns (types_at En.signature.params κs) a z.0.4)) ∷
    (raw (fact 𝓤 (κs.1.0 ⊑ X.lives)) ⊛ raw (fact 𝓤 (IsSome (value_at p d.cells)))) ∷ []) ∵
    split ! $ move ! (2 ∷ []) $ split ! $ drop ! $ heard ! (IsSome (value_at p d.cells)) (λ there.
    let one = some_of (value_at p d.cells) there in
    let x : R.Denot = one.0 in
    let new : Row.Denot = record { mark = d.mark; cells = without p d.cells } in
    split ! $ move ! (2 ∷ []) $ fsplit ! $ fsplit3 ! $
    feq_l ! (λ e0. move ! (2 ∷ []) $ fsplit ! $
    word_had ! p z.0.4.1.0 (λ e1. fsplit ! $ tells Z LZ ! g z.0.4.1.1.0 (λ h e2 fits. move ! (1 ∷ []) $ drop ! $
    -- [the handle; obs; the borrow; the token; the other tokens]
    let ws : List Val = vptr rb ro ∷ word p ∷ h ∷ [] in
    suffices ! (Run ws) (subst (λ (us : List Val × List Val × List Val). ent 𝓤 (Run ws) (Run (us.0 ++ (us.1 ++ (us.2 ++ [])))))
    (λ i. (sym e0 i, sym e1 i, sym e2 i)) (id⊢ 𝓤 _)) $
    enter ! 𝓣.C 𝓣.Λ fn ws Post $ alloc_all ! (λ l. pass_all ! refl ((tt, tt), (word-Good [] p, (fits, tt))) $
    move ! (1 ∷ 2 ∷ 3 ∷ []) $ opens ! tt Row {h = d} rb ro (λ vs. move ! (1 ∷ []) $ fsplit ! $ move ! (1 ∷ []) $
    use1 𝓛 (‵ (One R 𝓛 p x) ⊛ ‵ (cells_own R (without p d.cells))) (cut R 𝓛 p d.cells x one.1) $ split ! $
    -- [the box; the other cells; the mark; its cell; the open borrow; obs; auth; the handle; the other tokens]
    move ! (2 ∷ 1 ∷ []) $ fjoin ! $ move ! (2 ∷ 0 ∷ 3 ∷ 4 ∷ 5 ∷ []) $ closes ! tt Row new vs rb ro $
    -- [obs; the borrow; the token; the box; the handle; the other tokens]
    move ! (3 ∷ []) $ in_a_block ! p (λ r. box_owns chunk R r x) (fst∗ 𝓤 (never 𝓤) (sem 𝓛 (chunk (bare (lone R.mir)) null_ptr))) (λ pb po e.
    take_at ! 2 $ rewrite ! 0 (λ (r : Ptr). ‵ (fat full_share (layout Lk) (l 2) 0 (word r))) e refl $ give_at ! 2 $
    let v : Val = both (vptr pb po) h in let out : (RawBox R Z LZ ghosts).Denot = record { at = block_ptr pb po; alloc = g; value = x } in
    sets ! (agg ! (and_then ! (get_in ! (fld ! refl (stop !)) (sub ! 0 refl (whole !))) (and_then ! (get ! refl) (no_more !)))) refl
    (raw_box_good R Z LZ ghosts pb po h fits) $
    move ! (0 ∷ 4 ∷ []) $ raw_box_in R Z LZ ghosts ! pb po h g x $
    use0 𝓛 (raw (fact 𝓤 (new.cells ≡ without p d.cells))) (fact_i 𝓤 (new.cells ≡ without p d.cells) (emp 𝓤) refl) $
    use0 𝓛 (raw (fact 𝓤 (value_at p d.cells ≡ Some out.value))) (fact_i 𝓤 (value_at p d.cells ≡ Some out.value) (emp 𝓤) one.1) $ join ! $
    -- [the `ensures`; the result; obs; the borrow; the token; the other tokens]
    move ! (4 ∷ 5 ∷ []) $ join ! $ move ! (3 ∷ 4 ∷ []) $ fjoin ! $ feq_i ! (List Val) z.0.4.0 (vptr rb ro ∷ []) e0 $ fjoin ! $ nothing ! $
    nothing ! $ fjoin ! $ nothing ! $ fjoin ! $ move ! (1 ∷ 0 ∷ []) $ fjoin ! $
    returns ! (look_at ! 0 refl) $ free_all ! refl $ keep ! (1 ∷ 0 ∷ 3 ∷ 2 ∷ []) $
    by ! (leaves 𝓛 En hs c z v out (new, (tt, (tt, tt))) (tt, (tt, (tt, tt))))))))))))
