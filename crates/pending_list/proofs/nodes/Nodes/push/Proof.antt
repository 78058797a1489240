-- `push` takes over the ownership of a box, which lies apart from the others.
use Rattle.std.proofs.Common.{arith, ◌≡◌, ℕ, ◌<◌, List, [], ◌∷◌, ◌++◌, refl, sym, None, Option, subst}
use mir.Syntax.{a_type}
use mir.Val.{Val, vptr}
use mir.MapTy.{inst_fn}
use base.Logic.{SProp, ent, emp, id⊢}
use base.Fml.{Lft, ftrue, flft}
use prog.Memory.{size}
use prog.Wp.{WpFn}
use types.Kit.{‵, raw, ◌⊛◌, ◌$◌, ◌∵◌, !, qed, by, move, keep, drop, split, join, fsplit, fsplit3, fjoin, use0, use1, feq_i, feq_l, suffices}
use types.Run.{stop, fld, of_opd, and_then, no_more, returns, enter}
use types.ByLocal.{alloc_all, pass_all, free_all, look_at, get, get_in, sets}
use types.Part.{agg, sub, whole}
use contract.Running.{tables}
use contract.Monad.{fact, fact_i}
use contract.BorrowLft.{◌⊑◌}
use denote.Exit.{no}
use denote.RattleType.{RattleType, owns}
use denote.Signature.{types_at, plain}
use denote.Memory.{lone}
use denote.RawPtr.{Ptr, block_ptr}
use denote.Steps.{nothing, opens, closes}
use denote.Param.{param, layouts}
use denote.Param.Laws.{Laws, param_laws}
use denote.Triple.Walked.{Stays, stay_dropped, stay_ref, walk_of, Goes-ref}
use Rattle.core.proofs.alloc.Calls.{Goes-blank}
use Rattle.std.proofs.raw_atomic.Walks.{proved_at, leaves}
use Rattle.std_alloc.proofs.RcSteps.{word, word-Good}
use Rattle.std.specs.contracts.alloc.Global as heap
use Rattle.std.proofs.alloc.Global.TheLaws as heap_laws
use Rattle.std_heap.specs.contracts.GlobalAllocator.TheImpl.{ghosts}
use Rattle.core.specs.contracts.option.Option as option
use Rattle.core.proofs.option.Option.TheLaws.{the_row_laws as option_laws}
use Rattle.pending_list.specs.Cells.{cell, value_at, put_after, address_of, cells_own}
use Rattle.pending_list.specs.contracts.nodes.Nodes as nodes
use Rattle.pending_list.specs.contracts.node.Node as node
use Rattle.pending_list.specs.contracts.nodes.Link as link
use Rattle.pending_list.proofs.nodes.Link.TheLaws as link_laws
use Rattle.pending_list.proofs.Memory.{put, fresh, knows, word_made, tells}
use Rattle.pending_list.proofs.Values.{both, RawBox, raw_box_good, raw_box_out}
use Rattle.pending_list.specs.contracts.nodes.Nodes.push.{ended, clauses}
use Rattle.pending_list.specs.contracts.nodes.Nodes.push.Key.{name as #self}
use Rattle.pending_list.proofs.nodes.Nodes.push.Statement.{statement}
use Rattle.pending_list.proofs.nodes.Nodes.push.Code as code

pub push_spec : {M : Type 1} → statement M
push_spec 𝓤 𝓛 𝓜 𝓡 wired X L =
    let H = 𝓛.H in
    let 𝓣 = tables 𝓤 H 𝓜 𝓡 𝓡.env in
    let E : RattleType = param 0 X in
    let R : RattleType = node.the_row E in
    let En = ended X in
    let inst = layouts (a_type ∷ []) (X, tt) in
    let fn = inst_fn inst code.function in
    let Row : RattleType = nodes.the_row E in
    let Lk : RattleType = link.the_row E in
    let Op : RattleType = option.the_row Lk in
    let LO : Laws Op = option_laws Lk (link_laws.the_row_laws E (param_laws 0 X L)) in
    let Z : RattleType = heap.the_row in
    let LZ = heap_laws.the_row_laws in
    let c = clauses X 𝓛 𝓜.mem 𝓡.returns in
    let Ls : RattleType = RawBox R Z LZ ghosts in
    let hs : Stays En.signature.params En.kept =
    (stay_ref (0 ∷ []) tt (plain (λ _. Row)), (stay_dropped (plain (λ _. Op)) no, (stay_dropped (plain (λ _. Ls)) no, tt))) in
    proved_at 𝓛 En hs c 𝓜 𝓡 (
      Goes-ref 𝓛 2 0 tt (plain (λ _. Row)),
      (Goes-blank 𝓛 2 (plain (λ _. Op)) no (λ κs x f. tt), (Goes-blank 𝓛 2 (plain (λ _. Ls)) no (λ κs x f. tt), tt)),
    ) (#self inst) fn
    (code.unfolded 𝓤 H 𝓜 𝓡 wired (X, tt))
    (λ z are.
    let κs = z.0.0 in
    let qs = z.0.1 in
    let a = z.0.3 in
    let κ : Lft = κs.0 in
    let d : Row.Denot = a.0.now in
    let rb : ℕ = a.0.ref_ptr.0 in
    let ro : ℕ = a.0.ref_ptr.1 in
    let at : Option Ptr = address_of a.1.0 in
    let v : Ls.Denot = a.1.1.0 in
    let Post : Val → SProp 𝓤 = (walk_of 𝓛 En hs c).post z in let Run : List Val → SProp 𝓤 = λ ws. WpFn 𝓤 H 𝓣.C 𝓣.Λ fn ws Post in
    qed 𝓛 (((‵ (flft κ qs.0) ⊛ ‵ (flft κs.1.0 qs.1.0) ⊛ ‵ ftrue) ⊛ ‵ (owns (types_at En.signature.params κs) a z.0.4)) ∷
    (raw (fact 𝓤 (κs.1.0 ⊑ X.lives)) ⊛ ‵ ftrue) ∷ []) ∵
    let big : 0 < size (lone R.mir) = omega arith in
    split ! $ move ! (2 ∷ []) $ drop ! $
    split ! $ move ! (2 ∷ []) $ fsplit ! $ fsplit3 ! $
    feq_l ! (λ e0. move ! (2 ∷ []) $ fsplit ! $ tells Op LO ! a.1.0 z.0.4.1.0 (λ w e1 fits. drop ! $
    fsplit ! $ raw_box_out R Z LZ ghosts ! v z.0.4.1.1.0 (λ pb po h e e2 good. move ! (1 ∷ 2 ∷ []) $ drop ! $ drop ! $
    -- [the box; obs; the borrow; the token; the other tokens]
    let p : Ptr = block_ptr pb po in
    let x : R.Denot = v.value in
    let new : Row.Denot = record { mark = d.mark; cells = put_after at (cell p x) d.cells } in
    let ws : List Val = vptr rb ro ∷ w ∷ both (vptr pb po) h ∷ [] in
    suffices ! (Run ws) (subst (λ (us : List Val × List Val × List Val). ent 𝓤 (Run ws) (Run (us.0 ++ (us.1 ++ (us.2 ++ [])))))
    (λ i. (sym e0 i, sym e1 i, sym e2 i)) (id⊢ 𝓤 _)) $
    enter ! 𝓣.C 𝓣.Λ fn ws Post $ alloc_all ! (λ l. pass_all ! refl ((tt, tt), (fits, (raw_box_good R Z LZ ghosts pb po h good, tt))) $
    sets ! (of_opd ! (get_in ! (fld ! refl (stop !)) (sub ! 0 refl (whole !)))) refl (tt, tt) $
    sets ! (agg ! (and_then ! (get ! refl) (no_more !))) refl (word-Good [] p) $
    move ! (1 ∷ 2 ∷ 3 ∷ []) $ opens ! tt Row {h = d} rb ro (λ vs. move ! (1 ∷ []) $ fsplit ! $
    -- [the mark; the cells; its cell; the open borrow; obs; auth; the box; the other tokens]
    move ! (6 ∷ []) $ fsplit ! $ move ! (0 ∷ 3 ∷ []) $ knows ! (value_at p d.cells ≡ None) (fresh R refl 𝓛 𝓜 big p x d.cells) (λ apart.
    move ! (0 ∷ 2 ∷ []) $ fjoin ! $ fjoin ! $ use1 𝓛 (‵ (cells_own R new.cells)) (put R 𝓛 at (cell p x) d.cells) $
    move ! (1 ∷ 0 ∷ []) $ fjoin ! $ move ! (1 ∷ 0 ∷ []) $ closes ! tt Row new vs rb ro $
    -- [obs; the borrow; the token; the other tokens]
    use0 𝓛 (raw (fact 𝓤 (value_at p d.cells ≡ None))) (fact_i 𝓤 (value_at p d.cells ≡ None) (emp 𝓤) apart) $
    use0 𝓛 (raw (fact 𝓤 (new.cells ≡ put_after at (cell p x) d.cells)))
    (fact_i 𝓤 (new.cells ≡ put_after at (cell p x) d.cells) (emp 𝓤) refl) $ join ! $ word_made ! p $
    -- [the result; the `ensures`; obs; the borrow; the token; the other tokens]
    move ! (4 ∷ 5 ∷ []) $ join ! $ move ! (3 ∷ 4 ∷ []) $ fjoin ! $ feq_i ! (List Val) z.0.4.0 (vptr rb ro ∷ []) e0 $ fjoin ! $ nothing ! $
    nothing ! $ fjoin ! $ nothing ! $ fjoin ! $ move ! (1 ∷ 0 ∷ []) $ fjoin ! $
    returns ! (look_at ! 0 refl) $ free_all ! refl $ keep ! (1 ∷ 0 ∷ 2 ∷ 3 ∷ []) $
    by ! (leaves 𝓛 En hs c z (word p) (record { at = p }) (new, (tt, (tt, tt))) (tt, (tt, (tt, tt)))))))))))
