-- `into_box` makes the box again.
use Rattle.std.proofs.Common.{◌≡◌, true, Option, Some, is_some, List, [], ◌∷◌, ◌++◌, refl, sym, ap, ◌∙◌, subst}
use mir.Syntax.{Dict, impl, tcons, tnil, dnil}
use mir.Raw.{raw as bare}
use mir.Val.{Val, vptr}
use base.Fraction.{full_share}
use base.Logic.{SProp, ent, emp, never, id⊢, fst∗}
use base.Fml.{ftrue, flft}
use prog.Wp.{WpFn}
use types.Logic.{sem}
use types.Kit.{Item, ‵, raw, ◌⊛◌, some, later, at_ret, ◌$◌, ◌∵◌, !, qed, by, move, keep, drop, split, split3, join, fsplit, fjoin, pick, suffices, use0, use1, await, rewrite, feq_i}
use types.Run.{stop, fld, of_opd, no_more, and_then, first, blocks, exec, returns, enter}
use types.ByLocal.{alloc_all, pass_all, free_all, look_at, get, get_in, sets, lands_last, env}
use types.Part.{sub, whole}
use contract.Monad.{fact, fact_i}
use contract.BorrowLft.{◌⊑◌}
use contract.Running.{tables}
use denote.Exit.{no}
use denote.RattleType.{RattleType, owns}
use denote.Signature.{types_at, plain}
use denote.RawPtr.{Ptr, block_ptr, null_ptr, in_a_block}
use denote.Steps.{nothing, only, heard, peeks}
use denote.Laws.{Is, shows}
use denote.Param.{layout, arg}
use denote.Param.Laws.{Laws, arg_laws}
use denote.Param.NoDrop as bare_drop
use denote.Triple.Entry.{alive}
use denote.Triple.Clauses.{Lasts, lasts}
use denote.Triple.Spec.{triple_of}
use denote.Triple.Call.{calls_at_last}
use denote.Triple.Walked.{Stays, stay_dropped, walk_of, Goes-dropped}
use Rattle.libc.specs.Heap.{chunk}
use Rattle.core.proofs.alloc.Calls.{handle_tells}
use Rattle.core.proofs.alloc.Shapes.{after}
use Rattle.core.proofs.atomic.Steps.{fm}
use Rattle.core.proofs.cell.Inside.{Good}
use Rattle.std_heap.specs.contracts.Global as heap
use Rattle.std_heap.proofs.Global.TheLaws as heap_laws
use Rattle.std_heap.specs.contracts.GlobalAllocator.TheImpl as global
use Rattle.std_heap.proofs.GlobalAllocator.TheImpl.Met as global_met
use Rattle.std_alloc.specs.Box.Ownership.{box_owns}
use Rattle.std_alloc.proofs.BoxSteps.Form as box
use Rattle.std_alloc.proofs.BoxSteps.Steps.{box_out, box_in}
use Rattle.std.proofs.raw_atomic.Walks.{proved_at, leaves}
use Rattle.std_alloc.specs.contracts.boxed.Box.from_raw as callee
use Rattle.std_alloc.proofs.boxed.Box.from_raw.Met.{met}
use Rattle.wokhleas.proofs.Destruct++none.drop.Symbol as no_drop
use Rattle.wokhleas.specs.Handles.{boxed_as}
use Rattle.rolling_resolver.specs.contracts.resolver.RollingResolver as state
use Rattle.rolling_resolver.proofs.resolver.RollingResolver.TheLaws as state_laws
use Rattle.wokhleas.specs.contracts.held.Held as held
use Rattle.wokhleas.proofs.HeldSteps.{word, Data, told, value_of, word_good}
use Rattle.wokhleas.specs.contracts.held.Held.into_box.{ended, clauses}
use Rattle.wokhleas.specs.contracts.held.Held.into_box.Key.{name as #self}
use Rattle.wokhleas.proofs.held.Held.into_box.Statement.{statement}
use Rattle.wokhleas.proofs.held.Held.into_box.Code as code

pub into_box_spec : {M : Type 1} → statement M
unfolding Rattle.wokhleas.proofs.Destruct++none.drop.Code.code
into_box_spec {M} 𝓤 𝓛 𝓜 𝓡 wired =
    let H = 𝓛.H in let 𝓣 = tables 𝓤 H 𝓜 𝓡 𝓡.env in let fn = code.function in let c = clauses 𝓛 𝓜.mem 𝓡.returns in
    let δX = bare (layout state.the_row) in let δZ = bare (layout heap.the_row) in let X : RattleType = arg δX no state.the_row in
    let Z : RattleType = arg δZ no heap.the_row in
    let LX : Laws X = arg_laws δX no state.the_row state_laws.the_row_laws refl in
    let LZ : Laws Z = arg_laws δZ no heap.the_row heap_laws.the_row_laws refl in
    let d : Dict = global.dict in let dd : Dict = impl (no_drop.symbol ∷ []) (tcons (layout Z) tnil) dnil in
    let E : box.Bx = record { row = X; laws = LX; al = record { row = Z; laws = LZ; g = global.ghosts; d = d; drops = dd } } in
    let B : RattleType = box.B E in
    let inX : Type 0 = [] ⊑ X.lives in let inZ : Type 0 = [] ⊑ Z.lives in
    let k = triple_of 𝓛 (callee.signature X Z global.ghosts d dd) (callee.spec X Z global.ghosts d dd 𝓛 𝓜.mem 𝓡.returns) in
    let known = met 𝓤 𝓛 𝓜 𝓡 (code.calls-std_alloc::boxed::Box::from_raw 𝓡.env wired) X Z LX LZ global.ghosts d dd
    (global_met.passed 𝓡.env (code.calls-std_heap::GlobalAllocator::allocate 𝓡.env wired)
    (code.calls-std_heap::GlobalAllocator::deallocate 𝓡.env wired) (code.calls-std_heap::GlobalAllocator::grow 𝓡.env wired)
    (code.calls-std_heap::GlobalAllocator::shrink 𝓡.env wired) M 𝓤 𝓛 𝓜 𝓡)
    (bare_drop.glues no_drop.symbol 𝓡.env (code.calls-wokhleas::Destruct++none::drop 𝓡.env wired) Z LZ M 𝓤 𝓛 𝓜 𝓡) in
    let hs : Stays ended.signature.params ended.kept = (
      stay_dropped (plain (λ _. held.the_row)) ended.kept.0,
      (stay_dropped (plain (λ _. heap.the_row)) ended.kept.1.0, tt),
    ) in
    proved_at 𝓛 ended hs c 𝓜 𝓡 (
      Goes-dropped 𝓛 0 (plain (λ _. held.the_row)) ended.kept.0 (λ κs x f. refl),
      (
        Goes-dropped 𝓛 0 (plain (λ _. heap.the_row)) ended.kept.1.0 (λ κs x f. refl),
        tt,
      ),
    ) #self fn (code.unfolded 𝓤 H 𝓜 𝓡 wired) (λ z are.
    let Post : Val → SProp 𝓤 = (walk_of 𝓛 ended hs c).post z in let Run : List Val → SProp 𝓤 = λ ws. WpFn 𝓤 H 𝓣.C 𝓣.Λ fn ws Post in
    let v = z.0.3.0 in let a = z.0.3.1.0 in let p : Ptr = v.at in
    let toks : Item 𝓤 = ‵ (flft [] full_share) ⊛ ‵ (flft [] full_share) ⊛ ‵ ftrue in
    qed 𝓛 ((raw (alive 𝓛 ended.signature z.0.0 z.0.1) ⊛ ‵ (owns (types_at ended.signature.params z.0.0) z.0.3 z.0.4)) ∷ raw (fact 𝓤
    (is_some v.state ≡ true)) ∷ []) ∵
    move ! (1 ∷ []) $ heard ! (is_some v.state ≡ true) (λ full. split ! $ move ! (1 ∷ []) $ fsplit ! $ fsplit ! $
    peeks ! Data (Is Data) (shows 𝓛 Data) (p, tt) z.0.4.0 (λ so. let ev : z.0.4.0 ≡ word p ∷ [] = told p z.0.4.0 so in
    move ! (1 ∷ []) $ let x : X.Denot = (value_of v.state full).0 in let state_is : v.state ≡ Some x = (value_of v.state full).1 in
    rewrite ! 0 (λ (o : Option X.Denot). ‵ (boxed_as X o p)) state_is refl $
    in_a_block ! p (λ q. box_owns chunk X q x) (fst∗ 𝓤 (never 𝓤) (sem 𝓛 (chunk (bare (layout X)) null_ptr))) (λ b o e.
    -- [the box; the field; the handle; the tokens]
    move ! (2 ∷ []) $ fsplit ! $ handle_tells E.al ! a z.0.4.1.0 (λ h eh fits.
    let w : Val = word (block_ptr b o) in let is : z.0.4.0 ≡ w ∷ [] = ev ∙ ap (λ (q : Ptr). word q ∷ []) e in
    let y : k.Ghost = (
      (([], ([], tt)), (full_share, (full_share, tt)), tt, (a, (block_ptr b o, tt)), (h ∷ [], (vptr b o ∷ [], tt))),
      x,
    ) in
    let Ce = callee.ended X Z global.ghosts d dd in let leX : inX = state_laws.the_within [] in let leZ : inZ = heap_laws.the_within [] in
    move ! (2 ∷ []) $ use0 𝓛 (raw (fact 𝓤 inZ)) (fact_i 𝓤 inZ (emp 𝓤) leZ) $ join ! $
    use0 𝓛 (raw (fact 𝓤 inX)) (fact_i 𝓤 inX (emp 𝓤) leX) $ join ! $
    move ! (2 ∷ []) $ feq_i ! (List Val) (vptr b o ∷ []) (vptr b o ∷ []) refl $ fjoin ! $ move ! (2 ∷ 0 ∷ []) $ fjoin ! $
    nothing ! $ use0 𝓛 (‵ (flft [] full_share)) (𝓛.lfts.lft-nil full_share) $ join ! $
    use0 𝓛 (‵ (flft [] full_share)) (𝓛.lfts.lft-nil full_share) $ join ! $ join ! $ join ! $ use1 𝓛 (raw (k.pre y)) (id⊢ 𝓤 _) $
    suffices ! (Run (w ∷ h ∷ [])) (subst (λ (us : List Val). ent 𝓤 (Run (w ∷ h ∷ [])) (Run us)) (sym (λ i. is i ++ (eh i ++ []))) (id⊢
    𝓤 (Run (w ∷ h ∷ [])))) $
    enter ! 𝓣.C 𝓣.Λ fn (w ∷ h ∷ []) Post $ alloc_all ! (λ l. pass_all ! refl (word_good (block_ptr b o), (fits, tt)) $
    let Ev = env fn.locals l in
    sets ! (of_opd ! (get_in ! (fld ! refl (stop !)) (sub ! 0 refl (whole !)))) refl (tt, tt) $
    first ! $ blocks ! $ sets ! (of_opd ! (get ! refl)) refl (tt, tt) $
    calls_at_last ! (fm 𝓛 𝓜 𝓡) k known y (and_then ! (get ! refl) (and_then ! (get ! refl) (no_more !))) (λ u.
    use1 𝓛 (later (some (λ (r : B.Denot). (toks ⊛ ‵ (B.own_val r (u ∷ []))) ⊛ some (λ (ls : Lasts Ce y.0.0 y.0.3). ‵ (lasts Ce y.0.0
    y.0.3 ls) ⊛ (raw (fact 𝓤 (r.value ≡ x)) ⊛ raw (fact 𝓤 (r.alloc ≡ a))))))) (id⊢ 𝓤 (k.post y u)) $
    await ! tt $ pick ! (λ r. split ! $ move ! (1 ∷ []) $ pick ! (λ _. split3 ! $ drop ! $ heard ! (r.value ≡ x) (λ same.
    let State : Type 0 = v.state ≡ Some r.value in
    move ! (1 ∷ []) $ split ! $ move ! (1 ∷ []) $
    box_out E ! r (u ∷ []) (λ b' o' h' e' us fits'. box_in E ! r b' o' r.value e' refl $
    rewrite ! 0 (λ (xs : List Val). ‵ (B.own_val r xs)) (sym us) refl $
    let good : Good (layout B) u = subst (Good (layout B)) (sym (ap only us)) (box.box_typed E h' b' o' fits') in
    lands_last ! refl good $ exec ! 𝓣.C 𝓣.Λ Ev (after 2 fn.body) (at_ret Ev Post) $ sets ! (of_opd ! (get ! refl)) refl good $
    -- [the box; the tokens; a fact; the field; the first tokens]
    use0 𝓛 (raw (fact 𝓤 State)) (fact_i 𝓤 State (emp 𝓤) (state_is ∙ ap (λ (o : X.Denot). Some o) (sym same))) $
    nothing ! $ nothing ! $ fjoin ! $ nothing ! $ fjoin ! $
    returns ! (look_at ! 0 refl) $ free_all ! refl $ keep ! (6 ∷ 0 ∷ 2 ∷ 1 ∷ []) $
    by ! (leaves 𝓛 ended hs c z u r (tt, (tt, tt)) (tt, (tt, tt))))))))))))))
