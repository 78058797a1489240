-- `get` shows a value that the owner lends.
use Rattle.std.proofs.Common.{◌≡◌, ℕ, List, [], ◌∷◌, ◌++◌, refl, sym, subst, Some, IsSome}
use mir.Syntax.{a_type}
use mir.Val.{Val, vptr}
use mir.MapTy.{inst_fn}
use base.Fraction.{full_share}
use base.Logic.{SProp, ent, emp, id⊢, fst∗, never}
use base.Fml.{Lft, ftrue, fat, flft}
use prog.Wp.{WpFn}
use types.Logic.{sem}
use types.Kit.{‵, raw, ◌⊛◌, at_ret, ◌$◌, ◌∵◌, !, qed, by, move, keep, drop, split, fsplit, fjoin, use0, use1, rewrite, feq_i, feq_l, suffices}
use types.Run.{stop, fld, hop, from, addr, of_opd, first, blocks, exec, returns, enter}
use types.ByLocal.{alloc_all, pass_all, free_all, look_at, look_in_at, take_at, give_at, get, sets, sets_last, env}
use types.Part.{sub, whole}
use contract.Running.{tables}
use contract.Monad.{fact, fact_i}
use contract.BorrowLft.{◌⊑◌}
use denote.Exit.{yes, no}
use denote.RattleType.{RattleType, owns}
use denote.Signature.{types_at, plain}
use denote.Memory.{shared_of}
use denote.RawPtr.{Ptr, in_a_block}
use denote.Steps.{nothing, heard}
use denote.Opens.{unhide, hide}
use denote.Param.{param, layout, layouts}
use denote.Builtin.{RefOf}
use denote.Struct.Lending.{lent_at}
use denote.Triple.Walked.{Stays, stay_dropped, walk_of, Goes-dropped}
use Rattle.core.proofs.atomic.Steps.{tail}
use Rattle.std.proofs.raw_atomic.Walks.{proved_at, leaves}
use Rattle.std_alloc.proofs.RcSteps.{word, word-Good}
use Rattle.pending_list.specs.Cells.{value_at}
use Rattle.pending_list.specs.contracts.nodes.Nodes as nodes
use Rattle.pending_list.specs.contracts.node.Node as node
use Rattle.pending_list.specs.contracts.nodes.Link as link
use Rattle.pending_list.proofs.Memory.{some_of, seen, word_had}
use Rattle.pending_list.specs.contracts.nodes.Nodes.get.{ended, clauses}
use Rattle.pending_list.specs.contracts.nodes.Nodes.get.Key.{name as #self}
use Rattle.pending_list.proofs.nodes.Nodes.get.Statement.{statement}
use Rattle.pending_list.proofs.nodes.Nodes.get.Code as code

pub get_spec : {M : Type 1} → statement M
get_spec 𝓤 𝓛 𝓜 𝓡 wired X L =
    let H = 𝓛.H in
    let 𝓣 = tables 𝓤 H 𝓜 𝓡 𝓡.env in
    let E : RattleType = param 0 X in
    let R : RattleType = node.the_row E in
    let En = ended X in
    let inst = layouts (a_type ∷ []) (X, tt) in
    let fn = inst_fn inst code.function in
    let Row : RattleType = nodes.the_row E in let Lk : RattleType = link.the_row E in let c = clauses X 𝓛 𝓜.mem 𝓡.returns in
    let self = RefOf (0 ∷ []) tt (plain (λ _. Row)) (λ _. tt) in
    let hs : Stays En.signature.params En.kept = (stay_dropped self yes, (stay_dropped (plain (λ _. Lk)) no, tt)) in
    proved_at 𝓛 En hs c 𝓜 𝓡 (Goes-dropped 𝓛 2 self yes (λ κs x f. refl), (Goes-dropped 𝓛 2 (plain (λ _. Lk)) no (λ κs x f. refl), tt))
    (#self inst) fn (code.unfolded 𝓤 H 𝓜 𝓡 wired (X, tt))
    (λ z are.
    let κs = z.0.0 in
    let qs = z.0.1 in
    let a = z.0.3 in
    let κ : Lft = κs.0 in
    let d : Row.Denot = a.0.now in
    let b : ℕ = a.0.ref_ptr.0 in
    let o : ℕ = a.0.ref_ptr.1 in
    let p : Ptr = a.1.0.at in
    let Post : Val → SProp 𝓤 = (walk_of 𝓛 En hs c).post z in let Run : List Val → SProp 𝓤 = λ ws. WpFn 𝓤 H 𝓣.C 𝓣.Λ fn ws Post in
    let toks = ‵ (flft κ qs.0) ⊛ ‵ (flft κs.1.0 qs.1.0) ⊛ ‵ ftrue in
    qed 𝓛 ((toks ⊛ ‵ (owns (types_at En.signature.params κs) a z.0.4)) ∷
    (raw (fact 𝓤 (κs.1.0 ⊑ X.lives)) ⊛ raw (fact 𝓤 (IsSome (value_at p d.cells)))) ∷ []) ∵
    split ! $ move ! (2 ∷ []) $ split ! $ drop ! $ heard ! (IsSome (value_at p d.cells)) (λ there.
    let one = some_of (value_at p d.cells) there in let x : R.Denot = one.0 in
    move ! (1 ∷ []) $ fsplit ! $ fsplit ! $ feq_l ! (λ e0. move ! (1 ∷ []) $ fsplit ! $ word_had ! p z.0.4.1.0 (λ e1. drop ! $
    suffices ! (Run (vptr b o ∷ word p ∷ []))
    (subst (λ (us : List Val × List Val). ent 𝓤 (Run (vptr b o ∷ word p ∷ [])) (Run (us.0 ++ (us.1 ++ []))))
    (λ i. (sym e0 i, sym e1 i)) (id⊢ 𝓤 _)) $
    -- [what is shared; the tokens]
    enter ! 𝓣.C 𝓣.Λ fn (vptr b o ∷ word p ∷ []) Post $
    alloc_all ! (λ l. pass_all ! refl ((tt, tt), (word-Good [] p, tt)) $ let Ev = env fn.locals l in
    unhide ! $ fsplit ! $ drop ! $ use1 𝓛 (‵ (lent_at R p x κ)) (seen R 𝓛 p κ d.cells x one.1) $
    in_a_block ! p (λ r. lent_at R r x κ) (fst∗ 𝓤 (never 𝓤) (sem 𝓛 (shared_of R x 0 0 κ))) (λ pb po ep. fsplit ! $ drop ! $ hide ! $
    take_at ! 2 $ rewrite ! 0 (λ (r : Ptr). ‵ (fat full_share (layout Lk) (l 2) 0 (word r))) ep refl $ give_at ! 2 $
    let there : Val = vptr pb po in
    first ! $ blocks ! $ sets_last ! (addr ! (from ! (fld ! refl (hop ! (look_in_at ! 2 (sub ! 0 refl (whole !))) (stop !))))) refl
    (tt, tt) $ exec ! 𝓣.C 𝓣.Λ Ev (tail fn.body) (at_ret Ev Post) $
    sets ! (of_opd ! (get ! refl)) refl (tt, tt) $
    feq_i ! (List Val) (there ∷ []) (there ∷ []) refl $ fjoin ! $
    use0 𝓛 (raw (fact 𝓤 (value_at p d.cells ≡ Some x))) (fact_i 𝓤 (value_at p d.cells ≡ Some x) (emp 𝓤) one.1) $
    nothing ! $ nothing ! $ fjoin ! $ nothing ! $ fjoin ! $
    returns ! (look_at ! 0 refl) $ free_all ! refl $ keep ! (3 ∷ 0 ∷ 2 ∷ 1 ∷ []) $
    by ! (leaves 𝓛 En hs c z there (record { ref_ptr = (pb, po); now = x }) (tt, (tt, tt)) (tt, (tt, tt)))))))))
