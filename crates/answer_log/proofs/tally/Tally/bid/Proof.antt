-- A count becomes an offer.
use Rattle.std.proofs.Common.{◌≡◌, ℕ, true, false, List, [], ◌∷◌, refl}
use mir.Syntax.{a_type, dcons, dnil, named}
use mir.MapTy.{inst_fn}
use denote.Param.{param, bounded}
use mir.Val.{Val, vptr}
use base.Logic.{SProp, emp}
use base.Fml.{Fml, fsep, ftrue, flft}
use types.Kit.{‵, raw, ◌⊛◌, given, ◌$◌, ◌∵◌, !, qed, by, move, keep, drop, split, join, fsplit, fsplit3, fjoin, fjoin3, learn, use0, use1}
use types.Kit.{feq_i}
use types.Run.{no_more, and_then, returns, enter}
use types.ByLocal.{alloc_all, pass_all, free_all, look_at, get, sets}
use types.Part.{agg}
use contract.Monad.{fact, fact_i}
use contract.Running.{tables}
use denote.Exit.{yes}
use denote.RattleType.{RattleType, owns}
use denote.Signature.{types_at, plain}
use denote.Builtin.{RefOf}
use denote.Ref.{mut_vals, mut_Tells, shr_vals, shr_Tells}
use denote.Steps.{nothing, opens, closes}
use denote.Struct.Tuple.{Tuple}
use denote.Triple.Walked.{Stays, stay_dropped, stay_ref, walk_of, Goes-dropped, Goes-ref}
use Rattle.logbook.specs.Kept.{offer_owns}
use Rattle.logbook.proofs.Fields.{token, Token, token_made, ends}
use Rattle.std.proofs.raw_atomic.Walks.{proved}
use Rattle.std.specs.Prelude.{None, false}
use Rattle.answer_log.specs.Logs.{seat_of}
use Rattle.answer_log.specs.Counts.{holding, keeps_counts, gains_count, Counts}
use Rattle.answer_log.specs.contracts.event.Event as Event
use Rattle.answer_log.specs.contracts.event.Counted as Counted
use Rattle.answer_log.specs.contracts.tally.Law as Law
use Rattle.answer_log.specs.contracts.tally.Back as Back
use Rattle.answer_log.specs.contracts.tally.Tally as Tally
use Rattle.answer_log.proofs.Trades as trades
use Rattle.answer_log.specs.contracts.tally.Tally.bid.{ended, clauses}
use Rattle.answer_log.specs.contracts.tally.Tally.bid.Key.{name as #self}
use Rattle.answer_log.proofs.tally.Tally.bid.Statement.{statement}
use Rattle.answer_log.proofs.tally.Tally.bid.Code as code

pub bid_spec : {M : Type 1} → statement M
bid_spec 𝓤 𝓛 𝓜 𝓡 wired X N _ _ gn dn _ =
    let H = 𝓛.H in let 𝓣 = tables 𝓤 H 𝓜 𝓡 𝓡.env in let X' : RattleType = param 0 X in let N' : RattleType = param 1 N in let En =
    ended X N gn dn in
    let inst = bounded (a_type ∷ a_type ∷ []) (X, (N, tt)) (dcons dn dnil) in let fn = inst_fn inst code.function in let c =
    clauses X N gn dn 𝓛 𝓜.mem 𝓡.returns in
    let All : RattleType = Tuple (Event.the_row ∷ Counted.the_row ∷ Law.the_row ∷ Back.the_row ∷ []) in let T : RattleType =
    Tally.the_row in
    let hs : Stays En.signature.params En.kept =
    (stay_ref (0 ∷ []) tt (plain (λ _. T)), (stay_dropped (RefOf (1 ∷ []) tt (plain (λ _. X')) (λ _. tt)) yes, tt)) in
    proved 𝓛 En hs c 𝓜 𝓡 (
      Goes-ref 𝓛 4 0 tt (plain (λ _. T)),
      (Goes-dropped 𝓛 4 (RefOf (1 ∷ []) tt (plain (λ _. X')) (λ _. tt)) yes (λ κs x f. refl), tt),
    ) (#self inst) fn
    (code.unfolded 𝓤 H 𝓜 𝓡 wired (X, (N, tt)) dn)
    (λ κs. (mut_vals, (shr_vals, tt))) (λ κs. (mut_Tells (named 0) κs.0 T, (shr_Tells (named 1) κs.1.0 X', tt))) (λ κs qs bounds a gh are.
    let b : ℕ = a.0.ref_ptr.0 in let o : ℕ = a.0.ref_ptr.1 in let h : T.Denot = a.0.now in let h' : T.Denot =
    record { marker = h.marker; held = false; name = h.name; seat = h.seat; count = h.count } in let x = gn.ask a.1.0.now in
    let y : (walk_of 𝓛 En hs c).Ghost = ((κs, qs, bounds, a, (vptr b o ∷ [], (vptr a.1.0.ref_ptr.0 a.1.0.ref_ptr.1 ∷ [], tt))), gh) in
    let Post : Val → SProp 𝓤 = (walk_of 𝓛 En hs c).post y in
    let rest : Fml = fsep (flft κs.1.0 qs.1.0) (fsep (flft κs.1.1.0 qs.1.1.0) (fsep (flft κs.1.1.1.0 qs.1.1.1.0) ftrue)) in
    qed 𝓛 (((‵ (flft κs.0 qs.0) ⊛ ‵ rest) ⊛ ‵ (owns (types_at En.signature.params κs) a y.0.4)) ∷ raw (fact 𝓤 _) ∷ raw (fact 𝓤 _)
    ∷ given ((h.held ≡ true) × (seat_of x ≡ h.seat)) (‵ ftrue) ∷ []) ∵ keep ! (3 ∷ 0 ∷ []) $
    learn ! (λ asked. drop ! $ split ! $ split ! $
    move ! (2 ∷ []) $ fsplit ! $ fsplit3 ! $ keep ! (1 ∷ 2 ∷ 4 ∷ 5 ∷ []) $
    enter ! 𝓣.C 𝓣.Λ fn (vptr b o ∷ vptr a.1.0.ref_ptr.0 a.1.0.ref_ptr.1 ∷ []) Post $
    alloc_all ! (λ l. pass_all ! refl ((tt, tt), ((tt, tt), tt)) $
    opens ! tt T b o (λ ts. move ! (1 ∷ []) $ fsplit ! $ move ! (1 ∷ []) $
    use1 𝓛 (‵ (offer_owns (keeps_counts (h.name ∷ [])) (Counts x) (gains_count (h.name ∷ []) (holding h.seat h.count)) None))
    (trades.offered 𝓛 h.name h.count x h.seat h.held asked.0 asked.1) $
    nothing ! $ move ! (2 ∷ 0 ∷ []) $ fjoin ! $ move ! (2 ∷ 0 ∷ 3 ∷ 4 ∷ 5 ∷ []) $
    closes ! tt T h' ts b o $ feq_i ! (List Val) (vptr b o ∷ []) (vptr b o ∷ []) refl $ fjoin3 ! $ nothing ! $ nothing ! $ fjoin ! $
    move ! (1 ∷ 0 ∷ []) $ fjoin ! $ move ! (1 ∷ 3 ∷ []) $ join ! $ move ! (2 ∷ []) $
    use0 𝓛 (‵ ((Token All).own_val (record {}, tt) (token ∷ []))) (token_made All 𝓛) $ fjoin ! $ sets ! (agg ! (no_more !)) refl (tt, tt) $
    sets ! (agg ! (and_then ! (get ! refl) (no_more !))) refl (tt, (tt, tt)) $
    returns ! (look_at ! 0 refl) $ free_all ! refl $ keep ! (1 ∷ 2 ∷ 0 ∷ []) $
    by ! (ends 𝓛 En hs c y token (record {
      marker = record {};
      names = h.name ∷ [];
      ask = x;
      about = holding h.seat h.count;
      state =
          None;
    }) (h', (tt, tt)) (tt, (tt, tt)) (fact_i 𝓤 _ (emp 𝓤) (refl, refl, refl, refl)))))))
