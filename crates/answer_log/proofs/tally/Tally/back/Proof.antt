-- A gain is a count and a fact.
use Rattle.std.proofs.Common.{◌≡◌, ℕ, true, List, [], ◌∷◌, refl}
use mir.Syntax.{named}
use mir.Val.{Val, vunit, vptr}
use base.Logic.{SProp, emp}
use base.Fml.{ftrue, flft}
use types.Kit.{‵, raw, ◌⊛◌, ◌$◌, ◌∵◌, !, qed, by, move, keep, drop, frame, done, split, join, fsplit, fsplit3, fjoin, fjoin3, fpick, use0}
use types.Kit.{feq_i}
use types.Run.{unit_lit, of_opd, returns, enter}
use types.ByLocal.{alloc_all, pass_all, free_all, look_at, sets}
use contract.Monad.{fact, fact_i}
use contract.Running.{tables}
use denote.Exit.{yes}
use denote.RattleType.{RattleType, owns}
use denote.Signature.{types_at, plain}
use denote.Ref.{mut_vals, mut_Tells}
use denote.Steps.{nothing, opens, closes}
use denote.Struct.Tuple.{Tuple}
use denote.Triple.Walked.{Stays, stay_dropped, stay_ref, walk_of, Goes-dropped, Goes-ref}
use Rattle.logbook.proofs.Fields.{token, token_told, ends}
use Rattle.std.proofs.raw_atomic.Walks.{proved}
use Rattle.logbook.specs.contracts.tokens.Gained as Gained
use Rattle.answer_log.specs.Counts.{first_name, first_seat, first_count}
use Rattle.answer_log.specs.contracts.event.Event as Event
use Rattle.answer_log.specs.contracts.event.Counted as Counted
use Rattle.answer_log.specs.contracts.tally.Back as Back
use Rattle.answer_log.specs.contracts.tally.BackGainEventCounted.TheImpl as Gains
use Rattle.answer_log.specs.contracts.tally.Tally as Tally
use Rattle.answer_log.specs.contracts.tally.Tally.back.{ended, clauses}
use Rattle.answer_log.specs.contracts.tally.Tally.back.Key.{name as #self}
use Rattle.answer_log.proofs.tally.Tally.back.Statement.{statement}
use Rattle.answer_log.proofs.tally.Tally.back.Code as code

pub back_spec : {M : Type 1} → statement M
back_spec 𝓤 𝓛 𝓜 𝓡 wired =
    let H = 𝓛.H in let 𝓣 = tables 𝓤 H 𝓜 𝓡 𝓡.env in let fn = code.function in let c = clauses 𝓛 𝓜.mem 𝓡.returns in
    let G' : RattleType = Gained.the_row Event.the_row Counted.the_row Back.the_row Gains.ghosts in let T : RattleType = Tally.the_row in
    let All : RattleType = Tuple (Event.the_row ∷ Counted.the_row ∷ Back.the_row ∷ []) in
    let hs : Stays ended.signature.params ended.kept = (stay_ref (0 ∷ []) tt (plain (λ _. T)), (stay_dropped (plain (λ _. G')) yes, tt)) in
    proved 𝓛 ended hs c 𝓜 𝓡 (Goes-ref 𝓛 1 0 tt (plain (λ _. T)), (Goes-dropped 𝓛 1 (plain (λ _. G')) yes (λ κs x f. refl), tt)) #self fn
    (code.unfolded 𝓤 H 𝓜 𝓡 wired)
    (λ κs. (mut_vals, ((λ x. token ∷ []), tt))) (λ κs. (mut_Tells (named 0) κs.0 T, ((λ x vs is. token_told All vs is.0), tt)))
    (λ κs qs bounds a gh are.
    let b : ℕ = a.0.ref_ptr.0 in let o : ℕ = a.0.ref_ptr.1 in let h : T.Denot = a.0.now in let up = a.1.0 in
    let h' : T.Denot = record {
      marker = h.marker;
      held = true;
      name = first_name up.names;
      seat = first_seat up.about;
      count =
          up.answer.after;
    } in
    let A₁ : Type 0 = (h'.name ≡ first_name up.names) × (h'.seat ≡ first_seat up.about) × (h'.count ≡ up.answer.after) × (h'.held ≡ true) in
    let A₂ : Type 0 = first_count up.about ≡ up.answer.before in
    let y : (walk_of 𝓛 ended hs c).Ghost = ((κs, qs, bounds, a, (vptr b o ∷ [], (token ∷ [], tt))), gh) in let Post : Val → SProp 𝓤 =
    (walk_of 𝓛 ended hs c).post y in
    qed 𝓛 (((‵ (flft κs.0 qs.0) ⊛ ‵ ftrue) ⊛ ‵ (owns (types_at ended.signature.params κs) a y.0.4)) ∷ ‵ ftrue ∷ []) ∵ keep ! (0 ∷ []) $
    split ! $ split ! $
    move ! (2 ∷ []) $ fsplit ! $ move ! (1 ∷ []) $ fsplit ! $ fsplit ! $ move ! (1 ∷ []) $ fsplit ! $ move ! (1 ∷ []) $
    fpick ! (λ told. drop ! $ move ! (3 ∷ []) $ fsplit3 ! $ keep ! (1 ∷ 2 ∷ 6 ∷ 3 ∷ []) $
    enter ! 𝓣.C 𝓣.Λ fn (vptr b o ∷ token ∷ []) Post $
    alloc_all ! (λ l. pass_all ! refl ((tt, tt), ((tt, (tt, tt)), tt)) $
    opens ! tt T b o (λ ts. move ! (1 ∷ []) $ fsplit ! $ move ! (6 ∷ 0 ∷ []) $
    move ! (1 ∷ 0 ∷ []) $ fjoin ! $ move ! (2 ∷ 0 ∷ 3 ∷ 4 ∷ 5 ∷ []) $
    closes ! tt T h' ts b o $ feq_i ! (List Val) (vptr b o ∷ []) (vptr b o ∷ []) refl $ fjoin3 ! $ nothing ! $ nothing ! $ fjoin ! $
    move ! (1 ∷ 0 ∷ []) $ fjoin ! $ nothing ! $ move ! (2 ∷ 0 ∷ []) $ join ! $
    sets ! (of_opd ! (unit_lit !)) refl (tt, tt) $ feq_i ! (List Val) (vunit ∷ []) (vunit ∷ []) refl $
    returns ! (look_at ! 0 refl) $ free_all ! refl $ keep ! (1 ∷ 2 ∷ 0 ∷ []) $
    by ! (ends 𝓛 ended hs c y vunit tt (h', (tt, tt)) (tt, (tt, tt)) (qed 𝓛 [] ∵ use0 𝓛 (raw (fact 𝓤 A₂)) (fact_i 𝓤 A₂ (emp 𝓤) told) $
    use0 𝓛 (raw (fact 𝓤 A₁)) (fact_i 𝓤 A₁ (emp 𝓤) (refl, refl, refl, refl)) $ frame ! $ done !))))))
