-- The counts of all seats are made.
use Rattle.std.proofs.Common.{◌≡◌, ℕ, List, [], ◌∷◌, ◌++◌, refl, w32, w64}
use mir.Val.{Val, vint, vstruct, vcons, vnil, of_list}
use base.Logic.{SProp, emp}
use base.Fml.{ftrue, fsep, feq}
use types.Kit.{‵, raw, ◌⊛◌, some, later, ◌$◌, ◌∵◌, !, qed, by, move, keep, frame, done, split, fjoin, fjoin3, fpack, pick, use0, await}
use types.Kit.{feq_i}
use types.Run.{no_more, and_then, returns, enter}
use types.ByLocal.{alloc_all, pass_all, free_all, look_at, get, sets}
use types.Part.{agg}
use contract.Monad.{fact, fact_i}
use contract.Running.{tables}
use denote.RattleType.{RattleType, owns, Valss}
use denote.Exit.{yes}
use denote.Signature.{types_at, plain}
use denote.Builtin.{u32, u64, unit}
use denote.Plain.{uint_vals, uint_Tells}
use denote.Steps.{nothing}
use denote.Struct.Tuple.{Tuple}
use denote.Triple.Walked.{Stays, stay_dropped, walk_of, Goes-dropped}
use Rattle.logbook.specs.contracts.tokens.Start as Start
use Rattle.logbook.proofs.Fields.{token, Token, token_made, ends}
use Rattle.std.proofs.raw_atomic.Walks.{proved}
use Rattle.answer_log.specs.Counts.{tallies_own, keeps_counts}
use Rattle.answer_log.specs.contracts.event.Event as Event
use Rattle.answer_log.specs.contracts.event.Counted as Counted
use Rattle.answer_log.specs.declared.event.Event.TheVariants.{Opened}
use Rattle.answer_log.specs.contracts.tally.Law as Law
use Rattle.answer_log.specs.contracts.tally.LawRuleEventCounted.TheImpl as Rules
use Rattle.answer_log.specs.contracts.tally.Tallies as Tallies
use Rattle.answer_log.proofs.Trades as trades
use Rattle.answer_log.specs.contracts.tally.Tallies.open.{ended, clauses}
use Rattle.answer_log.specs.contracts.tally.Tallies.open.Key.{name as #self}
use Rattle.answer_log.proofs.tally.Tallies.open.Statement.{statement}
use Rattle.answer_log.proofs.tally.Tallies.open.Code as code

pub open_spec : {M : Type 1} → statement M
open_spec 𝓤 𝓛 𝓜 𝓡 wired =
    let H = 𝓛.H in let 𝓣 = tables 𝓤 H 𝓜 𝓡 𝓡.env in let fn = code.function in let c = clauses 𝓛 𝓜.mem 𝓡.returns in
    let All : RattleType = Tuple (Event.the_row ∷ Counted.the_row ∷ Law.the_row ∷ []) in let St : RattleType =
    Start.the_row Event.the_row Counted.the_row Law.the_row Rules.ghosts in
    let hs : Stays ended.signature.params ended.kept = (stay_dropped (plain (λ _. u64)) yes, (stay_dropped (plain (λ _. u32)) yes, tt)) in
    proved 𝓛 ended hs c 𝓜 𝓡 (
      Goes-dropped 𝓛 0 (plain (λ _. u64)) yes (λ κs x f. refl),
      (Goes-dropped 𝓛 0 (plain (λ _. u32)) yes (λ κs x f. refl), tt),
    ) #self fn (code.unfolded 𝓤 H 𝓜 𝓡 wired)
    (λ κs. (uint_vals w64, (uint_vals w32, tt))) (λ κs. (uint_Tells w64, (uint_Tells w32, tt))) (λ κs qs bounds a gh are.
    let seats : ℕ = a.0 in let groups : ℕ = a.1.0 in
    let y : (walk_of 𝓛 ended hs c).Ghost = ((κs, qs, bounds, a, (vint w64 seats ∷ [], (vint w32 groups ∷ [], tt))), gh) in
    let Post : Val → SProp 𝓤 =
    (walk_of 𝓛 ended hs c).post y in
    qed 𝓛 ((‵ ftrue ⊛ ‵ (owns (types_at ended.signature.params κs) a y.0.4)) ∷ ‵ ftrue ∷ []) ∵ keep ! (0 ∷ []) $ split ! $ keep ! (0 ∷ []) $
    enter ! 𝓣.C 𝓣.Λ fn (vint w64 seats ∷ vint w32 groups ∷ []) Post $
    alloc_all ! (λ l. pass_all ! refl ((tt, record { fits = are.0.1 }), ((tt, record { fits = are.1.0.1 }), tt)) $
    use0 𝓛 (later (some (λ (δ : ℕ). ‵ (keeps_counts (δ ∷ []) (Opened seats groups ∷ [])) ⊛ ‵ (tallies_own δ 0 64))))
    (trades.begins 𝓛 seats groups) $
    await ! tt $ pick ! (λ δ. split ! $
    sets ! (agg ! (no_more !)) refl (tt, tt) $ sets ! (agg ! (and_then ! (get ! refl) (no_more !))) refl (tt, (tt, tt)) $
    sets ! (agg ! (no_more !)) refl (tt, tt) $ sets ! (agg ! (and_then ! (get ! refl) (no_more !))) refl (tt, (tt, tt)) $
    sets ! (agg ! (and_then ! (get ! refl) (and_then ! (get ! refl) (no_more !)))) refl (tt, ((tt, tt), ((tt, tt), tt))) $
    use0 𝓛 (‵ ((Token All).own_val (record {}, tt) (token ∷ []))) (token_made All 𝓛) $ fjoin ! $ move ! (1 ∷ []) $
    use0 𝓛 (‵ ((Token unit).own_val (record {}, tt) (token ∷ []))) (token_made unit 𝓛) $ fjoin ! $ nothing ! $ move ! (2 ∷ 1 ∷ 0 ∷ []) $
    fjoin3 ! $
    let v : Val = vstruct (vcons token (vcons token vnil)) in let Rs : List RattleType = St ∷ Tallies.the_row ∷ [] in
    let opening : List Event.the_row.Denot = Opened seats groups ∷ [] in let A₁ : Type 0 = (δ ∷ [] ≡ δ ∷ []) × (opening ≡ opening) in
    let A₂ : Type 0 = (0 ≡ 0) × (64 ≡ 64) in let s : St.Denot = record { marker = record {}; names = δ ∷ []; shown = opening } in
    let p : Tallies.the_row.Denot = record { marker = record {}; name = δ; next = 0; left = 64 } in
    feq_i ! (List Val) (v ∷ []) (v ∷ []) refl $ fjoin ! $
    fpack ! (Valss Rs) (λ vss. fsep (feq (List Val) (v ∷ []) (vstruct (of_list (vss.0 ++ (vss.1.0 ++ []))) ∷ []))
    (owns Rs (s, (p, tt)) vss)) (token ∷ [], (token ∷ [], tt)) $
    nothing ! $ nothing ! $ nothing ! $ fjoin3 ! $
    returns ! (look_at ! 0 refl) $ free_all ! refl $ keep ! (2 ∷ 0 ∷ 1 ∷ []) $
    by ! (ends 𝓛 ended hs c y v (s, p) (tt, (tt, tt)) (tt, (tt, tt)) (qed 𝓛 [] ∵ use0 𝓛 (raw (fact 𝓤 A₂)) (fact_i 𝓤 A₂ (emp 𝓤) (refl, refl)) $
    use0 𝓛 (raw (fact 𝓤 A₁)) (fact_i 𝓤 A₁ (emp 𝓤) (refl, refl)) $ frame ! $ done !)))))
