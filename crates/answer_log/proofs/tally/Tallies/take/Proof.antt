-- The first count leaves the row.
use Rattle.std.proofs.Common.{◌≡◌, ℕ, ◌+◌, ◌-◌, ◌<◌, true, List, [], ◌∷◌, refl}
use mir.Syntax.{named}
use mir.Val.{Val, vptr}
use base.Logic.{SProp, emp}
use base.Fml.{ftrue, flft}
use types.Kit.{‵, raw, ◌⊛◌, given, ◌$◌, ◌∵◌, !, qed, by, move, keep, drop, split, join, fsplit, fsplit3, fjoin, fjoin3, learn, use0, use1}
use types.Kit.{feq_i}
use types.Run.{no_more, and_then, returns, enter}
use types.ByLocal.{alloc_all, pass_all, free_all, look_at, get, sets}
use types.Part.{agg}
use contract.Monad.{fact, fact_i}
use contract.Running.{tables}
use denote.RattleType.{RattleType, owns}
use denote.Signature.{types_at, plain}
use denote.Builtin.{unit}
use denote.Ref.{mut_vals, mut_Tells}
use denote.Steps.{nothing, opens, closes}
use denote.Triple.Walked.{Stays, stay_ref, walk_of, Goes-ref}
use Rattle.logbook.proofs.Fields.{token, Token, token_made}
use Rattle.std.proofs.raw_atomic.Walks.{proved, leaves}
use Rattle.answer_log.specs.Counts.{tally_owns, tallies_own}
use Rattle.answer_log.specs.contracts.tally.Tally as Tally
use Rattle.answer_log.specs.contracts.tally.Tallies as Tallies
use Rattle.answer_log.proofs.Trades as trades
use Rattle.answer_log.specs.contracts.tally.Tallies.take.{ended, clauses}
use Rattle.answer_log.specs.contracts.tally.Tallies.take.Key.{name as #self}
use Rattle.answer_log.proofs.tally.Tallies.take.Statement.{statement}
use Rattle.answer_log.proofs.tally.Tallies.take.Code as code

pub take_spec : {M : Type 1} → statement M
take_spec 𝓤 𝓛 𝓜 𝓡 wired =
    let H = 𝓛.H in let 𝓣 = tables 𝓤 H 𝓜 𝓡 𝓡.env in let fn = code.function in let c = clauses 𝓛 𝓜.mem 𝓡.returns in
    let Ps : RattleType = Tallies.the_row in let hs : Stays ended.signature.params ended.kept =
    (stay_ref (0 ∷ []) tt (plain (λ _. Ps)), tt) in
    proved 𝓛 ended hs c 𝓜 𝓡 (Goes-ref 𝓛 1 0 tt (plain (λ _. Ps)), tt) #self fn (code.unfolded 𝓤 H 𝓜 𝓡 wired)
    (λ κs. (mut_vals, tt)) (λ κs. (mut_Tells (named 0) κs.0 Ps, tt)) (λ κs qs bounds a gh are.
    let b : ℕ = a.0.ref_ptr.0 in let o : ℕ = a.0.ref_ptr.1 in let h : Ps.Denot = a.0.now in let h' : Ps.Denot =
    record { marker = h.marker; name = h.name; next = h.next + 1; left = h.left - 1 } in
    let r : Tally.the_row.Denot = record { marker = record {}; held = true; name = h.name; seat = h.next; count = 0 } in
    let A₁ : Type 0 = (h.name ≡ h.name) × (h.next ≡ h.next) × (0 ≡ 0) × (r.held ≡ true) in let A₂ : Type 0 =
    (h.name ≡ h.name) × (h'.next ≡ h'.next) × (h'.left ≡ h'.left) in
    let y : (walk_of 𝓛 ended hs c).Ghost = ((κs, qs, bounds, a, (vptr b o ∷ [], tt)), gh) in let Post : Val → SProp 𝓤 =
    (walk_of 𝓛 ended hs c).post y in
    qed 𝓛 (((‵ (flft κs.0 qs.0) ⊛ ‵ ftrue) ⊛ ‵ (owns (types_at ended.signature.params κs) a y.0.4)) ∷ given (0 < h.left) (‵ ftrue) ∷ []) ∵
    move ! (1 ∷ []) $ learn ! (λ asked. drop ! $ split ! $ split ! $ move ! (2 ∷ []) $ fsplit ! $ fsplit3 ! $ keep ! (1 ∷ 2 ∷ 4 ∷ []) $
    enter ! 𝓣.C 𝓣.Λ fn (vptr b o ∷ []) Post $
    alloc_all ! (λ l. pass_all ! refl ((tt, tt), tt) $ opens ! tt Ps b o (λ ts. move ! (1 ∷ []) $ fsplit ! $ move ! (1 ∷ []) $
    use1 𝓛 (‵ (tally_owns true h.name h.next 0) ⊛ ‵ (tallies_own h.name h'.next h'.left)) (trades.one_tally 𝓛 h.name h.next h.left asked) $
    split ! $ move ! (2 ∷ 1 ∷ []) $ fjoin ! $ move ! (2 ∷ 0 ∷ 3 ∷ 4 ∷ 5 ∷ []) $
    closes ! tt Ps h' ts b o $ feq_i ! (List Val) (vptr b o ∷ []) (vptr b o ∷ []) refl $ fjoin3 ! $ nothing ! $ move ! (1 ∷ 0 ∷ []) $
    fjoin ! $ nothing ! $ move ! (2 ∷ 0 ∷ []) $ join ! $ move ! (2 ∷ []) $
    use0 𝓛 (‵ ((Token unit).own_val (record {}, tt) (token ∷ []))) (token_made unit 𝓛) $ fjoin ! $
    sets ! (agg ! (no_more !)) refl (tt, tt) $ sets ! (agg ! (and_then ! (get ! refl) (no_more !))) refl (tt, (tt, tt)) $
    use0 𝓛 (raw (fact 𝓤 A₂)) (fact_i 𝓤 A₂ (emp 𝓤) (refl, refl, refl)) $
    use0 𝓛 (raw (fact 𝓤 A₁)) (fact_i 𝓤 A₁ (emp 𝓤) (refl, refl, refl, refl)) $ join ! $
    returns ! (look_at ! 0 refl) $ free_all ! refl $ keep ! (2 ∷ 3 ∷ 1 ∷ 0 ∷ []) $
    by ! (leaves 𝓛 ended hs c y token r (h', tt) (tt, tt))))))
