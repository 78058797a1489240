use Rattle.std.proofs.Common.{ap, subst, sym, ◌∙◌, ◌∷◌, List}
use mathlib.Core.List.{IsPrefix}
use Rattle.answer_cache.specs.Carried.{carried_stores}
use Rattle.rolling_cache.specs.Eras.{Era, begun_with, era_of}
use Rattle.rolling_cache.specs.Rolling.{GenerationView, rolling_of}
use Rattle.rolling_cache.proofs.Opening.{law_descends-next, left-next, over}
use Rattle.rolling_cache.proofs.generation.Generation.successor.Goals as goal

pub open-requires-clause-law_descends : goal.open-requires-clause-law_descends
open-requires-clause-law_descends g c =
    let B : List Era → Type 0 = λ past. IsPrefix (carried_stores (begun_with past)) c.args.seat.now.seat.seen in
    law_descends-next _ _ c.args.now c.notice.result _ c.self.inside.lineage c.with-lineage.result c.with-lineage.ensures c.self.invariant.0
    (subst B (ap (λ (it : GenerationView). it.past) (sym c.self.view_is)) c.requires.at.begins)
    c.carry.ensures.goes_on.seen c.notice.ensures.1 c.in_ok-carried.ensures.carried

pub open-requires-clause-left : goal.open-requires-clause-left
open-requires-clause-left g c =
    left-next c.in-Ok.cache c.args.seats c.notice.result _ _ c.with-lineage.result c.in-Ok.seats.items c.with-lineage.ensures
    c.in-Ok.ensures.belong c.in-Ok.ensures.seats

pub returns-clause-over : goal.returns-clause-over
returns-clause-over g c =
    over c.args.now (rolling_of c.args.self.now c.args.seat.now) c.carry.new.seat c.notice.result c.in_ok-carried.carried
    c.in_ok-made.made.generation
    (ap (λ (it : GenerationView). it.past) c.in_ok-made.ensures ∙ (c.with-lineage.ensures
    ∙ ap (λ (it : GenerationView). era_of c.notice.result c.in_ok-carried.carried ∷ it.past) c.self.view_is))
    (c.notice.ensures.0 ∙ (c.carry.ensures.stays.made ∙ ap (λ (it : GenerationView). it.cache) c.self.view_is))
    c.notice.ensures.1 c.in_ok-carried.ensures.carried
    (c.in_ok-carried.ensures.groups ∙ ap (λ (it : GenerationView). it.cache.groups) c.self.view_is)
    (ap (λ (it : GenerationView). it.cache.groups) c.in_ok-made.ensures ∙ c.in-Ok.ensures.groups)
