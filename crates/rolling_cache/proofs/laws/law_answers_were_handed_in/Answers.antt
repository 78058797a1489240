use Rattle.std.proofs.Common.{subst}
use Rattle.rolling_cache.specs.Eras.{Descends}
use Rattle.rolling_cache.specs.Rolling.{GenerationView}
use Rattle.rolling_cache.proofs.Handing.{handed-in}
use Rattle.rolling_cache.proofs.laws.law_answers_were_handed_in.Goals as goal

pub returns : goal.returns
returns c question now answer is =
    let D : GenerationView → Type 0 = λ generation. Descends generation.past in
    handed-in c.args.seat.now.generation.past c.args.seat.now.seat.seat.seen
    (subst D c.generation.ensures c.law_descends.ensures) c.requires.begins question now answer is
