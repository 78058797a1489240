use Rattle.std.proofs.Common.{ap, subst}
use Rattle.std.specs.Prelude.{◌⊎◌}
use mathlib.Core.List.{IsPrefix}
use Rattle.answer_cache.specs.Shared.{SharedView}
use Rattle.rolling_cache.specs.Rolling.{RollingView}
use Rattle.rolling_cache.proofs.Owning.{own-one}
use Rattle.rolling_cache.proofs.laws.law_one_number_has_one_list_of_stores.Goals as goal

pub returns : goal.returns
returns c =
    let H : SharedView → SharedView → Type 0 = λ a b. IsPrefix a.seat.seen b.seat.seen ⊎ IsPrefix b.seat.seen a.seat.seen in
    let A : SharedView → Type 0 = λ it. H it c.args.other.now.seat in
    let B : SharedView → Type 0 = λ it. H c.one.inside.seat it in
    let seat : RollingView → SharedView = λ it. it.seat in
    own-one c.args.one.now.seat.seat c.args.other.now.seat.seat c.requires.one.here.is c.requires.other.here.is c.requires.number
    (subst A (ap seat c.one.view_is) (subst B (ap seat c.other.view_is) c.law_seats_see_one_history.ensures))
