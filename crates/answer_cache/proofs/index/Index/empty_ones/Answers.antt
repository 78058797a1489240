use Rattle.std.proofs.Common.{List, sym, subst}
use Rattle.std.proofs.lemmas.List.Elements.{All-push}
use Rattle.std.specs.List.{All}
use Rattle.answer_cache.specs.Indexes.{IsIndex}
use Rattle.answer_cache.specs.declared.index.Index.{Index}
use Rattle.answer_cache.proofs.index.Index.empty_ones.Goals as goal

pub groups-preserved : goal.groups-preserved
groups-preserved c =
    let P : Index → Type 0 = λ it. IsIndex c.args.groups c.args.seen.now.book it in
    let A : List Index → Type 0 = λ items. All P items in
    subst A (sym c.in_ok-push.ensures.items)
    (All-push P c.groups.made.items c.empty.result c.groups.invariant (c.empty.ensures c.args.groups))
