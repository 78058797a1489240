use Rattle.std.proofs.Common.{◌≡◌, ◌+◌, take, sym, subst, ◌∙◌, arith}
use Rattle.answer_log.specs.Histories.{mine}
use Rattle.answer_log.specs.Logs.{history}
use Rattle.answer_cache.specs.Carried.{CarriedView, carried_stores}
use Rattle.answer_cache.proofs.Succeeding.{own-next, sound-at}
use Rattle.answer_cache.proofs.shared_cache.SharedCache.restore.Goals as goal

pub put-requires-clause-handle : goal.put-requires-clause-handle
put-requires-clause-handle g c = c.entries.invariant.holds.handle

pub put-requires-clause-book : goal.put-requires-clause-book
put-requires-clause-book g c = (
  c.entries.invariant.holds.same,
  c.entries.invariant.holds.groups ∙ c.requires.book.1,
)

pub put-requires-clause-sound : goal.put-requires-clause-sound
put-requires-clause-sound g c =
    let len = c.len-at-end.ensures in
    let test = c.entries-test.true in
    sound-at c.carried.inside.entries.items c.entries.at c.index-entry.result.now (omega arith) c.index-entry.ensures
    c.carried.inside.groups c.carried.invariant.2

pub entries-preserved : goal.entries-preserved
entries-preserved g c =
    let i = c.entries.invariant in
    let p = c.put.ensures.holds in
    let new = history c.put.new.handle.book.log in
    let old = history c.entries.handle.book.log in
    let Old : CarriedView → Type 0 = λ carried. mine old 0 ≡ take c.entries.at (carried_stores carried.offers) in
    let New : CarriedView → Type 0 = λ carried. mine new 0 ≡ take (c.entries.at + 1) (carried_stores carried.offers) in
    let len = c.len-at-end.ensures in
    let test = c.entries-test.true in record {
      holds = record {
        handle = p.handle;
        number = p.number ∙ i.holds.number;
        seats = p.seats ∙ i.holds.seats;
        groups = p.groups ∙ i.holds.groups;
        same = p.same;
        names = p.names ∙ i.holds.names;
      };
      own = subst New c.carried.view_is
          (own-next c.carried.inside.entries.items c.entries.at c.index-entry.result.now (omega arith) c.index-entry.ensures
          c.entries.handle.number old new (i.holds.number ∙ c.requires.first.0) (subst Old (sym c.carried.view_is) i.own)
          c.in-Ok.ensures.put);
    }
