use Rattle.std.proofs.Common.{ℕ, subst}
use Rattle.answer_log.specs.Handles.{SeesMore}
use Rattle.answer_cache.proofs.Placing.{sees-trans}
use Rattle.answer_cache.proofs.shared_cache.SharedCache.make_ready.Goals as goal

pub returns-in-Ok-clause-seen : goal.returns-in-Ok-clause-seen
returns-in-Ok-clause-seen g c =
    let h = c.args.handle.now in
    let S : ℕ → Type 0 = λ n. SeesMore n c.shelve.new.handle.book.log c.shelve-2.new.handle.book.log in
    sees-trans h.number h.book.log c.shelve.new.handle.book.log c.shelve-2.new.handle.book.log c.shelve.ensures.seen
    (subst S c.shelve.ensures.holds.number c.shelve-2.ensures.seen)

pub returns-clause-seen : goal.returns-clause-seen
returns-clause-seen g c =
    let h = c.args.handle.now in
    let S : ℕ → Type 0 = λ n. SeesMore n c.shelve.new.handle.book.log c.shelve-2.new.handle.book.log in
    sees-trans h.number h.book.log c.shelve.new.handle.book.log c.shelve-2.new.handle.book.log c.shelve.ensures.seen
    (subst S c.shelve.ensures.holds.number c.shelve-2.ensures.seen)
