use Rattle.std.proofs.Common.{ap}
use Rattle.answer_cache.proofs.Placing.{again}
use Rattle.answer_cache.proofs.shared_cache.SharedCache.attempt.Goals as goal

pub returns-clause-again : goal.returns-clause-again
returns-clause-again g c =
    let p = c.place in
    again c.args.self.now.groups c.args.self.now.book p.new.pen.book c.args.handle.now.book.log p.new.handle.book.log
    c.args.handle.now.number c.args.node.now
    c.args.pen.now.nib p.new.pen.nib p.result _ c.requires.ready p.ensures.placed
    (rw (ap (λ it. it.book) c.self.view_is) at p.ensures.pen)
