use Rattle.std.proofs.Common.{subst}
use Rattle.logbook.specs.Pages.{Book}
use Rattle.answer_cache.specs.Indexes.{IsIndex}
use Rattle.answer_cache.proofs.shared_cache.SharedCache.last_of.Goals as goal

pub last_by-requires-clause-index : goal.last_by-requires-clause-index
last_by-requires-clause-index c =
    let groups = c.args.self.now.groups in
    let I : Book → Type 0 = λ book. IsIndex groups book c.empty-index.result in
    subst I c.requires.book.0 (c.empty-index.ensures groups)
