use Rattle.std.proofs.Common.{[], ◌∙◌}
use Rattle.answer_log.specs.Handles.{spent_of}
use Rattle.std.proofs.lemmas.List.{append-nil}
use Rattle.answer_cache.proofs.Costing as costs
use Rattle.answer_cache.proofs.Indexing.{ahead-told, ok-found}
use Rattle.answer_cache.proofs.shared_cache.SharedCache.last_told.Goals as goal

-- ---- where the index tells what is ahead

pub returns-then-cursor-top-clause-last : goal.returns-then-cursor-top-clause-last
returns-then-cursor-top-clause-last c =
    let a = c.args in
    let log = a.cursor.now.seen.log in
    ok-found c.last_in.result (λ found it left ahead. it left
    (ahead-told a.self.now.groups a.self.now.book a.cursor.now a.index.now log left c.law_log_keeps_its_rule.ensures
    ([], append-nil log) c.requires.behind c.requires.groups.0 c.requires.groups.0
    c.requires.index ahead (c.if-cursor-top.true ∙ c.top.ensures))) c.last_in.ensures.last

pub returns-then-cursor-top-clause-costs : goal.returns-then-cursor-top-clause-costs
returns-then-cursor-top-clause-costs c =
    costs.with_links (spent_of c.args.handle.now) (spent_of c.last_in.new.handle) c.args.links c.last_in.ensures.costs
