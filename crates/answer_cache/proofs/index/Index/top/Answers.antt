use Rattle.std.proofs.Common.{◌-◌, ap, get_or, length, sym, take, ◌∙◌}
use Rattle.answer_cache.specs.Indexes.{top_of}
use Rattle.answer_cache.specs.declared.index.IndexEntry.{IndexEntry}
use Rattle.answer_cache.proofs.Indexing.{last-entry, top-last}
use Rattle.answer_cache.proofs.index.Index.top.Goals as goal

pub returns-in-len1-up : goal.returns-in-len1-up
returns-in-len1-up c =
    let entries = c.as_slice.result.now in
    let d : IndexEntry = record { hash = 0; node = 0 } in
    sym (ap top_of (sym c.as_slice.ensures.value ∙ last-entry entries d c.in-len1-up.len_at_least)
    ∙ top-last 0 (take (length entries - 1) entries) (get_or entries (length entries - 1) d))
