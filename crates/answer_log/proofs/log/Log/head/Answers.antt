use Rattle.std.proofs.Common.{◌<◌, get_or, length, List, ap, sym, ◌∙◌, arith, subst}
use Rattle.std.proofs.lemmas.List.FromFn.{get_or-map-range_with_len}
use Rattle.logbook.specs.Pages.{Named as Word}
use Rattle.answer_log.specs.Rules.{LogView, word_at}
use Rattle.answer_log.proofs.log.Log.head.Goals as goal

pub returns : goal.returns
returns c =
    let heads = c.self.inside.heads.items in
    let G : LogView → Type 0 = λ log. c.args.group < log.groups in
    let low : c.args.group < length heads = subst G (sym c.self.view_is) c.requires in
    c.index.ensures
    ∙ (ap (λ (l : List Word). get_or l c.args.group c.index.result.now) c.self.invariant.0
    ∙ (get_or-map-range_with_len (word_at c.self.inside.idle.book) 0 (length heads) c.args.group c.args.group c.index.result.now low
    (omega arith)
    ∙ ap (λ (log : LogView). word_at log.book c.args.group) c.self.view_is))
