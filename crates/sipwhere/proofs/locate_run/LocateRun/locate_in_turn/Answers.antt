use Rattle.std.proofs.Common.{◌∷◌, ◌∙◌, [], List, take, get_or, sym, subst}
use Rattle.std.proofs.lemmas.List.{take_more}
use Rattle.sipwhere.specs.Runs.{IsRun}
use Rattle.sipwhere.specs.declared.line.Line.{Line}
use Rattle.sipwhere.proofs.Told.{run-more, run-of, stays-through}
use Rattle.sipwhere.proofs.locate_run.LocateRun.locate_in_turn.Goals as goal

pub lines-preserved : goal.lines-preserved
lines-preserved g c =
    let done = c.locate_side_by_side.ensures in
    let was = c.lines.invariant in
    let lines : List Line = c.args.lines.now in
    let at = c.lines.line-index in
    let none : Line = record { number = 0; text = record { ref_ptr = (0, 0); now = [] } } in
    let line = get_or lines at none in
    let before = c.lines.self in
    let after = c.locate_side_by_side.new.self in
    let one = run-of _ _ _ _ _ _ _ _ _ (rw was.settings at done.run) in
    record {
      settings = done.settings ∙ was.settings;
      run = subst
          (λ l. IsRun g.W.MessageWire.gives g.C.Clock.shows after.seat c.args.self.now.settings c.args.style l c.args.self.now.printed
          after.printed c.and-told.result.status)
          (sym (take_more lines at none c.lines-test.true))
          (run-more _ _ before.seat _ _ _ (take at lines) (line ∷ []) _ before.printed _ c.lines.told.status
          c.locate_side_by_side.result.status _ done.later (λ five. c.and-told.ensures.fault five was.range done.range)
          c.and-told.ensures.status was.run one);
      later = stays-through _ _ _ _ _ was.later done.later;
      range = c.and-told.ensures.range was.range done.range;
      closed = c.and-told.ensures.ended was.closed done.closed was.range done.range;
    }
