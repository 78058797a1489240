use Rattle.std.proofs.Common.{List, length, ap, ◌∙◌}
use Rattle.std.specs.Str.Lines.{lines}
use Rattle.std.proofs.lemmas.Result.{err_from_is_err_and}
use Rattle.siplocate.specs.Outcomes.{shown_from, status_of_all}
use Rattle.siplocate.specs.declared.line_outcome.LineOutcome.{LineOutcome}
use Rattle.siplocate.proofs.Runs.{line_outcomes_are, not_too_many, refuses_running}
use Rattle.siplocate.proofs.run.run_text.Goals as goal

pub returns-clause-run : goal.returns-clause-run
returns-clause-run g c =
    let requests = c.in_ok-entries.field-0 in
    let one = c.in_ok-made.ensures.one_history in
    record {
      history = one.history;
      is = one.is;
      stores = one.stores;
      line_outcomes = c.in_ok-line_outcomes.line_outcomes.items;
      are = rw c.in_ok-line_outcomes.ensures
          (line_outcomes_are g.W.Wire.gives g.C.Clock.shows c.args.cache.now one.history 1 (lines c.args.text.now)
          requests.entries.items requests.jobs.items c.in_ok-made.made.items c.in_ok-entries.ensures.entries
          c.in_ok-made.ensures.outcomes one.begin);
      shown = c.in_ok-lines.ensures ∙ ap (λ (line_outcomes : List LineOutcome). shown_from 1 line_outcomes) c.as_slice.ensures.value;
      status_is = c.status.ensures.status ∙ ap status_of_all c.as_slice-2.ensures.value;
    }

pub returns-clause-few : goal.returns-clause-few
returns-clause-few g c =
    let requests = c.in_ok-entries.field-0 in
    not_too_many c.args.text.now requests.entries.items requests.jobs.items c.in_ok-entries.ensures.entries
    c.in_ok-entries.ensures.few

pub returns-in_err-made-clause-refused : goal.returns-in_err-made-clause-refused
returns-in_err-made-clause-refused g c =
    let requests = c.in_ok-entries.field-0 in
    let e = err_from_is_err_and c.from_residual-in_err-made.result c.from_residual-in_err-made.ensures.1 in
    rw e.1 (refuses_running c.args.text.now (length c.args.seats.items) (length c.args.wires.items) requests.entries.items
    requests.jobs.items c.in_ok-entries.ensures.entries c.in_ok-entries.ensures.few e.0
    (rw e.2 c.in_err-made.ensures.refused))
