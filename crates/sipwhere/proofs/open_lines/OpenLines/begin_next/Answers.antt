use Rattle.std.proofs.Common.{◌<◌, length, arith}
use Rattle.sipwhere.proofs.Meant.{meant-next, results-needless}
use Rattle.sipwhere.proofs.open_lines.OpenLines.begin_next.Goals as goal

pub returns-in-Some-clause-stands : goal.returns-in-Some-clause-stands
returns-in-Some-clause-stands g c = λ seat was.
    let before = rw (← c.self.view_is) at was in
    let lines = c.self.inside.lines.now in
    let inside : c.len-place.result < length lines = omega arith in
    record {
      requests = c.submit-line_outcome.ensures.stand seat before.requests;
      results = rw c.put.ensures (results-needless _ _ seat c.self.inside.settings lines _ _ _ _ _ inside before.results
          c.in-Some.ensures.line_outcome c.without_reply-result.ensures.became c.without_reply-result.ensures.account);
    }

pub returns-in_default-clause-stands : goal.returns-in_default-clause-stands
returns-in_default-clause-stands g c = λ seat was.
    let before = rw (← c.self.view_is) at was in
    record { requests = c.submit-line_outcome.ensures.stand seat before.requests; results = before.results }
