use Rattle.std.proofs.Common.{◌<◌, length, arith, ap}
use Rattle.sipwhere.proofs.Meant.{results-ended}
use Rattle.sipwhere.proofs.open_lines.OpenLines.settle.Goals as goal

pub returns : goal.returns
returns g c = record {
  same = (ap (λ it. it.told) c.self.view_is, ap (λ it. it.lines) c.self.view_is, ap (λ it. it.settings) c.self.view_is);
  stands = λ seat was is account.
      let before = rw (← c.self.view_is) at was in
      let told = rw (← c.self.view_is) at account in
      let own = rw (← c.self.view_is) at c.requires.own in
      let within = rw (← c.self.view_is) at c.requires.inside in
      let lines = c.self.inside.lines.now in
      let inside : c.number-place.result < length lines = omega (arith, within) in
      record {
        requests = before.requests;
        results = rw c.put.ensures (results-ended _ _ seat c.self.inside.settings lines _ c.number-place.result _ c.args.ended.sought
            c.args.ended.outcome _ _ inside c.number-place.ensures c.into_outcome-outcome.ensures own
            c.line_outcome_of-line_outcome.ensures is (told _) before.results);
      };
}
