use Rattle.std.proofs.Common.{◌<◌, ◌∙◌, length, arith}
use Rattle.std.proofs.Math.ListN.{length-set}
use Rattle.sip_resolver.specs.Cancels.{requests_with}
use Rattle.sipwhere.proofs.Meant.{results-needless, meant-left}
use Rattle.sipwhere.proofs.open_lines.OpenLines.give_up.Goals as goal

pub invariant_of-self : goal.invariant_of-self
invariant_of-self g c = record {
  few = c.self.invariant.few;
  own = meant-left c.self.inside.settings c.self.inside.lines.now c.self.inside.resolver.requests
      c.cancel_over-was_inside.new.resolver.requests (requests_with c.args.place c.self.inside.resolver.requests)
      c.cancel_over-was_inside.ensures.kept c.self.invariant.own;
  as_many = rw c.put.ensures (length-set _ _ _ ∙ c.self.invariant.as_many);
}

pub returns-clause-stands : goal.returns-clause-stands
returns-clause-stands g c = λ seat was.
    let before = rw (← c.self.view_is) at was in
    let lines = c.self.inside.lines.now in
    let needless = c.timed_out-line_outcome.ensures in
    let within = rw (← c.self.view_is) at c.requires.inside in
    let inside : c.args.place < length lines = omega (arith, within) in
    record {
      requests = c.cancel_over-was_inside.ensures.stand seat before.requests;
      results = rw c.put.ensures (results-needless _ _ seat c.self.inside.settings lines _ _ _ _ _ inside before.results needless
          c.without_reply-result.ensures.became c.without_reply-result.ensures.account);
    }
