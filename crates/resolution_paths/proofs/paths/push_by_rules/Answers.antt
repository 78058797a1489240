use Rattle.std.proofs.Common.{subst}
use Rattle.resolution_paths.specs.Paths as spec
use Rattle.resolution_paths.specs.Sources.{Said}
use Rattle.resolution_paths.proofs.More.{adds-further, adds-none}
use Rattle.resolution_paths.proofs.paths.push_by_rules.Goals as goal

pub rules-init : goal.rules-init
rules-init g c = record {
  ready = c.answer_to.ensures.ready;
  went = λ start went. c.answer_to.ensures.went start went;
  paths = λ start went. adds-none _ _ spec.none;
}

pub rules-preserved : goal.rules-preserved
rules-preserved g c =
    let was = c.rules.invariant in
    record {
      ready = c.push_by_rule.ensures.ready;
      went = λ start went. c.push_by_rule.ensures.went start (was.went start went);
      paths = λ start went.
          let said = Said g.S.AnswerSource.goes (g.S.AnswerSource.says c.args.source.now) start in
          adds-further (spec.ByRule said c.life-life.result) _ c.rules.rule-index c.rule-item.result _ _ _ c.rules-test.true
          (was.paths start went)
          (subst (λ rule. spec.Adds (spec.ByRule said c.life-life.result rule) c.rules.paths.items c.push_by_rule.new.paths.items)
          c.rule-item.is (c.in_ok-push_by_rule.ensures.paths start (was.went start went)));
    }
