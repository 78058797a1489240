use Rattle.std.proofs.Common.{◌∙◌}
use Rattle.std.specs.Option.{option_map}
use Rattle.resolution_paths.specs.Paths as spec
use Rattle.resolution_paths.specs.Sources.{Said}
use Rattle.resolution_paths.proofs.More.{adds-further, adds-none, adds-server}
use Rattle.resolution_paths.proofs.paths.push_service.Goals as goal

pub servers-init : goal.servers-init
servers-init g c = record {
  ready = c.answer_to.ensures.ready;
  went = λ start went. c.answer_to.ensures.went start went;
  paths = λ start went. adds-none _ _ spec.none;
}

pub servers-preserved : goal.servers-preserved
servers-preserved g c =
    let was = c.servers.invariant in
    record {
      ready = c.push_path.ensures.ready;
      went = λ start went. c.push_path.ensures.went start (was.went start went);
      paths = λ start went.
          let said = Said g.S.AnswerSource.goes (g.S.AnswerSource.says c.args.source.now) start in
          let gives = spec.ByServer said c.args.transport c.args.service.now
          (option_map (λ it. it.0) (option_map spec.naming_of c.args.by)) c.shared_life-life.result in
          adds-further gives _ c.servers.server-index c.server-item.result _ _ _ c.servers-test.true (was.paths start went)
          (adds-server said c.args.transport c.args.service.now _ _ _ c.shared_life-life.result _ _ _ _
          c.in_ok-try_clone.ensures c.in_ok-rule_by.ensures
          (c.in_ok-try_clone-2.ensures ∙ c.server-item.is)
          (c.in_ok-push_path.ensures.path start (was.went start went)));
    }
