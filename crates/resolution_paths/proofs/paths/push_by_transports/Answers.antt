use Rattle.resolution_paths.specs.Paths as spec
use Rattle.resolution_paths.specs.Sources.{Said}
use Rattle.resolution_paths.proofs.More.{adds-further, adds-none}
use Rattle.resolution_paths.proofs.paths.push_by_transports.Goals as goal

pub transports-init : goal.transports-init
transports-init g c = record {
  ready = c.requires;
  went = λ start went. went;
  paths = λ start went. adds-none _ _ spec.none;
}

pub transports-preserved : goal.transports-preserved
transports-preserved g c =
    let was = c.transports.invariant in
    record {
      ready = c.push_by_transport.ensures.ready;
      went = λ start went. c.push_by_transport.ensures.went start (was.went start went);
      paths = λ start went.
          let said = Said g.S.AnswerSource.goes (g.S.AnswerSource.says c.args.source.now) start in
          adds-further (spec.ByTransport said c.args.domain.now) _ c.transports.transport-index _ _ _ _ c.transports-test.true
          (was.paths start went) (c.in_ok-push_by_transport.ensures.paths start (was.went start went));
    }
