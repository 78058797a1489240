use Rattle.std.proofs.Common.{sym, ◌∙◌}
use Rattle.resolution_paths.specs.Paths.{ArePaths, ArePathsOf}
use Rattle.resolution_paths.specs.Sources.{Said, here}
use Rattle.resolution_paths.proofs.EachPath.{each-of_request}
use Rattle.resolution_paths.proofs.Heard.{paths-heard}
use Rattle.resolution_paths.proofs.More.{adds-whole, no-paths, none-of, of-request}
use Rattle.resolution_paths.proofs.paths.paths_of.Goals as goal

pub returns-in_default : goal.returns-in_default
returns-in_default g c =
    let said = Said g.S.AnswerSource.goes (g.S.AnswerSource.says c.args.source.now) c.args.seat.now in
    let whole : ArePathsOf said c.args.request.now c.new-paths.result.items =
    no-paths said c.args.request.now c.target.result.now c.new-paths.result.items (sym c.target.ensures)
    c.in_default.not-Domain c.new-paths.ensures.items in
    record {
      ready = c.requires;
      went = here;
      whole = paths-heard said c.args.request.now c.new-paths.result.items whole;
      paths = each-of_request said c.args.request.now c.new-paths.result.items whole;
    }

pub returns-in_err-push_all-clause-went : goal.returns-in_err-push_all-clause-went
returns-in_err-push_all-clause-went g c = c.push_all.ensures.went c.args.seat.now here

-- the paths are those of the request
whole : (g : _) (c : goal.In_ok-push_all g)
    → ArePathsOf (Said g.S.AnswerSource.goes (g.S.AnswerSource.says c.args.source.now) c.args.seat.now) c.args.request.now
    c.push_all.new.paths.items
whole g c =
    let said = Said g.S.AnswerSource.goes (g.S.AnswerSource.says c.args.source.now) c.args.seat.now in
    of-request said c.args.request.now c.in-Domain.domain c.is_none-has_services.result c.is_none-has_rules.result
    c.push_all.new.paths.items (sym c.target.ensures ∙ c.in-Domain.is)
    (none-of _ _ _ c.is_none-has_services.ensures c.port.ensures) (none-of _ _ _ c.is_none-has_rules.ensures c.spoken.ensures)
    (adds-whole (ArePaths said c.in-Domain.domain c.is_none-has_services.result c.is_none-has_rules.result)
    c.new-paths.result.items c.push_all.new.paths.items c.new-paths.ensures.items
    (c.in_ok-push_all.ensures.paths c.args.seat.now here))

pub returns-clause-went : goal.returns-clause-went
returns-clause-went g c = c.push_all.ensures.went c.args.seat.now here

pub returns-clause-whole : goal.returns-clause-whole
returns-clause-whole g c =
    paths-heard (Said g.S.AnswerSource.goes (g.S.AnswerSource.says c.args.source.now) c.args.seat.now) c.args.request.now
    c.push_all.new.paths.items (whole g c)

pub returns-clause-paths : goal.returns-clause-paths
returns-clause-paths g c =
    each-of_request (Said g.S.AnswerSource.goes (g.S.AnswerSource.says c.args.source.now) c.args.seat.now) c.args.request.now
    c.push_all.new.paths.items (whole g c)
