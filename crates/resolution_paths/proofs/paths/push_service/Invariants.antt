use Rattle.std.proofs.Common.{take}
use Rattle.std.specs.Option.{option_map}
use Rattle.resolution_paths.specs.Paths as spec
use Rattle.resolution_paths.specs.Sources.{Said, Went}
use Rattle.resolution_paths.proofs.paths.push_service.Given as goal

abbrev pub invariant-servers : goal.invariant-servers
invariant-servers g l = record {
  ready : g.S.AnswerSource.ready l.source l.seat;
  went : (start : g.row.S-Seat.Denot) → Went g.S.AnswerSource.goes start l.fn.seat → Went g.S.AnswerSource.goes start l.seat;
  paths : (start : g.row.S-Seat.Denot) → Went g.S.AnswerSource.goes start l.fn.seat
      → spec.Adds (spec.Joined
      (spec.ByServer (Said g.S.AnswerSource.goes (g.S.AnswerSource.says l.source) start) l.transport l.service
      (option_map (λ it. it.0) (option_map spec.naming_of l.by)) l.life)
      (take l.server-index l.server-items)) l.fn.paths.items l.paths.items;
}
