use Rattle.std.proofs.Common.{take}
use Rattle.resolution_paths.specs.Paths as spec
use Rattle.resolution_paths.specs.Sources.{Said, Went}
use Rattle.resolution_paths.proofs.paths.push_by_rules.Given as goal

abbrev pub invariant-rules : goal.invariant-rules
invariant-rules g l = record {
  ready : g.S.AnswerSource.ready l.source l.seat;
  went : (start : g.row.S-Seat.Denot) → Went g.S.AnswerSource.goes start l.fn.seat → Went g.S.AnswerSource.goes start l.seat;
  paths : (start : g.row.S-Seat.Denot) → Went g.S.AnswerSource.goes start l.fn.seat
      → spec.Adds (spec.Joined (spec.ByRule (Said g.S.AnswerSource.goes (g.S.AnswerSource.says l.source) start) l.life)
      (take l.rule-index l.rule-items)) l.fn.paths.items l.paths.items;
}
