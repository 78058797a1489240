use Rattle.std.proofs.Common.{arith}
use Rattle.dns_answers.proofs.KeptRecords.{passes, keeps, full, over}
use Rattle.dns_answers.proofs.kept.kept.Goals as goal
use Rattle.dns_answers.proofs.kept.kept.Goals.{in-Some+in_ok-push_copy, in_default}

pub returns-then-len-eq-RECORD_LIMIT : goal.returns-then-len-eq-RECORD_LIMIT
returns-then-len-eq-RECORD_LIMIT g c =
    let l = c.loop-entry in
    full g.T.Wanted.data_in c.args.name.now c.args.section.now c.args.limit l.entry-index l.items.items l.life l.invariant (omega arith)

pub loop-entry-preserved : goal.loop-entry-preserved
loop-entry-preserved g c =
    let l = c.loop-entry in
    elim c.match-data_for.branch [
      | in-Some+in_ok-push_copy w ↦ rw (
        w.items-is,
        w.in_ok-push_copy.ensures,
        w.life-is,
        w.life_with-life.ensures,
      )
          (keeps g.T.Wanted.data_in c.args.name.now c.args.section.now c.args.limit l.entry-index l.items.items l.life l.invariant
          c.entry-item.result (omega arith) c.entry-item.is w.in-Some.data.now w.in-Some.ensures (omega arith))
      | in_default w ↦ rw (w.items-is, w.life-is)
          (passes g.T.Wanted.data_in c.args.name.now c.args.section.now c.args.limit l.entry-index l.items.items l.life l.invariant
          c.entry-item.result (omega arith) c.entry-item.is w.in_default.ensures)
    ]

pub returns : goal.returns
returns g c =
    let l = c.loop-entry in
    over g.T.Wanted.data_in c.args.name.now c.args.section.now c.args.limit l.entry-index l.items.items l.life l.invariant (omega arith)
