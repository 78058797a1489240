use Rattle.std.proofs.Common.{◌∙◌, sym}
use Rattle.std.proofs.lemmas.List.{append-nil}
use Rattle.sip_selection.proofs.OverUdp.{one-more}
use Rattle.sip_selection.proofs.fallbacks.all_over_udp.Goals as goal
use Rattle.sip_selection.proofs.fallbacks.all_over_udp.Goals.{in-Some+in_ok-push, in_default}

pub loop-target-preserved : goal.loop-target-preserved
loop-target-preserved c =
    let more = one-more c.args.targets.now c.loop-target.target-index _ c.over_udp.result c.loop-target-test.true c.over_udp.ensures in
    elim c.match-over_udp.branch [
      | in-Some+in_ok-push w ↦ (let grown = rw w.in-Some.is at more in
          rw (w.all-is, w.in_ok-push.ensures.items, c.loop-target.invariant) (sym grown))
      | in_default w ↦ (let same = rw w.in_default.is at more in
          rw (w.all-is, c.loop-target.invariant) (sym (same ∙ append-nil _)))
    ]
