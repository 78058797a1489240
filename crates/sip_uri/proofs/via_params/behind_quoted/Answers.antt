use Rattle.sip_uri.proofs.RunSteps.{behind_escape, behind_backslash, behind_character}
use Rattle.sip_uri.proofs.via_params.behind_quoted.Goals as goal
use Rattle.sip_uri.proofs.via_params.behind_quoted.Goals.{then-escaped+else-octet-ge128, else-escaped+then-octet-eq92, else-escaped+else-octet-eq92+else-octet-eq34}

pub loop-at-preserved : goal.loop-at-preserved
loop-at-preserved c =
    elim c.if-escaped.branch [
      | then-escaped+else-octet-ge128 w ↦ behind_escape c.args.text.now c.loop-at.at c.loop-at.escaped c.loop-at.invariant
          c.loop-at-test.true c.if-octet-eq13.false c.if-octet-eq10.false w.if-escaped.true w.if-octet-ge128.false c.if-escaped.escaped
          w.escaped-is
      | else-escaped+then-octet-eq92 w ↦ behind_backslash c.args.text.now c.loop-at.at c.loop-at.escaped c.loop-at.invariant
          c.loop-at-test.true c.if-octet-eq13.false c.if-octet-eq10.false w.if-escaped.false w.if-octet-eq92.true c.if-escaped.escaped
          w.escaped-is
      | else-escaped+else-octet-eq92+else-octet-eq34 w ↦ behind_character c.args.text.now c.loop-at.at c.loop-at.escaped
          c.loop-at.invariant c.loop-at-test.true c.if-octet-eq13.false c.if-octet-eq10.false w.if-escaped.false w.if-octet-eq92.false
          w.if-octet-eq34.false c.if-escaped.escaped w.escaped-is
    ]
