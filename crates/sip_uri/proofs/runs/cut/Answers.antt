use Rattle.std.proofs.Common.{sym, ◌∙◌}
use Rattle.sip_uri.proofs.RunSteps.{row_to_end, row_front, row_back, row_more_front, row_more_back}
use Rattle.sip_uri.proofs.runs.cut.Goals as goal

pub returns-then-not-has-clause-front : goal.returns-then-not-has-clause-front
returns-then-not-has-clause-front g c =
    let so_far = c.loop-at.invariant in
    row_front (g.C.OctetClass.octets c.args.class) c.args.text.now c.loop-at.at so_far.front so_far.back c.loop-at-test.true
    (sym c.has.ensures ∙ c.if-not-has.true)

pub returns-then-not-has-clause-back : goal.returns-then-not-has-clause-back
returns-then-not-has-clause-back g c =
    let so_far = c.loop-at.invariant in
    row_back (g.C.OctetClass.octets c.args.class) c.args.text.now c.loop-at.at so_far.front so_far.back c.loop-at-test.true
    (sym c.has.ensures ∙ c.if-not-has.true)

pub loop-at-preserved : goal.loop-at-preserved
loop-at-preserved g c =
    let so_far = c.loop-at.invariant in
    let class = g.C.OctetClass.octets c.args.class in
    let is = sym c.has.ensures ∙ c.if-not-has.false in
    record {
      front = row_more_front class c.args.text.now c.loop-at.at so_far.front so_far.back c.loop-at-test.true is;
      back = row_more_back class c.args.text.now c.loop-at.at so_far.front so_far.back c.loop-at-test.true is;
    }

pub returns-clause-front : goal.returns-clause-front
returns-clause-front g c =
    let so_far = c.loop-at.invariant in
    (row_to_end (g.C.OctetClass.octets c.args.class) c.args.text.now c.loop-at.at so_far.front so_far.back c.loop-at-test.false).0
