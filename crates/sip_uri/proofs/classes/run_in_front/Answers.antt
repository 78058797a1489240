use Rattle.std.proofs.Common.{◌≡◌, ℕ, Bool, sym, Some, None, arith}
use Rattle.sip_uri.specs.ViaClasses.{behind_row}
use Rattle.sip_uri.specs.Readers.Runs.{octets_of, behind_escaped}
use Rattle.sip_uri.proofs.ClassTable.{no_percent}
use Rattle.sip_uri.proofs.RunFronts.{RunFront, front_row, front_more, front_low, front_taken, run_ends}
use Rattle.sip_uri.proofs.RunSteps.{escape_more}
use Rattle.sip_uri.proofs.ViaRows.{Ends, behind_ends, length_behind_row}
use Rattle.sip_uri.proofs.classes.run_in_front.Goals as goal
use Rattle.sip_uri.proofs.classes.run_in_front.Goals.{After-cut}

here : (c : After-cut) → RunFront (octets_of c.args.class) c.args.text.now c.cut.result.1.now
here c =
    rw c.cut.ensures.back
    (front_row (octets_of c.args.class) (no_percent c.args.class) c.args.text.now c.loop-behind.rest.now c.loop-behind.invariant)

pub slice_bounds-result-count : goal.slice_bounds-result-count
slice_bounds-result-count c =
    front_low (octets_of c.args.class) c.args.text.now c.cut.result.1.now (here (goal.at.slice_bounds-result-count c).After-cut)

pub returns-in-None-clause-joined : goal.returns-in-None-clause-joined
returns-in-None-clause-joined c =
    let is = here (goal.at.returns-in-None-clause-joined c).After-cut in
    rw (front_taken (octets_of c.args.class) c.args.text.now c.cut.result.1.now is) is.joined

pub returns-in-None-clause-run : goal.returns-in-None-clause-run
returns-in-None-clause-run c =
    let is = here (goal.at.returns-in-None-clause-run c).After-cut in
    rw (front_taken (octets_of c.args.class) c.args.text.now c.cut.result.1.now is) is.run

pub returns-in-None-clause-ends : goal.returns-in-None-clause-ends
returns-in-None-clause-ends c =
    let ends : Ends (octets_of c.args.class) c.cut.result.1.now =
    rw c.cut.ensures.back (behind_ends (octets_of c.args.class) c.loop-behind.rest.now) in
    let none : behind_escaped c.cut.result.1.now ≡ None = rw c.in-None.is at (sym c.behind_escaped.ensures) in
    run_ends (octets_of c.args.class) c.cut.result.1.now ends none

pub loop-behind-smaller : goal.loop-behind-smaller
loop-behind-smaller c =
    let class : ℕ → Bool = octets_of c.args.class in
    let rest = c.loop-behind.rest.now in
    let some : behind_escaped (behind_row class rest) ≡ Some c.in-Some.behind.now =
    rw (c.in-Some.is, c.cut.ensures.back) at (sym c.behind_escaped.ensures) in
    let k = escape_more class (behind_row class rest) c.in-Some.behind.now some in
    omega (arith, k.1, length_behind_row class rest)

pub loop-behind-preserved : goal.loop-behind-preserved
loop-behind-preserved c =
    let some : behind_escaped c.cut.result.1.now ≡ Some c.in-Some.behind.now = rw c.in-Some.is at (sym c.behind_escaped.ensures) in
    front_more (octets_of c.args.class) c.args.text.now c.cut.result.1.now c.in-Some.behind.now
    (here (goal.at.loop-behind-preserved c).After-cut) some
