use Rattle.std.proofs.Common.{◌∙◌}
use Rattle.sipwhere.proofs.Told.{told-on}
use Rattle.sipwhere.proofs.open_lines.OpenLines.tell_all.Goals as goal

pub lines-preserved : goal.lines-preserved
lines-preserved g c =
    let l = c.lines in
    let said = c.in-Some.ensures in
    record {
      range = c.and-told.ensures.range l.invariant.range said.range;
      stands = λ seat was. said.stands seat (l.invariant.stands seat was);
      same = (said.same.0 ∙ l.invariant.same.0, said.same.1 ∙ l.invariant.same.1);
      tells = λ seat was start before told.
          let now = l.invariant.tells seat was start before told in
          let first = said.tells seat (l.invariant.stands seat was) in
          rw c.and-told.ensures.status
          (told-on g.W.MessageWire.gives g.C.Clock.shows seat c.args.style l.self c.tell_first.new.self start _ _ before now.0 l.told.status
          c.in-Some.first.status now.1 now.2 first said.next said.same.0 said.same.1);
      closed = c.and-told.ensures.ended l.invariant.closed said.closed l.invariant.range said.range;
    }

pub returns-then-told-clause-tells : goal.returns-then-told-clause-tells
returns-then-told-clause-tells g c = λ seat was start before told.
    let l = c.lines in
    let said = c.in-Some.ensures in
    let now = l.invariant.tells seat was start before told in
    let first = said.tells seat (l.invariant.stands seat was) in
    rw c.and-told.ensures.status
    (told-on g.W.MessageWire.gives g.C.Clock.shows seat c.args.style l.self c.tell_first.new.self start _ _ before now.0 l.told.status
    c.in-Some.first.status now.1 now.2 first said.next said.same.0 said.same.1)
