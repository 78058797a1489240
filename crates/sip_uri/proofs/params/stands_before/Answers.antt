use Rattle.std.proofs.Common.{◌≡◌, true, false, Some, None, sym, ◌∙◌}
use Rattle.ip_text.specs.Parts.{before, behind}
use Rattle.sip_uri.specs.Readers.Params.{is_same, name_of}
use Rattle.sip_uri.proofs.ParamSteps.{stands_here, stands_nowhere, stands_further}
use Rattle.sip_uri.proofs.params.stands_before.Goals as goal

pub returns-then-is_same : goal.returns-then-is_same
returns-then-is_same c =
    let same : is_same (name_of (before 59 c.loop.rest.now)) c.args.name.now ≡ true =
    rw (c.name_of.ensures, c.next_part.ensures.front) at (sym c.is_same.ensures ∙ c.if-is_same.true) in
    sym (stands_here c.args.params.now c.args.name.now c.loop.rest.now c.args.count c.loop.counter c.loop.invariant c.loop-test.true same)

pub returns-in-None : goal.returns-in-None
returns-in-None c =
    let none : behind 59 c.loop.rest.now ≡ None = rw c.in-None.is at (sym c.next_part.ensures.back) in
    let other : is_same (name_of (before 59 c.loop.rest.now)) c.args.name.now ≡ false =
    rw (c.name_of.ensures, c.next_part.ensures.front) at (sym c.is_same.ensures ∙ c.if-is_same.false) in
    sym (stands_nowhere c.args.params.now c.args.name.now c.loop.rest.now c.args.count c.loop.counter c.loop.invariant
    c.loop-test.true none other)

pub loop-preserved : goal.loop-preserved
loop-preserved c =
    let some : behind 59 c.loop.rest.now ≡ Some c.in-Some.behind.now = rw c.in-Some.is at (sym c.next_part.ensures.back) in
    let other : is_same (name_of (before 59 c.loop.rest.now)) c.args.name.now ≡ false =
    rw (c.name_of.ensures, c.next_part.ensures.front) at (sym c.is_same.ensures ∙ c.if-is_same.false) in
    stands_further c.args.params.now c.args.name.now c.loop.rest.now c.args.count c.loop.counter c.loop.invariant c.loop-test.true
    c.in-Some.behind.now some other
